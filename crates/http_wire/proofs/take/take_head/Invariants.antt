use Rattle.std.proofs.Common.{◌≡◌, ◌-◌, ◌+◌, length}
use Rattle.http_frames.specs.declared.TheConstants.{HEAD_BYTES}
use Rattle.http_frames.specs.Heads.{HasReadLines}
use Rattle.http_wire.specs.Intake.{TakesIn}
use Rattle.http_wire.proofs.take.take_head.Given as goal

abbrev pub invariant-looks : goal.invariant-looks
invariant-looks g l = TakesIn g.D.Door.tells l.fn.intake l.intake × (l.intake.counts ≡ l.fn.intake.counts)
    × HasReadLines l.intake.held l.reader

abbrev pub decreases-looks : goal.decreases-looks
decreases-looks g l = HEAD_BYTES + 1 - length l.intake.held
