use Rattle.std.proofs.Common.{◌≡◌, ◌-◌, ◌+◌, length}
use Rattle.http_frames.specs.declared.TheConstants.{CHUNKED_BYTES}
use Rattle.http_frames.specs.Heads.{HasHead}
use Rattle.http_frames.specs.Steps.{HasDecoded}
use Rattle.http_wire.specs.Wire.{window}
use Rattle.http_wire.specs.Intake.{TakesIn}
use Rattle.http_wire.proofs.take.take_chunked.Given as goal

abbrev pub invariant-looks : goal.invariant-looks
invariant-looks g l = TakesIn g.D.Door.tells l.fn.intake l.intake
    × HasHead l.intake.held l.head
    × HasDecoded (window l.intake.held l.head) l.decoder
    × (l.intake.counts ≡ l.fn.intake.counts)

abbrev pub decreases-looks : goal.decreases-looks
decreases-looks g l = l.head.len + CHUNKED_BYTES + 1 - length l.intake.held
