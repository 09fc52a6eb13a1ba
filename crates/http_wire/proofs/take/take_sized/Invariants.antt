use Rattle.std.proofs.Common.{◌≡◌, ◌-◌, length}
use Rattle.http_frames.specs.Heads.{HasHead}
use Rattle.http_wire.specs.Intake.{TakesIn}
use Rattle.http_wire.proofs.take.take_sized.Given as goal

abbrev pub invariant-reads : goal.invariant-reads
invariant-reads g l = TakesIn g.D.Door.tells l.fn.intake l.intake × HasHead l.intake.held l.fn.head × (l.intake.counts ≡ l.fn.intake.counts)

abbrev pub decreases-reads : goal.decreases-reads
decreases-reads g l = l.end - length l.intake.held
