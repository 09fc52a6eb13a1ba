use Rattle.std.proofs.Common.{length, drop, arith}
use Rattle.std.proofs.lemmas.List.{take_at}
use Rattle.http_wire.proofs.intake.Intake.read_on.Goals as goal

pub invariant_of-self-2 : goal.invariant_of-self-2
invariant_of-self-2 g c =
    rw (take_at c.read_into.new.piece (drop (length c.read_into.new.piece) c.self.inside.piece.items) c.self.inside.piece.len (omega arith))
    (omega arith, omega arith)
