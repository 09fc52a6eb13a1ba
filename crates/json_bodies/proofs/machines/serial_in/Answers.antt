-- The number that was read, where it has four bytes.
use Rattle.std.proofs.Common.{rules}
use Rattle.json_bodies.proofs.MachineLemmas.{serial_read}
use Rattle.json_bodies.proofs.machines.serial_in.Goals as goal

pub returns-then-serial : goal.returns-then-serial
returns-then-serial c = rw (← (serial_read _ _ _ c.in_ok-serial.ensures.found.0 c.in_ok-serial.ensures.found.1)) (search rules)
