-- The words stand one behind the other.
use Rattle.std.proofs.Common.{append_assoc, refl}
use Rattle.vnfm_commands.proofs.ending.put_fault.Goals as goal

pub returns-in-OutOfStep-clause-bytes : goal.returns-in-OutOfStep-clause-bytes
returns-in-OutOfStep-clause-bytes c =
    rw (c.put_named-in-OutOfStep-2.ensures.bytes, c.put_named-in-OutOfStep.ensures.bytes, c.in-OutOfStep.is, append_assoc, append_assoc)
    refl
