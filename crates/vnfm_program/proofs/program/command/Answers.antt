-- What the settings name is run over; words that set nothing are run over what is there.
use Rattle.std.proofs.Common.{None, refl, inl}
use Rattle.vnfm_program.proofs.Courses.{obeyed, unset}
use Rattle.vnfm_program.proofs.program.command.Goals as goal

pub returns-in-Ok-settings : goal.returns-in-Ok-settings
returns-in-Ok-settings g c = rw c.in-Ok.is c.hold_and_perform.ensures

pub returns-in-Err-Usage : goal.returns-in-Err-Usage
returns-in-Err-Usage g c =
    inl (obeyed _ _ None _ _ _ c.args.machine.now _ _ (unset _ _ c.in-Err-Usage.field-0-is c.in-Err-Usage.ensures) refl c.in-Ok.is refl
    c.tell_on_output.ensures)
