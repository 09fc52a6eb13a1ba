-- A run with its line to standard error, or to standard output, is what the command performs.
use Rattle.vnfm_program.proofs.Courses.{performed_on_error, performed_on_output}
use Rattle.vnfm_program.proofs.program.perform.Goals as goal

pub returns-in-Once : goal.returns-in-Once
returns-in-Once g c = performed_on_error _ _ _ _ _ _ c.in-Once.is c.tell_on_error.ensures

pub returns-in-Init : goal.returns-in-Init
returns-in-Init g c = performed_on_output _ _ _ _ _ _ c.in-Init.is c.tell_on_output.ensures
