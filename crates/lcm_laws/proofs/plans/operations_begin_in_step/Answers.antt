use Rattle.lcm_laws.proofs.BeginLaws.{begun_in_step}
use Rattle.lcm_laws.proofs.plans.operations_begin_in_step.Goals as goal

pub returns : goal.returns
returns c = begun_in_step
