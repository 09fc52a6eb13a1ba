use Rattle.lcm_laws.proofs.NumberLaws.{numbered}
use Rattle.lcm_laws.proofs.operations.numbers_run_from_one.Goals as goal

pub returns : goal.returns
returns c = numbered
