-- Turns and ends that the search closes late.
use Rattle.std.proofs.Common.{arith}
use Rattle.std.proofs.lemmas.Grind.{common_steps}
use Rattle.vnfd_nodes.proofs.sizes.size_in.Goals as goal

pub returns-in_err-unit : goal.returns-in_err-unit
returns-in_err-unit c = grind (arith, common_steps)

pub returns : goal.returns
returns c = grind (arith, common_steps)
