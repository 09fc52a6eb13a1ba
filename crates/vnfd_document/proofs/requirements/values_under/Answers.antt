-- One step of the loop, and its end.
use Rattle.std.proofs.Common.{arith}
use Rattle.std.proofs.lemmas.Grind.{common_steps}
use Rattle.vnfd_document.proofs.requirements.values_under.Goals as goal

pub loop-thing-preserved : goal.loop-thing-preserved
loop-thing-preserved c = grind (arith, common_steps)

pub returns : goal.returns
returns c = grind (arith, common_steps)
