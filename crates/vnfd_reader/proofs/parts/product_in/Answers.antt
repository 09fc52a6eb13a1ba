-- Turns and ends that the search closes late.
use Rattle.std.proofs.Common.{arith}
use Rattle.std.proofs.lemmas.Grind.{common_steps}
use Rattle.vnfd_reader.proofs.parts.product_in.Goals as goal

pub bounds-products-0 : goal.bounds-products-0
bounds-products-0 c = grind (arith, common_steps)

pub bounds-products-0-in_ok-refuse_product : goal.bounds-products-0-in_ok-refuse_product
bounds-products-0-in_ok-refuse_product c = grind (arith, common_steps)

pub returns-clause-found : goal.returns-clause-found
returns-clause-found c = grind (arith, common_steps)
