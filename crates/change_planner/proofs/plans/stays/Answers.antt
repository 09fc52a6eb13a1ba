-- Turns and ends that the search closes late.
use Rattle.std.proofs.Common.{arith}
use Rattle.std.proofs.lemmas.Grind.{common_steps}
use Rattle.change_planner.proofs.plans.stays.Goals as goal

pub is_among_rising-requires : goal.is_among_rising-requires
is_among_rising-requires c = grind (arith, common_steps)
