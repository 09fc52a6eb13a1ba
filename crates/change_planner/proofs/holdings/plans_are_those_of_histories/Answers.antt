use Rattle.change_planner.proofs.InventoryLaws.{plans_agree}
use Rattle.change_planner.proofs.holdings.plans_are_those_of_histories.Goals as goal

pub returns : goal.returns
returns c = plans_agree
