use Rattle.change_planner.proofs.InventoryLaws.{holding_tells}
use Rattle.change_planner.proofs.holdings.holdings_are_inventories.Goals as goal

pub returns : goal.returns
returns c = holding_tells
