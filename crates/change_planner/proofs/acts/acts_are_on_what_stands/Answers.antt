use Rattle.change_planner.proofs.ActLaws.{acts_on_what_stands}
use Rattle.change_planner.proofs.acts.acts_are_on_what_stands.Goals as goal

pub returns : goal.returns
returns c = acts_on_what_stands
