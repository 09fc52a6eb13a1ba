use Rattle.lcm_model.proofs.LevelLaws.{named_in_levels}
use Rattle.lcm_plans.proofs.aims.named_in.Goals as goal

pub returns-clause-levels : goal.returns-clause-levels
returns-clause-levels c = named_in_levels _ _ _ c.requires c.level_named.ensures
