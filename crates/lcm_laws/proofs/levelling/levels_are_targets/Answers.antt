use Rattle.lcm_laws.proofs.LevelTargets.{level_targets}
use Rattle.lcm_laws.proofs.levelling.levels_are_targets.Goals as goal

pub returns : goal.returns
returns c = level_targets
