-- The rows are those of the history.
use Rattle.std.proofs.Common.{◌∙◌}
use Rattle.lcm_trial.proofs.CountLemmas.{came_out}
use Rattle.lcm_trial.proofs.fates.count_of.Goals as goal

pub returns : goal.returns
returns g c = λ H keeps. c.count_in.ensures ∙ came_out c.args.fate _ H (c.occurrences.ensures.table H keeps).rows
