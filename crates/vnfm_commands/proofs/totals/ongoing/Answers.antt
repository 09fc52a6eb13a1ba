-- The rows are those of the history.
use Rattle.std.proofs.Common.{◌∙◌}
use Rattle.vnfm_commands.proofs.TotalLemmas.{going_counted}
use Rattle.vnfm_commands.proofs.totals.ongoing.Goals as goal

pub returns : goal.returns
returns g c = λ H keeps. c.ongoing_in.ensures ∙ going_counted _ H (c.occurrences.ensures.table H keeps).rows
