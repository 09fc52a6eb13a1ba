use Rattle.json_views.proofs.OccurrenceLists.{occurrences_shown}
use Rattle.json_views.proofs.laws.legal_occurrences_can_be_shown.Goals as goal

pub returns : goal.returns
returns c = occurrences_shown
