use Rattle.json_views.proofs.ShowLaws.{rows_shown}
use Rattle.json_views.proofs.laws.legal_rows_can_be_shown.Goals as goal

pub returns : goal.returns
returns c = rows_shown
