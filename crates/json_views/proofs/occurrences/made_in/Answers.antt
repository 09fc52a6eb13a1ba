-- There is a row for each operation.
use Rattle.std.proofs.Common.{◌∙◌, sym}
use Rattle.json_views.proofs.OccurrenceLists.{rows_counted}
use Rattle.json_views.proofs.occurrences.made_in.Goals as goal

pub returns : goal.returns
returns c = let l = c.requires in c.made.ensures.made l.history l.stands ∙ sym (rows_counted c.args.occurrences.now.rows l.history l.stands)
