-- The row is that of the number behind its place.
use Rattle.json_views.proofs.OccurrenceLists.{row_there}
use Rattle.json_views.proofs.occurrences.row_at.Goals as goal

pub returns : goal.returns
returns c =
    let l = c.requires.legal in
    row_there c.args.occurrences.now.rows c.args.place _ l (c.occurrence.ensures.looks l.width l.manager l.history l.legal l.stands)
