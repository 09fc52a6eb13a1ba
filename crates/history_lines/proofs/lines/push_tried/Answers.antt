-- What came of the request, and then the occurrence.
use Rattle.history_lines.proofs.TextLemmas.{two}
use Rattle.history_lines.proofs.lines.push_tried.Goals as goal

pub returns-in_ok-push_occurrence-in-Trouble : goal.returns-in_ok-push_occurrence-in-Trouble
returns-in_ok-push_occurrence-in-Trouble c =
    rw (c.in-Trouble.is) (two _ _ _ _ _ c.in_ok-push-in-Trouble.ensures c.in_ok-push_occurrence-in-Trouble.ensures)

pub returns-in_ok-push_occurrence-in-NotCovering : goal.returns-in_ok-push_occurrence-in-NotCovering
returns-in_ok-push_occurrence-in-NotCovering c =
    rw (c.in-NotCovering.is)
    (two _ _ _ _ _ c.in_ok-push-in-NotCovering.ensures c.in_ok-push_occurrence-in-NotCovering.ensures)
