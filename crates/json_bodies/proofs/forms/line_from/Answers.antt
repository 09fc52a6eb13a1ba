-- The constructor's two clauses are the test.
use Rattle.std.proofs.Common.{ap, Err}
use Rattle.json_bodies.proofs.TextLemmas.{line_text-some, line_text-none, line_text-there}
use Rattle.json_bodies.proofs.forms.line_from.Goals as goal

pub returns-in-Ok-clause-ok : goal.returns-in-Ok-clause-ok
returns-in-Ok-clause-ok c = line_text-some _ _ c.in-Ok.ensures.line

pub returns-in-Err-NotLine-clause-ok : goal.returns-in-Err-NotLine-clause-ok
returns-in-Err-NotLine-clause-ok c = line_text-none _ (c.in-Err-NotLine.ensures.not_line.0 (ap Err c.in-Err-NotLine.field-0-is))

pub returns-in-Err-Memory-clause-memory : goal.returns-in-Err-Memory-clause-memory
returns-in-Err-Memory-clause-memory c = line_text-there _ (λ none. let refused = c.in-Err-Memory.ensures.not_line.1 none in cc)
