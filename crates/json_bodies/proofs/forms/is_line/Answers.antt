-- A text is UTF-8, and what is left of the test is its length and its bytes.
use Rattle.std.proofs.Common.{arith}
use Rattle.std.proofs.lemmas.Bool.Decides.{nat_tests}
use Rattle.json_bodies.proofs.TextLemmas.{line_test}
use Rattle.json_bodies.proofs.forms.is_line.Goals as goal

pub returns-then-text-le-LINE_MAX : goal.returns-then-text-le-LINE_MAX
returns-then-text-le-LINE_MAX c = rw (← (line_test c.args.text.now c.utf8.text)) (grind (arith, nat_tests))

pub returns-else-text-le-LINE_MAX : goal.returns-else-text-le-LINE_MAX
returns-else-text-le-LINE_MAX c = rw (← (line_test c.args.text.now c.utf8.text)) (grind (arith, nat_tests))
