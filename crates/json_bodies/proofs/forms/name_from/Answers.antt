-- The constructor's two clauses are the test.
use Rattle.json_bodies.proofs.TextLemmas.{name_text-is}
use Rattle.json_bodies.proofs.forms.name_from.Goals as goal

pub returns : goal.returns
returns c = name_text-is c.args.bytes.now c.of.result c.of.ensures.name c.of.ensures.value
