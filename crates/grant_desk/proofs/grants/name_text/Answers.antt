-- The constructor's two clauses are the test.
use Rattle.grant_desk.proofs.GrantLemmas.{name_text-is}
use Rattle.grant_desk.proofs.grants.name_text.Goals as goal

pub returns : goal.returns
returns c = name_text-is c.args.bytes.now c.of.result c.of.ensures.name c.of.ensures.value
