-- The constructor's two clauses are the test.
use Rattle.vnfd_document.proofs.NameLemmas.{name_of-is}
use Rattle.vnfd_document.proofs.names.name_of.Goals as goal

pub returns : goal.returns
returns c = name_of-is c.args.bytes.now c.of.result c.of.ensures.name c.of.ensures.value
