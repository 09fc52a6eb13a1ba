use Rattle.html_text.proofs.EscapedLemmas.{escaped_inert, escaped_utf8}
use Rattle.html_text.proofs.laws.escaped_texts_are_inert.Goals as goal

pub returns-clause-inert : goal.returns-clause-inert
returns-clause-inert c = escaped_inert

pub returns-clause-utf8 : goal.returns-clause-utf8
returns-clause-utf8 c = escaped_utf8
