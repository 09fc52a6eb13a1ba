-- What serde_json reads is the document, where it is an object.
use Rattle.std.proofs.Common.{sym}
use Rattle.json_bodies.proofs.DocumentLemmas.{document-object, document-none}
use Rattle.json_bodies.proofs.body.object.Goals as goal

pub returns-then-is_object-clause-ok : goal.returns-then-is_object-clause-ok
returns-then-is_object-clause-ok c = document-object _ _ c.in-Ok.ensures.ok.0 c.in-Ok.ensures.ok.1 (sym c.if-is_object.ensures)

pub returns-in-Err-clause-malformed : goal.returns-in-Err-clause-malformed
returns-in-Err-clause-malformed c =
    λ malformed. document-none _ (c.in-Err.ensures.err (λ no_room. let memory = c.fault_of.ensures.memory no_room in cc))
