-- What serde_json reads is the document, where it is an object.
use Rattle.std.proofs.Common.{sym}
use Rattle.vnfd_document.proofs.DocumentLemmas.{object_of-object, object_of-none}
use Rattle.vnfd_document.proofs.document.object.Goals as goal

pub returns-then-is_object-clause-ok : goal.returns-then-is_object-clause-ok
returns-then-is_object-clause-ok c = object_of-object _ _ c.in-Ok.ensures.ok.0 c.in-Ok.ensures.ok.1 (sym c.if-is_object.ensures)

pub returns-else-is_memory-clause-ok : goal.returns-else-is_memory-clause-ok
returns-else-is_memory-clause-ok c =
    object_of-none _ (c.in-Err.ensures.err (λ no_room. let memory = c.is_memory.ensures.1 no_room in cc))
