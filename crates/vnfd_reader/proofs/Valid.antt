-- What the bytes of a descriptor are is valid.
use Rattle.std.proofs.Common.{◌≡◌, ℕ, List, Result, Ok, Err, refl}
use Rattle.serde_json.specs.Data.{Data}
use Rattle.lcm_events.specs.declared.descriptor.Vnfd.{Vnfd}
use Rattle.lcm_model.specs.Descriptors.{IsValid}
use Rattle.vnfd_document.proofs.NameOrder.{in_order-document}
use Rattle.vnfd_document.specs.Document.{document}
use Rattle.vnfd_document.specs.Order.{InOrder}
use Rattle.vnfd_document.specs.declared.fault.VnfdFault.{VnfdFault}
use Rattle.vnfd_reader.specs.Answer.{answer, read_answer}
use Rattle.vnfd_reader.proofs.ValidLaws.{document_valid}

read_valid : (r : Result Data VnfdFault) (v : Vnfd) → ((d : Data) → r ≡ Ok d → InOrder d) → read_answer r ≡ Ok v → IsValid v
read_valid (Ok d) v h is = document_valid d v (h d refl) is
read_valid (Err fault) v h is = let no : ⊥ = cc in absurd no

-- what bytes are as a descriptor is valid
pub answer_valid : (bytes : List ℕ) (v : Vnfd) → answer bytes ≡ Ok v → IsValid v
unfolding answer
answer_valid bytes v is = read_valid (document bytes) v (in_order-document bytes) is
