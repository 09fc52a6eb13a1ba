-- What the constructor of names answers.
use Rattle.std.proofs.Common.{◌≡◌, ℕ, List, Some, None, Option, refl, ap, ◌↔◌, IsSome, if◌then◌else◌}
use Rattle.std.specs.Option.{IfSome}
use Rattle.vnfm_base.specs.Text.{IsName}
use Rattle.vnfm_base.proofs.TextTests.{test-from_short_text, no_test-from_none}
use Rattle.vnfd_document.specs.Names.{is_name}

pub name_of-is : (text : List ℕ) (o : Option (List ℕ)) → (IsSome o ↔ IsName text) → IfSome o (λ n. n ≡ text)
    → o ≡ (if is_name text then Some text else None)
name_of-is text None exact value = rw (no_test-from_none 255 text (λ is. let some = exact.1 is in cc)) refl
name_of-is text (Some n) exact value = rw (test-from_short_text 255 text (exact.0 refl)) (ap Some value)
