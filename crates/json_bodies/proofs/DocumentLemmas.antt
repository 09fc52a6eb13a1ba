-- When the bytes are a document.
use Rattle.std.proofs.Common.{◌≡◌, ℕ, List, Bool, true, false, Some, None, refl}
use Rattle.std.specs.Prelude.{IsUtf8, is_some}
use Rattle.std.specs.Str.{is_utf8}
use Rattle.std.proofs.lemmas.Str.{IsUtf8-from_is_utf8, is_utf8-from_IsUtf8}
use Rattle.serde_json.specs.Data.{Data}
use Rattle.serde_json.specs.Find.{as_object}
use Rattle.serde_json.specs.Read.{read}
use Rattle.json_bodies.specs.Body.{document}

pub document-object : (bytes : List ℕ) (d : Data) → IsUtf8 bytes → read bytes ≡ Some d → is_some (as_object d) ≡ true
    → document bytes ≡ Some d
document-object bytes d utf8 reads object = rw (is_utf8-from_IsUtf8 bytes utf8, reads, object) refl

pub document-other : (bytes : List ℕ) (d : Data) → IsUtf8 bytes → read bytes ≡ Some d → is_some (as_object d) ≡ false
    → document bytes ≡ None
document-other bytes d utf8 reads object = rw (is_utf8-from_IsUtf8 bytes utf8, reads, object) refl

pub document-none : (bytes : List ℕ) → (IsUtf8 bytes → read bytes ≡ None) → document bytes ≡ None
document-none bytes unread = of (is_utf8 bytes) refl where
  of : (b : Bool) → is_utf8 bytes ≡ b → document bytes ≡ None
  of true e = rw (e, unread (IsUtf8-from_is_utf8 bytes e)) refl
  of false e = rw e refl
