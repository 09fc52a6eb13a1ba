-- When the bytes are a document.
use Rattle.std.proofs.Common.{◌≡◌, ℕ, List, Bool, true, false, Some, None, refl}
use Rattle.std.specs.Prelude.{IsUtf8, is_some}
use Rattle.std.specs.Str.{is_utf8}
use Rattle.std.proofs.lemmas.Str.{IsUtf8-from_is_utf8, is_utf8-from_IsUtf8}
use Rattle.serde_json.specs.Data.{Data}
use Rattle.serde_json.specs.Find.{as_object}
use Rattle.serde_json.specs.Read.{read}
use Rattle.vnfd_document.specs.Document.{object_of}

pub object_of-object : (bytes : List ℕ) (d : Data) → IsUtf8 bytes → read bytes ≡ Some d → is_some (as_object d) ≡ true
    → object_of bytes ≡ Some d
object_of-object bytes d utf8 reads object = rw (is_utf8-from_IsUtf8 bytes utf8, reads, object) refl

pub object_of-none : (bytes : List ℕ) → (IsUtf8 bytes → read bytes ≡ None) → object_of bytes ≡ None
object_of-none bytes unread = of (is_utf8 bytes) refl where
  of : (b : Bool) → is_utf8 bytes ≡ b → object_of bytes ≡ None
  of true e = rw (e, unread (IsUtf8-from_is_utf8 bytes e)) refl
  of false e = rw e refl
