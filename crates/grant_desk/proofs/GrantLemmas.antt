-- What is read of a grant.
use Rattle.std.proofs.Common.{◌≡◌, ◌++◌, List, [], ◌∷◌, ℕ, Some, None, Option, refl, ap, ◌↔◌, IsSome, sym}
use Rattle.std.proofs.Common.{append_assoc, Bool, true, false}
use Rattle.std.specs.Option.{IfSome}
use Rattle.std.specs.Prelude.{IsUtf8, option_map}
use Rattle.std.specs.Str.{is_utf8}
use Rattle.std.proofs.lemmas.Str.{IsUtf8-from_is_utf8, is_utf8-from_IsUtf8}
use Rattle.serde_json.specs.Read.{read}
use Rattle.serde_json.specs.Data.{Data, Items, item}
use Rattle.lcm_events.specs.declared.places.Place.{Place}
use Rattle.vnfm_base.specs.Text.{IsName}
use Rattle.vnfm_base.proofs.TextTests.{test-from_short_text, no_test-from_none}
use Rattle.grant_desk.specs.Answers.{grant_in, grant_of, name_text, row_in, rows_in}

-- what the constructor of names answers
pub name_text-is : (bytes : List ℕ) (o : Option (List ℕ)) → (IsSome o ↔ IsName bytes) → IfSome o (λ n. n ≡ bytes) → o ≡ name_text bytes
name_text-is bytes None exact value = rw (no_test-from_none 255 bytes (λ is. let some = exact.1 is in cc)) refl
name_text-is bytes (Some n) exact value = rw (test-from_short_text 255 bytes (exact.0 refl)) (ap Some value)

behind : (rows : List (List ℕ × Place)) (row : List ℕ × Place) (more : Option (List (List ℕ × Place)))
    → option_map (λ ys. rows ++ ys) (option_map (λ ys. row ∷ ys) more) ≡ option_map (λ ys. (rows ++ row ∷ []) ++ ys) more
behind rows row None = refl
behind rows row (Some ys) = ap Some (sym (append_assoc rows (row ∷ []) ys))

-- one row more
pub row_read : (rows : List (List ℕ × Place)) (row : List ℕ × Place) (d : Data) (ds : Items) → row_in d ≡ Some row
    → option_map (λ ys. rows ++ ys) (rows_in (item d ds)) ≡ option_map (λ ys. (rows ++ row ∷ []) ++ ys) (rows_in ds)
row_read rows row d ds e = rw e (behind rows row (rows_in ds))

-- a value that is no row
pub no_row : (rows : List (List ℕ × Place)) (d : Data) (ds : Items) → row_in d ≡ None
    → option_map (λ ys. rows ++ ys) (rows_in (item d ds)) ≡ None
no_row rows d ds e = rw e refl

-- the grant that the bytes are, by what they are read as
pub grant-read : (bytes : List ℕ) (d : Data) → IsUtf8 bytes → read bytes ≡ Some d → grant_of bytes ≡ grant_in d
grant-read bytes d utf8 reads = rw (is_utf8-from_IsUtf8 bytes utf8, reads) refl

pub grant-unread : (bytes : List ℕ) → (IsUtf8 bytes → read bytes ≡ None) → grant_of bytes ≡ None
grant-unread bytes unread = of (is_utf8 bytes) refl where
  of : (b : Bool) → is_utf8 bytes ≡ b → grant_of bytes ≡ None
  of true e = rw (e, unread (IsUtf8-from_is_utf8 bytes e)) refl
  of false e = rw e refl
