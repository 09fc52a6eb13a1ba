-- The text of a JSON value as it is made part by part (RFC 8259 2; 4, Objects; 5, Arrays).
use Rattle.std.specs.Prelude.{Bool, List, [], ℕ, false, true, ◌++◌, ◌∷◌}
use Rattle.serde_json.specs.Data.{Data, string}
use Rattle.serde_json.specs.Written.{comma_if, compact_text}

-- what is written so far, and whether a value ended there, so that a comma goes before the next one
pub record TextSoFar : Type 0 where
  pub text : List ℕ
  pub after_value : Bool

-- nothing is
abbrev pub nothing_written : TextSoFar
nothing_written = record { text = []; after_value = false }

-- with a part behind it, which ends a value or doesn't
abbrev pub with_part : List ℕ → Bool → TextSoFar → TextSoFar
with_part part ends_value w = record { text = w.text ++ (comma_if w.after_value ++ part); after_value = ends_value }

-- with a value behind it
abbrev pub with_value : Data → TextSoFar → TextSoFar
with_value d w = with_part (compact_text d) true w

-- with the name of a member behind it, which is a string, and its colon
abbrev pub with_name : List ℕ → TextSoFar → TextSoFar
with_name name w = with_part (compact_text (string name) ++ 58 ∷ []) false w

-- with a member behind it
abbrev pub with_member : List ℕ → Data → TextSoFar → TextSoFar
with_member name d w = with_value d (with_name name w)

-- with the bracket behind it that begins an array or an object
abbrev pub opened : ℕ → TextSoFar → TextSoFar
opened bracket w = with_part (bracket ∷ []) false w

-- with the bracket behind it that ends one
abbrev pub closed : ℕ → TextSoFar → TextSoFar
closed bracket w = record { text = w.text ++ bracket ∷ []; after_value = true }
