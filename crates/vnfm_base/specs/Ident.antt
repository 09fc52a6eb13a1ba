-- Identifiers: UUIDs that carry a manager's number, what is named, and its number (RFC 9562 5.8, UUID version 8).
use Rattle.std.specs.Prelude.{ℕ, ◌+◌, ◌^◌, ◌<◌, ◌≤◌, List, [], ◌∷◌, ◌++◌}
use Rattle.std.specs.Int.{to_be_bytes, w32, w64}
use Rattle.uuid.specs.Text.{hyphenated_text, lower}
use Rattle.vnfm_base.specs.declared.identifier.Kind.{Kind}
use Rattle.vnfm_base.specs.declared.identifier.Kind.TheVariants.{Instance, Occurrence, Subscription, Notice}

-- a number that an identifier can carry (own rule)
abbrev pub IsIdentNumber : ℕ → Type 0
IsIdentNumber n = (1 ≤ n) × (n < 2 ^ 62)

-- the byte that says what is named (own rule)
abbrev pub kind_byte : Kind → ℕ
kind_byte Instance = 1
kind_byte Occurrence = 2
kind_byte Subscription = 3
kind_byte Notice = 4

-- the manager's number, "vm", the version, what is named, and its number behind the variant's bit (RFC 9562 5.8; own
-- layout)
unfoldable pub ident : ℕ → Kind → ℕ → List ℕ
ident manager kind n = to_be_bytes w32 manager ++ (118 ∷ 109 ∷ 128 ∷ kind_byte kind ∷ []
    ++ to_be_bytes w64 (2 ^ 63 + n))

-- the text of an identifier: lower case, with hyphens (RFC 9562 4)
unfoldable pub ident_text : List ℕ → List ℕ
ident_text id = hyphenated_text lower id
