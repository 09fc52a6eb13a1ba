-- Parts with a separator between each two, and the parts of some bytes.
use Rattle.std.specs.Prelude.{ℕ, ◌==◌, List, [], ◌∷◌, ◌++◌, Option, Some, None, if◌then◌else◌}
use Rattle.std.specs.Borrow.{Bor}
use Rattle.std.specs.List.{flat_map}

-- the parts, with one separator between each two
abbrev pub joined : ℕ → List (List ℕ) → List ℕ
joined separator [] = []
joined separator (part ∷ parts) = part ++ flat_map (λ p. separator ∷ p) parts

-- a byte more at the front of the first part
abbrev pub onto_first : ℕ → List (List ℕ) → List (List ℕ)
onto_first byte [] = (byte ∷ []) ∷ []
onto_first byte (part ∷ parts) = (byte ∷ part) ∷ parts

-- what stands between the separators of these bytes
abbrev pub parts_of : ℕ → List ℕ → List (List ℕ)
parts_of separator [] = [] ∷ []
parts_of separator (byte ∷ bytes) =
    if byte == separator then [] ∷ parts_of separator bytes else onto_first byte (parts_of separator bytes)

-- the same of bytes that may be used up, where no part is left
abbrev pub parts_left : ℕ → Option (Bor (List ℕ)) → List (List ℕ)
parts_left separator None = []
parts_left separator (Some bytes) = parts_of separator bytes.now
