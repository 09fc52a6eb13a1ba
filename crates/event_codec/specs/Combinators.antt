-- Readers of a value from the front of a list of bytes, and the few ways to build one of others.
use Rattle.std.specs.Prelude.{ℕ, zero, suc, ◌==◌, List, [], ◌∷◌, Option, Some, None, Bool, length, take, drop, nat_lt}
use Rattle.std.specs.Prelude.{if◌then◌else◌}
use Rattle.std.specs.Int.{Width, byte_len, from_be_bytes}

-- what a reader makes of some bytes: a value and the bytes behind it, or nothing
abbrev pub Reader : Type 0 → Type 0
Reader A = List ℕ → Option (A × List ℕ)

-- go on with the value, where there is one
abbrev pub bind : {A B : Type 0} → Option A → (A → Option B) → Option B
bind None f = None
bind (Some x) f = f x

-- a value, then one whose reader depends on it
abbrev pub pair_by : {A B : Type 0} → Reader A → (A → Reader B) → Reader (A × B)
pair_by a b bytes = bind (a bytes) (λ x. bind (b x.0 x.1) (λ y. Some ((x.0, y.0), y.1)))

-- a value, then another
abbrev pub pair : {A B : Type 0} → Reader A → Reader B → Reader (A × B)
pair a b = pair_by a (λ x. b)

-- what a value is made to
abbrev pub shape : {A B : Type 0} → (A → B) → Reader A → Reader B
shape f a bytes = bind (a bytes) (λ x. Some (f x.0, x.1))

-- only a value that passes the test
abbrev pub only : {A : Type 0} → (A → Bool) → Reader A → Reader A
only test a bytes = bind (a bytes) (λ x. if test x.0 then Some x else None)

-- the reader that stands with the number
abbrev pub cases : {A : Type 0} → List (ℕ × Reader A) → ℕ → Reader A
cases [] n bytes = None
cases (x ∷ xs) n bytes = if n == x.0 then x.1 bytes else cases xs n bytes

-- a number in one byte, then what stands with it
abbrev pub sum : {A : Type 0} → List (ℕ × Reader A) → Reader A
sum xs [] = None
sum xs (n ∷ bytes) = cases xs n bytes

-- this value, and no byte
abbrev pub word : {A : Type 0} → A → Reader A
word x bytes = Some (x, bytes)

-- so many entries
abbrev pub entries : {A : Type 0} → Reader A → ℕ → Reader (List A)
entries a zero bytes = Some ([], bytes)
entries a (suc n) bytes = bind (a bytes) (λ x. bind (entries a n x.1) (λ xs. Some (x.0 ∷ xs.0, xs.1)))

-- so many bytes
abbrev pub piece : ℕ → Reader (List ℕ)
piece n bytes = if nat_lt (length bytes) n then None else Some (take n bytes, drop n bytes)

-- a number in as many bytes as the width has, the high one first
abbrev pub big_endian : Width → Reader ℕ
big_endian w = shape (from_be_bytes w) (piece (byte_len w))

-- the number of the first byte
abbrev pub u8_at : Reader ℕ
u8_at [] = None
u8_at (n ∷ bytes) = Some (n, bytes)
