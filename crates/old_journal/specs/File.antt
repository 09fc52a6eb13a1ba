-- What the bytes of a journal file of format 1 mean: a header, records behind gates, and a closed gate (own rule,
-- docs/JOURNAL.md).
use Rattle.std.specs.Prelude.{◌≡◌, ◌≢◌, ◌<◌, ℕ, zero, suc, ◌+◌, ◌==◌, if◌then◌else◌, List, [], ◌∷◌, ◌++◌, length}
use Rattle.std.specs.Prelude.{take, drop, replicate, All}
use Rattle.std.specs.Int.{w32, to_be_bytes, from_be_bytes}
use Rattle.journal_records.specs.File.{IsRecord}

-- the 32 bytes in front of the records of this manager: `VNFM-LCM`, the format 1, the manager's number and zeros
unfoldable pub header : ℕ → List ℕ
header manager = 86 ∷ 78 ∷ 70 ∷ 77 ∷ 45 ∷ 76 ∷ 67 ∷ 77 ∷ 1 ∷ [] ++ to_be_bytes w32 manager ++ replicate 19 0

-- The contents of the open records of a list of bytes, in order. The first number is a bound on how many there are.
unfoldable pub cut_records : ℕ → List ℕ → List (List ℕ)
cut_records zero bytes = []
cut_records (suc most) [] = []
cut_records (suc most) (gate ∷ rest) =
    if gate == 1
    then take (from_be_bytes w32 (take 4 rest)) (drop 4 rest)
    ∷ cut_records most (drop (from_be_bytes w32 (take 4 rest)) (drop 4 rest))
    else []

-- the contents of the open records of a file, the oldest first
unfoldable pub records : List ℕ → List (List ℕ)
records image = cut_records (length image) (drop 32 image)

-- an open record of these bytes: an open gate, their number and they
unfoldable pub framed : List ℕ → List ℕ
framed bytes = 1 ∷ to_be_bytes w32 (length bytes) ++ bytes

-- open records of these contents, one behind the other
abbrev pub blocks : List (List ℕ) → List ℕ
blocks [] = []
blocks (bytes ∷ rest) = framed bytes ++ blocks rest

-- where the gate stands behind these records
abbrev pub size : List (List ℕ) → ℕ
size rs = 32 + length (blocks rs)

-- The file is made for this manager and whole, and its records are these, the oldest first: its header, an open record
-- for each, and a gate that is closed. Behind that gate anything may stand.
pub record HasRecords (manager : ℕ) (rs : List (List ℕ)) (image : List ℕ) : Type 0 where
  pub gate : ℕ
  pub tail : List ℕ
  pub is : image ≡ header manager ++ blocks rs ++ gate ∷ tail
  pub closed : gate ≢ 1
  pub each : All IsRecord rs
  pub small : size rs < 268435456
