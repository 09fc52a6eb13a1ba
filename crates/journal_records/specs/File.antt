-- What the bytes of a journal file mean: a header, batches of records behind gates, and a closed gate (own rule,
-- docs/JOURNAL.md).
use Rattle.std.specs.Prelude.{◌≡◌, ◌≢◌, ◌≤◌, ◌<◌, ℕ, zero, suc, ◌+◌, ◌==◌, if◌then◌else◌, List, [], ◌∷◌, ◌++◌, length}
use Rattle.std.specs.Prelude.{take, drop, replicate, flat_map, All}
use Rattle.std.specs.Int.{w32, to_be_bytes, from_be_bytes}
use Rattle.vnfm_base.specs.declared.limits.TheConstants.{MAX_RECORD}
use Rattle.journal_records.specs.declared.limits.TheConstants.{MAX_BATCH}

-- the 32 bytes in front of the batches of this manager: `VNFM-LCM`, the format 2, the manager's number and zeros
unfoldable pub header : ℕ → List ℕ
header manager = 86 ∷ 78 ∷ 70 ∷ 77 ∷ 45 ∷ 76 ∷ 67 ∷ 77 ∷ 2 ∷ [] ++ to_be_bytes w32 manager ++ replicate 19 0

-- the number in front of these bytes, which has four of them
unfoldable pub number : List ℕ → ℕ
number bytes = from_be_bytes w32 (take 4 bytes)

-- The records of the content of a batch, in order: each is a number, and so many bytes behind it. The first number is
-- a bound on how many there are.
unfoldable pub cut_records : ℕ → List ℕ → List (List ℕ)
cut_records zero bytes = []
cut_records (suc most) [] = []
cut_records (suc most) (b ∷ rest) =
    take (number (b ∷ rest)) (drop 4 (b ∷ rest)) ∷ cut_records most (drop (number (b ∷ rest)) (drop 4 (b ∷ rest)))

-- The open batches of a list of bytes, in order: each is an open gate, a number, and so many bytes of content behind
-- it. The first number is a bound on how many there are.
unfoldable pub cut_batches : ℕ → List ℕ → List (List (List ℕ))
cut_batches zero bytes = []
cut_batches (suc most) [] = []
cut_batches (suc most) (gate ∷ rest) =
    if gate == 1
    then cut_records (number rest) (take (number rest) (drop 4 rest)) ∷ cut_batches most (drop (number rest) (drop 4 rest))
    else []

-- the records of these batches, in order
abbrev pub records_of_all : List (List (List ℕ)) → List (List ℕ)
records_of_all batches = flat_map (λ batch. batch) batches

-- the open batches of a file, and their records, the oldest first
unfoldable pub batches : List ℕ → List (List (List ℕ))
batches image = cut_batches (length image) (drop 32 image)

unfoldable pub records : List ℕ → List (List ℕ)
records image = records_of_all (batches image)

-- a record of these bytes as it stands in a batch: their number and they
unfoldable pub held : List ℕ → List ℕ
held bytes = to_be_bytes w32 (length bytes) ++ bytes

-- the content of a batch of these records
abbrev pub content : List (List ℕ) → List ℕ
content [] = []
content (bytes ∷ rest) = held bytes ++ content rest

-- an open batch of these records: an open gate, the number of the bytes of their content, and it
unfoldable pub framed : List (List ℕ) → List ℕ
framed batch = 1 ∷ to_be_bytes w32 (length (content batch)) ++ content batch

-- what is written behind a closed gate to make it an open batch of this one record: the number of the content's bytes,
-- it and a closed gate
unfoldable pub piece : List ℕ → List ℕ
piece bytes = to_be_bytes w32 (length (held bytes)) ++ held bytes ++ 0 ∷ []

-- open batches, one behind the other
abbrev pub blocks : List (List (List ℕ)) → List ℕ
blocks [] = []
blocks (batch ∷ rest) = framed batch ++ blocks rest

-- where the gate stands behind these batches
abbrev pub gate_place : List (List (List ℕ)) → ℕ
gate_place batches = 32 + length (blocks batches)

-- how many bytes these records take with a batch for each
abbrev pub bytes_alone : List (List ℕ) → ℕ
bytes_alone [] = 0
bytes_alone (bytes ∷ rest) = 9 + length bytes + bytes_alone rest

-- where the gate would stand behind these records, with a batch for each
abbrev pub size : List (List ℕ) → ℕ
size rs = 32 + bytes_alone rs

-- a record has 1 to 65,536 bytes
pub record IsRecord (bytes : List ℕ) : Type 0 where
  pub some : 1 ≤ length bytes
  pub fits : length bytes ≤ MAX_RECORD

-- a batch has one or more records, and a content of at most 131,072 bytes
pub record IsBatch (batch : List (List ℕ)) : Type 0 where
  pub some : 1 ≤ length batch
  pub each : All IsRecord batch
  pub fits : length (content batch) ≤ MAX_BATCH

-- The file is made for this manager and whole, and its batches are these, the oldest first: its header, an open batch
-- for each, and a gate that is closed. Behind that gate anything may stand.
pub record HasBatches (manager : ℕ) (bs : List (List (List ℕ))) (image : List ℕ) : Type 0 where
  pub gate : ℕ
  pub tail : List ℕ
  pub is : image ≡ header manager ++ blocks bs ++ gate ∷ tail
  pub closed : gate ≢ 1
  pub each : All IsBatch bs
  pub small : gate_place bs < 268435456

-- the file is made for this manager and whole, and these are the records of its batches, the oldest first
pub record HasRecords (manager : ℕ) (rs : List (List ℕ)) (image : List ℕ) : Type 0 where
  pub batches : List (List (List ℕ))
  pub file : HasBatches manager batches image
  pub are : records_of_all batches ≡ rs
