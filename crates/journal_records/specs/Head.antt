-- What stands at the place of a gate: a closed gate, a batch behind an open one, or neither (own rule,
-- docs/JOURNAL.md).
use Rattle.std.specs.Prelude.{◌≡◌, ◌≢◌, ◌⊎◌, ◌≤◌, ◌<◌, ℕ, ◌+◌, List, [], ◌∷◌, ◌++◌, length, All}
use Rattle.journal_records.specs.declared.limits.TheConstants.{MAX_BATCH}
use Rattle.journal_records.specs.File.{header, content, framed, blocks, gate_place, records_of_all, IsBatch}

-- a gate that isn't open stands in front
pub record IsClosed (bytes : List ℕ) : Type 0 where
  pub gate : ℕ
  pub tail : List ℕ
  pub is : bytes ≡ gate ∷ tail
  pub closed : gate ≢ 1

-- the gate at `end` is open, in front of a batch of these records that ends within the file and its limit
pub record IsOpen (end : ℕ) (batch : List (List ℕ)) (bytes : List ℕ) : Type 0 where
  pub one : IsBatch batch
  pub rest : List ℕ
  pub is : bytes ≡ framed batch ++ rest
  pub small : end + 5 + length (content batch) < 268435456

-- the bytes end at the place of a gate, or behind an open gate at `end` stands no batch
abbrev pub IsBroken : ℕ → List ℕ → Type 0
IsBroken end bytes =
    (bytes ≡ []) ⊎ ((body : List ℕ) × (bytes ≡ 1 ∷ body) × ((batch : List (List ℕ)) → ¬ (IsOpen end batch bytes)))

-- a content of so many bytes, of a batch that begins at `end`, ends within the file and its limit
pub record EndsWithin (end len n : ℕ) : Type 0 where
  pub some : 1 ≤ n
  pub fits : n ≤ MAX_BATCH
  pub whole : end + 5 + n ≤ len
  pub small : end + 5 + n < 268435456

-- the file begins with the header of this manager and these batches, the oldest first
pub record BeginsWith (manager : ℕ) (bs : List (List (List ℕ))) (rest image : List ℕ) : Type 0 where
  pub is : image ≡ header manager ++ blocks bs ++ rest
  pub each : All IsBatch bs
  pub small : gate_place bs < 268435456

-- The file breaks at the place of a gate, and record n, from 1, is the first that doesn't stand in front of it: those of
-- the batches before it are whole.
pub record IsBrokenAt (manager n : ℕ) (image : List ℕ) : Type 0 where
  pub batches : List (List (List ℕ))
  pub rest : List ℕ
  pub begins : BeginsWith manager batches rest image
  pub place : n ≡ length (records_of_all batches) + 1
  pub broken : IsBroken (gate_place batches) rest
