-- What stands at the place of a gate in a file of format 1: a closed gate, a record behind an open one, or neither (own
-- rule, docs/JOURNAL.md).
use Rattle.std.specs.Prelude.{◌≡◌, ◌⊎◌, ◌≤◌, ◌<◌, ℕ, ◌+◌, List, [], ◌∷◌, ◌++◌, length, take, get_or, All}
use Rattle.vnfm_base.specs.declared.limits.TheConstants.{MAX_RECORD}
use Rattle.old_journal.specs.declared.head.Head.{Head}
use Rattle.old_journal.specs.declared.head.Head.TheVariants.{Closed, Open, Broken}
use Rattle.old_journal.specs.File.{header, blocks, size}
use Rattle.journal_records.specs.File.{number, IsRecord}
use Rattle.journal_records.specs.Head.{IsClosed}

-- Behind the open gate at `end` stand a length and so many bytes, within the file and its limit.
pub record IsBody (end : ℕ) (rest : List ℕ) : Type 0 where
  pub whole : 4 + number rest ≤ length rest
  pub some : 1 ≤ number rest
  pub fits : number rest ≤ MAX_RECORD
  pub small : end + 5 + number rest < 268435456

-- the gate at `end` is open in front of a record of this size
pub record IsOpen (end n : ℕ) (bytes : List ℕ) : Type 0 where
  pub body : List ℕ
  pub is : bytes ≡ 1 ∷ body
  pub good : IsBody end body
  pub size : number body ≡ n
  pub bytes_are : (i : ℕ) → get_or (take 4 body) i 0 < 256

-- the bytes end at the place of a gate, or behind an open gate at `end` stands no record
abbrev pub IsBroken : ℕ → List ℕ → Type 0
IsBroken end bytes = (bytes ≡ []) ⊎ ((body : List ℕ) × (bytes ≡ 1 ∷ body) × ¬ (IsBody end body))

-- this stands at the place `end` of a file, of which these are the bytes from there on
abbrev pub HeadIs : ℕ → List ℕ → Head → Type 0
HeadIs end bytes Closed = IsClosed bytes
HeadIs end bytes (Open n) = IsOpen end n bytes
HeadIs end bytes Broken = IsBroken end bytes

-- a record that begins at `end` ends within the file and its limit
pub record EndsWithin (end len n : ℕ) : Type 0 where
  pub some : 1 ≤ n
  pub fits : n ≤ MAX_RECORD
  pub whole : end + 5 + n ≤ len
  pub small : end + 5 + n < 268435456

-- so does the one that stands there, if one does
abbrev pub HeadEnds : ℕ → ℕ → Head → Type 0
HeadEnds end len (Open n) = EndsWithin end len n
HeadEnds end len other = Unit {0}

-- the file begins with the header of this manager and these records, the oldest first
pub record BeginsWith (manager : ℕ) (rs : List (List ℕ)) (rest image : List ℕ) : Type 0 where
  pub is : image ≡ header manager ++ blocks rs ++ rest
  pub each : All IsRecord rs
  pub small : size rs < 268435456

-- record n of the file, from 1, is the first that is none
pub record IsBrokenAt (manager n : ℕ) (image : List ℕ) : Type 0 where
  pub rs : List (List ℕ)
  pub rest : List ℕ
  pub begins : BeginsWith manager rs rest image
  pub place : n ≡ length rs + 1
  pub broken : IsBroken (size rs) rest
