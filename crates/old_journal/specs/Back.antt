-- The reading back of one record of a file of format 1 (own rule, docs/JOURNAL.md).
use Rattle.std.specs.Prelude.{◌≡◌, ◌≤◌, ℕ, ◌+◌, ◌-◌, List, [], ◌++◌, length, take, drop, get_or, Option, Some, None}
use Rattle.std.specs.Prelude.{Result, Err, OnOk}
use Rattle.site_traits.specs.Site.{SiteState, Reads}
use Rattle.vnfm_base.specs.declared.limits.TheConstants.{MAX_RECORD}
use Rattle.journal_core.specs.declared.back.BackFault.{BackFault}
use Rattle.journal_core.specs.declared.back.BackFault.TheVariants as fault
use Rattle.old_journal.specs.File.{framed, records, size, HasRecords}
use Rattle.journal_records.specs.File.{IsRecord}
use Rattle.old_journal.specs.Journal.{Ledger, Stands}

-- an open record of these bytes stands at this place and ends at or before `end`
pub record HasAt (place end : ℕ) (bytes image : List ℕ) : Type 0 where
  pub one : IsRecord bytes
  pub rest : List ℕ
  pub is : drop place image ≡ framed bytes ++ rest
  pub whole : place + 5 + length bytes ≤ end

-- a record of this size at this place ends at or before `end`
pub record FitsAt (place end n : ℕ) : Type 0 where
  pub some : 1 ≤ n
  pub fits : n ≤ MAX_RECORD
  pub whole : place + 5 + n ≤ end

-- the file is whole, its closed gate stands at `end`, and it has a record n, from 1
pub record HasRecord (n end : ℕ) (image : List ℕ) : Type 0 where
  pub manager : ℕ
  pub file : HasRecords manager (records image) image
  pub some : 1 ≤ n
  pub within : n ≤ length (records image)
  pub gate : end ≡ size (records image)

-- What reading record n back does: it only reads, and Ok gives that record. The file has it, so it isn't missed.
pub record ReadsBack (n : ℕ) (result : Result (Unit {0}) BackFault) (new : Ledger) (a b : SiteState) : Type 0 where
  pub reads : Reads a b
  pub record_is : OnOk result (new.back ≡ get_or (records a.image) (n - 1) [])
  pub stands : OnOk result (Stands b new)
  pub whole : (k : ℕ) → result ≡ Err (fault.Broken k) → ⊥

-- a journal of the same records
pub record KeepsRecords (old new : Ledger) : Type 0 where
  pub manager : new.manager ≡ old.manager
  pub count : new.count ≡ old.count
  pub end : new.end ≡ old.end

-- record n of these, its place and its size, at the front of a buffer
abbrev pub IsFound : ℕ → List (List ℕ) → Option (ℕ × ℕ) → List ℕ → Type 0
IsFound n rs None buffer = ⊥
IsFound n rs (Some found) buffer = (found.0 ≡ size (take (n - 1) rs)) × (found.1 ≡ length (get_or rs (n - 1) []))
    × (take found.1 buffer ≡ get_or rs (n - 1) [])
