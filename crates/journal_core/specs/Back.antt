-- The reading back of one record (own rule, docs/JOURNAL.md).
use Rattle.std.specs.Prelude.{◌≡◌, ◌⊎◌, ◌≤◌, ◌<◌, All, ℕ, ◌+◌, ◌-◌, List, [], length, get_or, Result, Err, OnOk}
use Rattle.site_traits.specs.Site.{SiteState, Reads}
use Rattle.journal_core.specs.declared.back.BackFault.{BackFault}
use Rattle.journal_core.specs.declared.back.BackFault.TheVariants as fault
use Rattle.journal_records.specs.File.{records, records_of_all, gate_place, HasBatches}
use Rattle.journal_records.specs.Reading.{Reading, standing_at}
use Rattle.journal_core.specs.declared.marks.Mark.{Mark}
use Rattle.journal_core.specs.Marks.{IsMark}
use Rattle.journal_core.specs.Journal.{Ledger, Stands, IsReadUpTo}

-- the reader stands behind the first so many records of a whole file of these batches, whose closed gate stands at `end`,
-- and it has so many more
pub record CanGive (bs : List (List (List ℕ))) (given many : ℕ) (r : Reading) (end : ℕ) (image : List ℕ) : Type 0 where
  pub manager : ℕ
  pub file : HasBatches manager bs image
  pub gate : end ≡ gate_place bs
  pub reading : IsReadUpTo bs given r end image
  pub there : given + many ≤ length (records_of_all bs)

-- it stands behind so many records now, and the last of these is the one that was given last
pub record HasGiven (bs : List (List (List ℕ))) (given : ℕ) (r : Reading) (end : ℕ) (image : List ℕ) : Type 0 where
  pub reading : IsReadUpTo bs given r end image
  pub last : r.record_bytes ≡ get_or (records_of_all bs) (given - 1) []

-- What reading record n back does: it only reads, and Ok gives that record. The file has it, so it isn't missed.
pub record ReadsBack (n : ℕ) (result : Result (Unit {0}) BackFault) (new : Ledger) (a b : SiteState) : Type 0 where
  pub reads : Reads a b
  pub record_is : OnOk result (new.back ≡ get_or (records a.image) (n - 1) [])
  pub stands : OnOk result (Stands b new)
  pub whole : (k : ℕ) → result ≡ Err (fault.Broken k) → ⊥

-- a journal of the same records
pub record KeepsRecords (old new : Ledger) : Type 0 where
  pub manager : new.manager ≡ old.manager
  pub count : new.count ≡ old.count
  pub end : new.end ≡ old.end
  pub saved : new.saved ≡ old.saved

-- The journal's reader stands before record n then: where it stood, or at one of its places, or at the first gate. The
-- rest of the journal is as it was.
pub record GoesBefore (n : ℕ) (old new : Ledger) : Type 0 where
  pub before : new.behind < n
  pub same : new ≡ record old { back = new.back; behind = new.behind; reading = new.reading }
  pub stands : ((new.behind ≡ old.behind) × (new.reading ≡ old.reading))
      ⊎ ((m : Mark) × (new.behind ≡ m.before) × (new.reading ≡ standing_at m.place)
      × ((bs : List (List (List ℕ))) → All (IsMark bs) old.marks → IsMark bs m))
