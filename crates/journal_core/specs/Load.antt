-- What a load finds.
use Rattle.std.specs.Prelude.{◌≡◌, ◌<◌, ℕ, ◌+◌, ◌-◌, Bool, true, false, List, [], ◌∷◌, ◌++◌, length, drop, All, Result, Ok}
use Rattle.std.specs.Prelude.{Err}
use Rattle.site_traits.specs.Site.{SiteState, IsSettled, Same, OnFile}
use Rattle.journal_core.specs.declared.loading.LoadFault.{LoadFault}
use Rattle.journal_core.specs.declared.loading.LoadFault.TheVariants as fault
use Rattle.journal_core.specs.declared.loading.Found.{Found}
use Rattle.journal_core.specs.declared.loading.Found.TheVariants as found
use Rattle.journal_records.specs.File.{records, gate_place, size, IsRecord}
use Rattle.journal_records.specs.Reading.{Reading, standing_at, Gives, StandsBehind}
use Rattle.journal_core.specs.Header.{IsUnmade, IsForeign, HasHeader}
use Rattle.journal_records.specs.Head.{BeginsWith, IsBrokenAt}
use Rattle.journal_core.specs.declared.marks.Mark.{Mark}
use Rattle.journal_core.specs.Marks.{IsMark}
use Rattle.journal_core.specs.Journal.{Ledger, Stands}
use Rattle.journal_core.specs.Room.{Adds}

-- A journal that is being loaded: whose it is, how many records were read, where the gate stands behind their batches,
-- where it would stand if each had a batch of its own, how long the file is, the bytes of the last record read, whether
-- the closed gate was found, the places that it keeps, and how far the file was read.
pub record Progress : Type 0 where
  pub manager : ℕ
  pub count : ℕ
  pub end : ℕ
  pub total : ℕ
  pub len : ℕ
  pub record_bytes : List ℕ
  pub ended : Bool
  pub marks : List Mark
  pub reading : Reading

-- the journal of the records that were read
abbrev pub ledger_of : Progress → Ledger
ledger_of l = record {
  manager = l.manager;
  count = l.count;
  end = l.end;
  saved = l.total - l.end;
  closed = false;
  marks = l.marks;
  back = [];
  behind = 0;
  reading = standing_at 32;
}

-- the records read so far are these, the oldest first, and nothing is pending on the site
pub record Loads (rs : List (List ℕ)) (l : Progress) (s : SiteState) : Type 0 where
  pub settled : IsSettled s
  pub header : HasHeader l.manager s.image
  pub batches : List (List (List ℕ))
  pub begins : BeginsWith l.manager batches (drop l.end s.image) s.image
  pub reading : StandsBehind batches rs l.reading l.len s.image
  pub count : l.count ≡ length rs
  pub end : l.end ≡ gate_place batches
  pub total : l.total ≡ size rs
  pub len : l.len ≡ length s.image
  pub marks : All (IsMark batches) l.marks

-- the records read so far are all that the file has, and the journal stands for them
pub record LoadsAll (rs : List (List ℕ)) (l : Progress) (s : SiteState) : Type 0 where
  pub loads : Loads rs l s
  pub records : records s.image ≡ rs
  pub stands : Stands s (ledger_of l)

-- no record was read yet, and the manager's number is a u32
pub record IsBegun (l : Progress) : Type 0 where
  pub manager : l.manager < 4294967296
  pub count : l.count ≡ 0
  pub total : l.total ≡ 32
  pub ended : l.ended ≡ false

-- what opening a file finds: its header, or why it has none (own rule)
abbrev pub Opened : Result Progress LoadFault → SiteState → Type 0
Opened (Ok l) s = Loads [] l s
Opened (Err fault.Unmade) s = IsUnmade s.image
Opened (Err (fault.Foreign place)) s = IsForeign place s.image
Opened (Err (fault.Broken n)) s = ⊥
Opened (Err fault.Disk) s = Unit {0}
Opened (Err fault.Memory) s = (manager : ℕ) × HasHeader manager s.image

-- what the next step finds behind these records: one more, the end, or that none stands there (own rule)
abbrev pub Finds : List (List ℕ) → Result Found LoadFault → Progress → SiteState → Type 0
Finds rs (Ok found.Record) l s = Loads (rs ++ l.record_bytes ∷ []) l s
Finds rs (Ok found.End) l s = LoadsAll rs l s
Finds rs (Err (fault.Broken n)) l s = IsBrokenAt l.manager n s.image × (n ≡ length rs + 1)
Finds rs (Err fault.Disk) l s = Unit {0}
Finds rs (Err other) l s = ⊥

-- the next record of the batch at hand was given
pub record GivesOne (old new : Progress) : Type 0 where
  pub reading : Gives old.reading new.reading
  pub manager : new.manager ≡ old.manager
  pub record_is : new.record_bytes ≡ new.reading.record_bytes
  pub count : new.count ≡ old.count + 1
  pub end : new.end ≡ old.end
  pub total : Adds new.record_bytes old.total new.total
  pub len : new.len ≡ old.len
  pub ended : new.ended ≡ old.ended
  pub marks : new.marks ≡ old.marks

-- one record more was read, which is the last
pub record ReadsOn (old new : Progress) : Type 0 where
  pub manager : new.manager ≡ old.manager
  pub record_is : IsRecord new.record_bytes
  pub count : new.count ≡ old.count + 1
  pub total : Adds new.record_bytes old.total new.total
  pub ended : new.ended ≡ false

-- the closed gate was found behind the records
pub record Ends (old new : Progress) : Type 0 where
  pub manager : new.manager ≡ old.manager
  pub count : new.count ≡ old.count
  pub total : new.total ≡ old.total
  pub ended : new.ended ≡ true

-- what a step does to what was read, told or not
abbrev pub Grows : Result Found LoadFault → Progress → Progress → Type 0
Grows (Ok found.Record) old new = ReadsOn old new
Grows (Ok found.End) old new = Ends old new
Grows (Err other) old new = new.manager ≡ old.manager

-- what a load finds: a journal that stands for the file's records, or why there is none (own rule)
abbrev pub Loaded : Result Ledger LoadFault → SiteState → Type 0
Loaded (Ok j) s = Stands s j
Loaded (Err fault.Unmade) s = IsUnmade s.image
Loaded (Err (fault.Foreign place)) s = IsForeign place s.image
Loaded (Err (fault.Broken n)) s = (manager : ℕ) × HasHeader manager s.image × IsBrokenAt manager n s.image
Loaded (Err fault.Disk) s = Unit {0}
Loaded (Err fault.Memory) s = (manager : ℕ) × HasHeader manager s.image

-- A call that syncs and reads. What was pending is left as it was or is on the disk, and a read gives what it gave.
pub record SyncsAndReads (a b : SiteState) : Type 0 where
  pub on_file : OnFile Same a b
  pub same : b.image ≡ a.image
