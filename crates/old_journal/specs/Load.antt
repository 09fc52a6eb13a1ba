-- What a load finds in a file of format 1 (own rule, docs/JOURNAL.md).
use Rattle.std.specs.Prelude.{◌≡◌, ◌<◌, ℕ, ◌+◌, Bool, true, false, List, [], ◌∷◌, ◌++◌, length, drop, All, Result, Ok}
use Rattle.std.specs.Prelude.{Err}
use Rattle.site_traits.specs.Site.{SiteState, IsSettled}
use Rattle.journal_core.specs.declared.loading.LoadFault.{LoadFault}
use Rattle.journal_core.specs.declared.loading.LoadFault.TheVariants as fault
use Rattle.journal_core.specs.declared.loading.Found.{Found}
use Rattle.journal_core.specs.declared.loading.Found.TheVariants as found
use Rattle.old_journal.specs.File.{records, size}
use Rattle.journal_records.specs.File.{IsRecord}
use Rattle.old_journal.specs.Header.{IsUnmade, IsForeign, HasHeader}
use Rattle.old_journal.specs.Head.{BeginsWith, IsBrokenAt}
use Rattle.old_journal.specs.declared.marks.Mark.{Mark}
use Rattle.old_journal.specs.Marks.{IsMark, first_mark}
use Rattle.old_journal.specs.Journal.{Ledger, Stands}
use Rattle.old_journal.specs.Room.{Adds}

-- A journal that is being loaded: whose it is, how many records were read, where the gate behind them stands, how long
-- the file is, the bytes of the last record read, whether the closed gate was found, and the places that it keeps.
pub record Progress : Type 0 where
  pub manager : ℕ
  pub count : ℕ
  pub end : ℕ
  pub len : ℕ
  pub record_bytes : List ℕ
  pub ended : Bool
  pub marks : List Mark

-- the journal of the records that were read
abbrev pub ledger_of : Progress → Ledger
ledger_of l = record {
  manager = l.manager;
  count = l.count;
  end = l.end;
  closed = false;
  marks = first_mark ∷ l.marks;
  back = [];
}

-- the records read so far are these, the oldest first, and nothing is pending on the site
pub record Loads (rs : List (List ℕ)) (l : Progress) (s : SiteState) : Type 0 where
  pub settled : IsSettled s
  pub header : HasHeader l.manager s.image
  pub begins : BeginsWith l.manager rs (drop l.end s.image) s.image
  pub count : l.count ≡ length rs
  pub end : l.end ≡ size rs
  pub len : l.len ≡ length s.image
  pub marks : All (IsMark rs) l.marks

-- the records read so far are all that the file has, and the journal stands for them
pub record LoadsAll (rs : List (List ℕ)) (l : Progress) (s : SiteState) : Type 0 where
  pub loads : Loads rs l s
  pub records : records s.image ≡ rs
  pub stands : Stands s (ledger_of l)

-- no record was read yet, and the manager's number is a u32
pub record IsBegun (l : Progress) : Type 0 where
  pub manager : l.manager < 4294967296
  pub count : l.count ≡ 0
  pub end : l.end ≡ 32
  pub ended : l.ended ≡ false

-- what opening a file finds: its header, or why it has none (own rule)
abbrev pub Opened : Result Progress LoadFault → SiteState → Type 0
Opened (Ok l) s = Loads [] l s
Opened (Err fault.Unmade) s = IsUnmade s.image
Opened (Err (fault.Foreign place)) s = IsForeign place s.image
Opened (Err (fault.Broken n)) s = ⊥
Opened (Err fault.Disk) s = Unit {0}
Opened (Err fault.Memory) s = (manager : ℕ) × HasHeader manager s.image

-- what the next step finds behind these records: one more, the end, or that none stands there (own rule)
abbrev pub Finds : List (List ℕ) → Result Found LoadFault → Progress → SiteState → Type 0
Finds rs (Ok found.Record) l s = Loads (rs ++ l.record_bytes ∷ []) l s
Finds rs (Ok found.End) l s = LoadsAll rs l s
Finds rs (Err (fault.Broken n)) l s = IsBrokenAt l.manager n s.image × (n ≡ length rs + 1)
Finds rs (Err fault.Disk) l s = Unit {0}
Finds rs (Err other) l s = ⊥

-- one record more was read, which is the last
pub record ReadsOn (old new : Progress) : Type 0 where
  pub manager : new.manager ≡ old.manager
  pub record_is : IsRecord new.record_bytes
  pub count : new.count ≡ old.count + 1
  pub end : Adds new.record_bytes old.end new.end
  pub small : new.end < 268435456
  pub ended : new.ended ≡ false

-- the closed gate was found behind the records
pub record Ends (old new : Progress) : Type 0 where
  pub manager : new.manager ≡ old.manager
  pub count : new.count ≡ old.count
  pub end : new.end ≡ old.end
  pub ended : new.ended ≡ true

-- what a step does to what was read, told or not
abbrev pub Grows : Result Found LoadFault → Progress → Progress → Type 0
Grows (Ok found.Record) old new = ReadsOn old new
Grows (Ok found.End) old new = Ends old new
Grows (Err other) old new = new.manager ≡ old.manager

-- what a load finds: a journal that stands for the file's records, or why there is none (own rule)
abbrev pub Loaded : Result Ledger LoadFault → SiteState → Type 0
Loaded (Ok j) s = Stands s j
Loaded (Err fault.Unmade) s = IsUnmade s.image
Loaded (Err (fault.Foreign place)) s = IsForeign place s.image
Loaded (Err (fault.Broken n)) s = (manager : ℕ) × HasHeader manager s.image × IsBrokenAt manager n s.image
Loaded (Err fault.Disk) s = Unit {0}
Loaded (Err fault.Memory) s = (manager : ℕ) × HasHeader manager s.image
