-- What reading a journal of format 1 finds (own rule, docs/JOURNAL.md, "Migration").
use Rattle.std.specs.Prelude.{◌≡◌, ◌⊎◌, ◌≤◌, ◌<◌, ℕ, ◌+◌, ◌*◌, List, length, None, Result, Ok, Err}
use Rattle.std.specs.List.{AllByRecursion}
use Rattle.event_codec.specs.Valid.{IsEvent}
use Rattle.executor.specs.History.{spellings}
use Rattle.executor.specs.Loading.{AreJudged}
use Rattle.executor.specs.Open.{IsBadAt}
use Rattle.executor.specs.Room.{journal_end}
use Rattle.executor.specs.declared.manager.OpenFault.{OpenFault}
use Rattle.executor.specs.declared.manager.OpenFault.TheVariants as fault
use Rattle.executor.specs.declared.open.Judged.{Judged}
use Rattle.lcm_events.specs.declared.events.Event.{Event}
use Rattle.lcm_model.specs.Allowed.{IsLegal}
use Rattle.lcm_tables.specs.Tables.{AreTablesOf}
use Rattle.old_journal.specs.File.{records, HasRecords}
use Rattle.old_journal.specs.Head.{IsBrokenAt}
use Rattle.old_journal.specs.Header.{IsUnmade, IsForeign, HasHeader}
use Rattle.old_journal.specs.Load.{Progress, Loads, LoadsAll}
use Rattle.site_traits.specs.Site.{SiteState, Reads}
use Rattle.journal_migration.specs.Packing.{Packing, HasPacked, PacksAll}
use Rattle.journal_migration.specs.declared.reading.Packed.{Packed}

-- the file is a made one of format 1 of this manager, and its records are the spellings of these events
pub record HasOldHistory (m : ℕ) (H : List Event) (image : List ℕ) : Type 0 where
  pub file : HasRecords m (spellings H) image
  pub events : AllByRecursion IsEvent H

-- record n of a file of format 1 is bad: the file is broken there, or is broken nowhere and that record is the first
-- that is no event or isn't allowed after those before it
abbrev pub IsBadOldRecord : ℕ → List ℕ → Type 0
IsBadOldRecord n image =
    (m : ℕ) × HasHeader m image × (IsBrokenAt m n image ⊎ (HasRecords m (records image) image
    × IsBadAt m n (records image)))

-- why a journal of format 1 wasn't read, by the file's bytes
abbrev pub RefusesOld : OpenFault → List ℕ → Type 0
RefusesOld fault.Unmade image = IsUnmade image
RefusesOld (fault.Foreign place) image = IsForeign place image
RefusesOld (fault.BadRecord n) image = IsBadOldRecord n image
RefusesOld fault.Disk image = Unit {0}
RefusesOld fault.Memory image = (m : ℕ) × HasHeader m image

-- the tables are those of a legal history of events, and where no record was bad it is all that was read
pub record IsJudgedOld (j : Judged) (l : Progress) (H : List Event) : Type 0 where
  pub tables : AreTablesOf l.manager j.tables H
  pub legal : IsLegal l.manager H
  pub events : AllByRecursion IsEvent H
  pub count : j.bad ≡ None → l.count ≡ length H
  pub end : j.bad ≡ None → l.end + 4 * l.count ≡ journal_end H
  pub few : l.count * 6 ≤ l.end

-- the records read so far, as they were judged
pub record HasSoFar (rs : List (List ℕ)) (j : Judged) (l : Progress) (H : List Event) (s : SiteState) : Type 0 where
  pub loads : Loads rs l s
  pub judged : AreJudged l.manager H j.bad rs

-- all records of the file, as they were judged
pub record HasAll (rs : List (List ℕ)) (j : Judged) (l : Progress) (H : List Event) (s : SiteState) : Type 0 where
  pub loads : LoadsAll rs l s
  pub judged : AreJudged l.manager H j.bad rs

-- the records so far were judged and packed, for some history, which is that of the file's records where the site tells
pub record IsUnderWay (tells : Type 0) (j : Judged) (p : Packing) (l : Progress) (s : SiteState) : Type 0 where
  pub history : List Event
  pub records : List (List ℕ)
  pub judged : IsJudgedOld j l history
  pub packed : HasPacked l.manager records p
  pub so_far : tells → HasSoFar records j l history s

-- all records were judged and packed, for some history, which is that of the file's records where the site tells
pub record IsThrough (tells : Type 0) (j : Judged) (p : Packing) (l : Progress) (s : SiteState) : Type 0 where
  pub history : List Event
  pub records : List (List ℕ)
  pub judged : IsJudgedOld j l history
  pub packed : PacksAll l.manager records p.bytes p.unfit
  pub all : tells → HasAll records j l history s

-- what reading all records finds where it is refused
abbrev pub RefusesReading : {T : Type 0} → Result T OpenFault → Progress → SiteState → Type 0
RefusesReading (Ok read) l s = Unit {0}
RefusesReading (Err (fault.BadRecord n)) l s = IsBrokenAt l.manager n s.image × HasHeader l.manager s.image
RefusesReading (Err fault.Disk) l s = Unit {0}
RefusesReading (Err fault.Memory) l s = HasHeader l.manager s.image
RefusesReading (Err other) l s = ⊥

-- only reads are made
pub record ReadsAll {T : Type 0} (result : Result T OpenFault) (l : Progress) (a b : SiteState) : Type 0 where
  pub finds : RefusesReading result l b
  pub reads : Reads a b

-- A journal of format 1 was read whole and packed, for some legal history; where the site tells, that is the file's.
pub record IsRead (tells : Type 0) (p : Packed) (image : List ℕ) : Type 0 where
  pub number : p.manager < 4294967296
  pub history : List Event
  pub records : List (List ℕ)
  pub legal : IsLegal p.manager history
  pub count : p.count ≡ length history
  pub packed : PacksAll p.manager records p.packing.bytes p.packing.unfit
  pub are : tells → records ≡ spellings history
  pub file : tells → HasOldHistory p.manager history image
