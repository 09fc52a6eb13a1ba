-- What a load knows of the records that it has judged.
use Rattle.std.specs.Prelude.{◌≡◌, ℕ, Bool, true, false, List, ◌∷◌, length, Option, Some, None, Result, Ok, Err}
use Rattle.std.specs.List.{AllByRecursion}
use Rattle.event_codec.specs.Spell.{spelling}
use Rattle.event_codec.specs.Valid.{IsEvent}
use Rattle.journal_records.specs.Head.{IsBrokenAt}
use Rattle.journal_core.specs.Header.{HasHeader}
use Rattle.journal_core.specs.Load.{Progress, Loads, LoadsAll}
use Rattle.site_traits.specs.Site.{SiteState, Reads}
use Rattle.executor.specs.declared.manager.OpenFault.{OpenFault}
use Rattle.executor.specs.declared.manager.OpenFault.TheVariants as fault
use Rattle.lcm_events.specs.declared.events.Event.{Event}
use Rattle.lcm_model.specs.Allowed.{IsAllowed, IsLegal}
use Rattle.lcm_tables.specs.Tables.{AreTablesOf, IsSmall}
use Rattle.lcm_tables.specs.declared.tables.Tables.{Tables}
use Rattle.executor.specs.History.{spellings}
use Rattle.executor.specs.Open.{IsBadAt}
use Rattle.executor.specs.Room.{journal_end}
use Rattle.executor.specs.declared.open.Judged.{Judged}

-- the bytes are the spelling of an event that is allowed after this history
pub record IsNext (m : ℕ) (H : List Event) (bytes : List ℕ) (e : Event) : Type 0 where
  pub spelled : bytes ≡ spelling e
  pub event : IsEvent e
  pub allowed : IsAllowed m H e.kind

-- no event that is allowed after this history is spelled so
abbrev pub HasNoNext : ℕ → List Event → List ℕ → Type 0
HasNoNext m H bytes = (e : Event) → IsNext m H bytes e → ⊥

-- The record is judged after each small legal history whose tables the old ones are: it is the next event, and the new
-- tables are those of the history with it; or it is none, and they are those of the history still.
abbrev pub Judges : List ℕ → Bool → Tables → Tables → Type 0
Judges bytes true old new = (m : ℕ) (H : List Event) → IsSmall H → IsLegal m H → AreTablesOf m old H
    → (e : Event) × IsNext m H bytes e × AreTablesOf m new (e ∷ H)
Judges bytes false old new = (m : ℕ) (H : List Event) → IsSmall H → IsLegal m H → AreTablesOf m old H
    → HasNoNext m H bytes × AreTablesOf m new H

-- the records read so far are the spellings of the history, or record n of them is the first bad one
abbrev pub AreJudged : ℕ → List Event → Option ℕ → List (List ℕ) → Type 0
AreJudged m H None rs = rs ≡ spellings H
AreJudged m H (Some n) rs = IsBadAt m n rs

-- what is known behind one record more, by whether one before it was bad
abbrev pub StepsFrom : ℕ → ℕ → List ℕ → Option ℕ → List Event → Option ℕ → List Event → Type 0
StepsFrom m n bytes (Some k) H bad H' = (bad ≡ Some k) × (H' ≡ H)
StepsFrom m n bytes None H None H' = (e : Event) × IsNext m H bytes e × (H' ≡ e ∷ H)
StepsFrom m n bytes None H (Some k) H' = (k ≡ n) × HasNoNext m H bytes × (H' ≡ H)

-- the tables are those of a legal history of events, and where no record was bad it is all that was read
pub record IsJudged (j : Judged) (l : Progress) (H : List Event) : Type 0 where
  pub tables : AreTablesOf l.manager j.tables H
  pub legal : IsLegal l.manager H
  pub events : AllByRecursion IsEvent H
  pub count : j.bad ≡ None → l.count ≡ length H
  pub end : j.bad ≡ None → l.total ≡ journal_end H

-- the records read so far, as they were judged
pub record JudgesSoFar (j : Judged) (l : Progress) (H : List Event) (s : SiteState) : Type 0 where
  pub rs : List (List ℕ)
  pub loads : Loads rs l s
  pub judged : AreJudged l.manager H j.bad rs

-- all records of the file, as they were judged
pub record HasJudged (j : Judged) (l : Progress) (H : List Event) (s : SiteState) : Type 0 where
  pub rs : List (List ℕ)
  pub loads : LoadsAll rs l s
  pub judged : AreJudged l.manager H j.bad rs

-- the records so far were judged, for some history, which is that of the file's records where the site tells
pub record IsUnderWay (tells : Type 0) (j : Judged) (l : Progress) (s : SiteState) : Type 0 where
  pub history : List Event
  pub judged : IsJudged j l history
  pub so_far : tells → JudgesSoFar j l history s

-- all records were judged, for some history, which is that of the file's records where the site tells
pub record IsThrough (tells : Type 0) (j : Judged) (l : Progress) (s : SiteState) : Type 0 where
  pub history : List Event
  pub judged : IsJudged j l history
  pub all : tells → HasJudged j l history s

-- what judging all records finds where it is refused
abbrev pub Finds : Result Judged OpenFault → Progress → SiteState → Type 0
Finds (Ok j) l s = Unit {0}
Finds (Err (fault.BadRecord n)) l s = IsBrokenAt l.manager n s.image × HasHeader l.manager s.image
Finds (Err fault.Disk) l s = Unit {0}
Finds (Err fault.Memory) l s = HasHeader l.manager s.image
Finds (Err other) l s = ⊥

-- only reads are made
pub record JudgesAll (result : Result Judged OpenFault) (l : Progress) (a b : SiteState) : Type 0 where
  pub finds : Finds result l b
  pub reads : Reads a b

-- One record more is judged, which is record n, after each legal history whose tables the old ones are, and which is
-- small where no record was bad. Behind a bad one nothing is judged.
abbrev pub JudgesNext : ℕ → List ℕ → Judged → Judged → Type 0
JudgesNext n bytes old new = (m : ℕ) (H : List Event) → (old.bad ≡ None → IsSmall H) → IsLegal m H
    → AreTablesOf m old.tables H
    → (H' : List Event) × StepsFrom m n bytes old.bad H new.bad H' × AreTablesOf m new.tables H'
