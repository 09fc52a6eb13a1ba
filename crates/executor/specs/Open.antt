-- What opening a journal as a manager finds (own rule).
use Rattle.std.specs.Prelude.{◌≡◌, ◌⊎◌, ℕ, ◌+◌, List, ◌∷◌, ◌++◌, length, Result, Ok, Err}
use Rattle.std.specs.List.{AllByRecursion}
use Rattle.event_codec.specs.Spell.{spelling}
use Rattle.event_codec.specs.Valid.{IsEvent}
use Rattle.journal_records.specs.File.{records, HasRecords}
use Rattle.journal_records.specs.Head.{IsBrokenAt}
use Rattle.journal_core.specs.Header.{IsUnmade, IsForeign, HasHeader}
use Rattle.lcm_events.specs.declared.events.Event.{Event}
use Rattle.lcm_model.specs.Allowed.{IsAllowed, IsLegal}
use Rattle.site_traits.specs.Site.{SiteState}
use Rattle.executor.specs.History.{spellings}
use Rattle.executor.specs.Managed.{Managed, IsReady}
use Rattle.executor.specs.declared.manager.OpenFault.{OpenFault}
use Rattle.executor.specs.declared.manager.OpenFault.TheVariants as fault

-- record n of these, from 1, is the first that is no event or isn't allowed after those before it
pub record IsBadAt (m n : ℕ) (rs : List (List ℕ)) : Type 0 where
  pub before : List Event
  pub bytes : List ℕ
  pub rest : List (List ℕ)
  pub is : rs ≡ spellings before ++ bytes ∷ rest
  pub place : n ≡ length before + 1
  pub legal : IsLegal m before
  pub events : AllByRecursion IsEvent before
  pub none : (e : Event) → IsEvent e → bytes ≡ spelling e → IsAllowed m before e.kind → ⊥

-- record n is bad: the file is broken there, or is broken nowhere and that record is the first bad one
abbrev pub IsBadRecord : ℕ → List ℕ → Type 0
IsBadRecord n image =
    (m : ℕ) × HasHeader m image × (IsBrokenAt m n image ⊎ (HasRecords m (records image) image
    × IsBadAt m n (records image)))

-- why a journal wasn't opened, by the file's bytes
abbrev pub Refuses : OpenFault → List ℕ → Type 0
Refuses fault.Unmade image = IsUnmade image
Refuses (fault.Foreign place) image = IsForeign place image
Refuses (fault.BadRecord n) image = IsBadRecord n image
Refuses fault.Disk image = Unit {0}
Refuses fault.Memory image = (m : ℕ) × HasHeader m image

-- A journal was opened as this manager, for some history; or it was refused, and the file's bytes say why.
abbrev pub Opens : Type 0 → Result Managed OpenFault → SiteState → Type 0
Opens tells (Ok m) s = (H : List Event) × IsReady tells m H s
Opens tells (Err why) s = tells → Refuses why s.image
