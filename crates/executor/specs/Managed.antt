-- What a manager stands for: its journal, and the tables of the history of the events in it.
use Rattle.std.specs.Prelude.{◌≡◌, ◌<◌, ◌+◌, ℕ, Bool, true, false, List, None, length, not}
use Rattle.std.specs.List.{AllByRecursion}
use Rattle.event_codec.specs.Typed.{TypedEvent}
use Rattle.event_codec.specs.Valid.{IsEvent}
use Rattle.journal_records.specs.File.{records}
use Rattle.journal_core.specs.Journal.{Ledger, Stands}
use Rattle.journal_records.specs.declared.limits.TheConstants.{MAX_FILE}
use Rattle.lcm_events.specs.declared.events.Event.{Event}
use Rattle.lcm_events.specs.declared.events.EventKind.{EventKind}
use Rattle.lcm_events.specs.declared.events.EventKind.TheVariants.{CallFailed, Intent, Settled}
use Rattle.lcm_model.specs.Allowed.{IsAllowed, IsLegal}
use Rattle.lcm_model.specs.Attempts.{is_done}
use Rattle.lcm_tables.specs.Tables.{AreTablesOf}
use Rattle.lcm_tables.specs.declared.tables.Tables.{Tables}
use Rattle.site_traits.specs.Site.{SiteState}
use Rattle.executor.specs.History.{spellings}
use Rattle.executor.specs.Room.{journal_end}

-- a manager: its journal's ledger, and its tables
pub record Managed : Type 0 where
  pub ledger : Ledger
  pub tables : Tables

-- the manager with this ledger and these tables
abbrev pub managed : Ledger → Tables → Managed
managed ledger tables = record { ledger = ledger; tables = tables }

-- The history is legal, and the ledger, unless it is closed, counts its events and their bytes: its gate and what is
-- saved before it come to the history's end.
pub record IsKept (ledger : Ledger) (history : List Event) : Type 0 where
  pub legal : IsLegal ledger.manager history
  pub events : AllByRecursion IsEvent history
  pub count : ledger.closed ≡ false → ledger.count ≡ length history
  pub end : ledger.closed ≡ false → ledger.end + ledger.saved ≡ journal_end history

-- the manager keeps this history: it is kept by the ledger, and the tables are its tables
pub record Keeps (m : Managed) (H : List Event) : Type 0 where
  pub kept : IsKept m.ledger H
  pub tables : AreTablesOf m.ledger.manager m.tables H

-- the manager keeps some history
abbrev pub KeepsOne : Managed → Type 0
KeepsOne m = (H : List Event) × Keeps m H

-- while it is open, its closed gate stands before the end of the file, and no more than a file is saved
abbrev pub IsWithinFile : Ledger → Type 0
IsWithinFile l = l.closed ≡ false → l.end + l.saved < MAX_FILE + MAX_FILE

-- what the second manager was left with of the first: each history that it kept
abbrev pub KeepsOn : Managed → Managed → Type 0
KeepsOn m n = (H : List Event) → Keeps m H → Keeps n H

-- nothing is pending on the site, and its file, for which the manager's ledger stands, has this history
pub record StandsFor (m : Managed) (H : List Event) (s : SiteState) : Type 0 where
  pub journal : Stands s m.ledger
  pub records : records s.image ≡ spellings H
  pub events : AllByRecursion IsEvent H

-- the manager is open and keeps this history, and so does the file, where the site tells
pub record IsReady (tells : Type 0) (m : Managed) (H : List Event) (s : SiteState) : Type 0 where
  pub usable : m.ledger.closed ≡ false
  pub keeps : Keeps m H
  pub stands : tells → StandsFor m H s

-- the event is no Settled, which only an act records
abbrev pub is_settled : EventKind → Bool
is_settled (Settled tag outcome) = true
is_settled _ = false

-- the event may be put behind this history of manager m: it keeps the format's rules and is allowed there
pub record MayPut (m : ℕ) (H : List Event) (e : Event) : Type 0 where
  pub rules : TypedEvent e → IsEvent e
  pub allowed : IsAllowed m H e.kind

-- no notice is laid aside, so that what takes no memory and makes no notice may be put without a reservation
abbrev pub HasNoNotice : Managed → Type 0
HasNoNotice m = m.tables.notice ≡ None

-- the tables follow the event without memory, and it makes no notice: an attempt begins, a call failed, or an attempt
-- ends that wasn't done
abbrev pub needs_no_memory : EventKind → Bool
needs_no_memory (Intent tag) = true
needs_no_memory (CallFailed tag) = true
needs_no_memory (Settled tag outcome) = not (is_done outcome)
needs_no_memory _ = false

-- the event may be recorded behind this history of manager m: it keeps the format's rules, is allowed there, and is no
-- Settled
pub record MayRecord (m : ℕ) (H : List Event) (e : Event) : Type 0 where
  pub rules : TypedEvent e → IsEvent e
  pub allowed : IsAllowed m H e.kind
  pub unsettled : is_settled e.kind ≡ false
