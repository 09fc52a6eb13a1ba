-- What reading an event back does (own rule, docs/JOURNAL.md).
use Rattle.std.specs.Prelude.{◌≡◌, ◌-◌, IfOk, List, Option, Result, Err, Some, reverse, slice_get, ℕ}
use Rattle.event_codec.specs.Spell.{spelling}
use Rattle.event_codec.specs.Valid.{IsEvent}
use Rattle.lcm_events.specs.declared.events.Event.{Event}
use Rattle.site_traits.specs.Site.{KeepsJobs, Reads, SiteState}
use Rattle.executor.specs.declared.manager.ReadFault.{ReadFault}
use Rattle.executor.specs.declared.manager.ReadFault.TheVariants as fault

-- event n of a history, from 1, in the order in which they happened
abbrev pub event_in : List Event → ℕ → Option Event
event_in H n = slice_get (reverse H) (n - 1)

-- no event is spelled so
abbrev pub IsNoSpelling : List ℕ → Type 0
IsNoSpelling bytes = (e : Event) → IsEvent e → bytes ≡ spelling e → ⊥

-- Reading event n back makes only reads and leaves the jobs, and gives the history's event. The file has it, so it
-- isn't missed.
pub record ReadsEvent (H : List Event) (n : ℕ) (result : Result Event ReadFault) (a b : SiteState) : Type 0 where
  pub event : IfOk result (λ e. event_in H n ≡ Some e)
  pub whole : (k : ℕ) → result ≡ Err (fault.BadRecord k) → ⊥
  pub reads : Reads a b
  pub jobs : KeepsJobs a b
