-- What reading the event of a notice back does, and gives.
use Rattle.std.specs.Prelude.{Err, List, Ok, Result, Some, ℕ, ◌≡◌}
use Rattle.executor.specs.Managed.{Managed}
use Rattle.executor.specs.Work.{Work, Works, broke, went}
use Rattle.lcm_events.specs.declared.events.Event.{Event}
use Rattle.notify_outbox.specs.Dispatches.{body_at}
use Rattle.notify_outbox.specs.declared.faults.DeliveryFault.{DeliveryFault}
use Rattle.notify_outbox.specs.declared.faults.DeliveryFault.TheVariants as fault
use Rattle.site_traits.specs.Site.{SiteState}

-- the work of a call that recorded nothing, by the fault in which it ended: where that is the disk's, the manager is
-- closed with the history that it had
abbrev pub nothing_recorded : List Event → DeliveryFault → Work
nothing_recorded H fault.Disk = broke H H
nothing_recorded H _ = went H

-- why a notice wasn't read: its record, which a site that tells has; the disk; or want of memory
abbrev pub IsUnread : Type 0 → ℕ → DeliveryFault → Type 0
IsUnread tells place (fault.BadRecord n) = (n ≡ place) × ¬ tells
IsUnread tells place fault.Disk = Unit {0}
IsUnread tells place fault.Memory = Unit {0}
IsUnread tells place (fault.Full end more) = ⊥

-- The body of the notice of the event at this place was to be read over history H of a manager, which is now n: where
-- that went well it is the history's, where the site tells; else nothing was recorded.
abbrev pub ReadsBody : Type 0 → Managed → List Event → ℕ → ℕ → Result (List ℕ) DeliveryFault → Managed → SiteState
    → SiteState → Type 0
ReadsBody tells m H s place (Ok body) n a b =
    Works tells m.ledger.manager H (went H) n a b × (tells → body_at m.ledger.manager H s place ≡ Some body)
ReadsBody tells m H s place (Err why) n a b =
    Works tells m.ledger.manager H (nothing_recorded H why) n a b × IsUnread tells place why
