-- A subscription that may be made fits a record of the journal (own limit).
use Rattle.std.specs.Prelude.{IfOk, List, length, true, ℕ, ◌≡◌, ◌≤◌}
use Rattle.event_codec.specs.Spell.{spelling}
use Rattle.event_codec.specs.Typed.{TypedKind}
use Rattle.lcm_events.specs.declared.events.Event.{Event}
use Rattle.lcm_events.specs.declared.events.EventKind.TheVariants.{Subscribed}
use Rattle.lcm_events.specs.declared.filters.Filter.{Filter}
use Rattle.lcm_events.specs.declared.states.Role.{Role}
use Rattle.json_bodies.specs.Subscribing.{subscription_of}
use Rattle.lcm_model.specs.Allowed.{IsAllowedWithin}
use Rattle.lcm_model.specs.Notices.{is_small_filter}
use Rattle.vnfm_base.specs.declared.limits.TheConstants.{MAX_RECORD}

-- the event of a subscription that may be made fits a record, whatever its callback and the lists of its filter are
-- (own limit)
abbrev pub SubscribedEventsFitRecords : Type 0
SubscribedEventsFitRecords =
    (width m : ℕ) (H : List Event) (time s : ℕ) (role : Role) (callback : List ℕ) (f : Filter)
    → IsAllowedWithin width m H (Subscribed s role callback f) → TypedKind (Subscribed s role callback f)
    → length (spelling (record { moment = time; kind = Subscribed s role callback f })) ≤ MAX_RECORD

-- the lists of the filter that a request to subscribe has are small (own limit)
abbrev pub AskedFiltersAreSmall : Type 0
AskedFiltersAreSmall =
    (bytes : List ℕ) → IfOk (subscription_of bytes) (λ body. is_small_filter body.asked.filter ≡ true)
