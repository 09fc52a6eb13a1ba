-- What a subscription's tries are of (SOL 003 5.4.20, Notification endpoint).
use Rattle.std.specs.Prelude.{List, Some, ℕ, ◌≡◌}
use Rattle.lcm_events.specs.declared.events.Event.{Event}
use Rattle.lcm_model.specs.Allowed.{IsLegalWithin}
use Rattle.lcm_model.specs.Notices.{next_notice, tries}
use Rattle.instance_table.specs.Rows.{tries_past}

-- in a legal history the tries past a subscription's cursor are those of the notice that comes next (own rule)
abbrev pub TriesAreOfTheNextNotice : Type 0
TriesAreOfTheNextNotice = (width m : ℕ) (H : List Event) → IsLegalWithin width m H → (s place : ℕ)
    → next_notice m H s ≡ Some place → tries_past H s ≡ tries H s place
