-- What is asked for fits a record of the journal (own limit).
use Rattle.std.specs.Prelude.{List, length, ℕ, ◌≤◌}
use Rattle.lcm_events.specs.declared.asks.Ask.{Ask}
use Rattle.lcm_events.specs.declared.asks.Ask.TheVariants.{Heal}
use Rattle.lcm_events.specs.declared.events.Event.{Event}
use Rattle.lcm_events.specs.declared.events.EventKind.TheVariants.{Asked}
use Rattle.lcm_events.specs.declared.events.Operation.{Operation}
use Rattle.event_codec.specs.Spell.{spelling}
use Rattle.event_codec.specs.Typed.{TypedAsk}
use Rattle.vnfm_base.specs.declared.limits.TheConstants.{MAX_RECORD}
use Rattle.lcm_model.specs.Allowed.{IsAllowedWithin, IsLegalWithin}

-- at most 512 machines are named (own limit)
abbrev pub NamesFew : Ask → Type 0
NamesFew (Heal cause named) = length named ≤ 512
NamesFew _ = Unit {0}

-- an operation that may be asked for after a legal history fits a record of 65,536 bytes, whatever its texts are, where
-- it names at most 512 machines (own limit). That its names are the descriptor's and no aspect is named twice follows
-- from its being allowed
abbrev pub AskedEventsFitRecords : Type 0
AskedEventsFitRecords =
    (width m : ℕ) (H : List Event) (time : ℕ) (a : Operation) → IsLegalWithin width m H
    → IsAllowedWithin width m H (Asked a)
    → TypedAsk a.ask → NamesFew a.ask → length (spelling (record { moment = time; kind = Asked a })) ≤ MAX_RECORD
