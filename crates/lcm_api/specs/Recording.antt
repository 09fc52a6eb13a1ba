-- What a request comes to before its event is recorded.
use Rattle.std.specs.Prelude.{◌≡◌, ◌≤◌, List, length}
use Rattle.event_codec.specs.Spell.{spelling}
use Rattle.event_codec.specs.Valid.{IsEvent}
use Rattle.executor.specs.Managed.{Managed, MayRecord}
use Rattle.journal_records.specs.declared.limits.TheConstants.{MAX_RECORD}
use Rattle.lcm_events.specs.declared.events.Event.{Event}
use Rattle.lcm_api.specs.declared.record.Planned.{Planned}
use Rattle.lcm_api.specs.declared.record.Planned.TheVariants.{Told, Records}

-- the event may be recorded behind this history, which the manager keeps, and a record holds it
pub record FitsBehind (m : Managed) (H : List Event) (e : Event) : Type 0 where
  pub may : MayRecord m.ledger.manager H e
  pub fits : IsEvent e → length (spelling e) ≤ MAX_RECORD

-- what is planned may be carried out behind this history, which the manager keeps
abbrev pub MayCarryOut : Managed → List Event → Planned → Type 0
MayCarryOut m H (Told reply) = Unit {0}
MayCarryOut m H (Records event reply) = FitsBehind m H event

-- this is planned, as it is wanted, and may be carried out
abbrev pub IsPlanned : Planned → Managed → List Event → Planned → Type 0
IsPlanned wanted m H (Told reply) = wanted ≡ Told reply
IsPlanned wanted m H (Records event reply) = (wanted ≡ Records event reply) × FitsBehind m H event
