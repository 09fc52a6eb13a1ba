-- What is planned is what is wanted, and may be carried out.
use Rattle.std.proofs.Common.{◌≡◌, List, sym}
use Rattle.executor.specs.Managed.{Managed}
use Rattle.lcm_events.specs.declared.events.Event.{Event}
use Rattle.lcm_api.specs.Recording.{IsPlanned, MayCarryOut}
use Rattle.lcm_api.specs.declared.record.Planned.{Planned}
use Rattle.lcm_api.specs.declared.record.Planned.TheVariants.{Records, Told}

pub planned_is : (wanted : Planned) (m : Managed) (H : List Event) (planned : Planned) → IsPlanned wanted m H planned → planned ≡ wanted
planned_is wanted m H (Told reply) is = sym is
planned_is wanted m H (Records event reply) is = sym is.0

pub may_carry_out : (wanted : Planned) (m : Managed) (H : List Event) (planned : Planned) → IsPlanned wanted m H planned
    → MayCarryOut m H planned
may_carry_out wanted m H (Told reply) is = tt
may_carry_out wanted m H (Records event reply) is = is.1
