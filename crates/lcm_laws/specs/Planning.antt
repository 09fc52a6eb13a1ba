-- The changes of an operation are exactly what is planned, in order (own rule).
use Rattle.std.specs.Prelude.{List, Some, [], false, length, true, ℕ, ◌++◌, ◌+◌, ◌↔◌, ◌∷◌, ◌≡◌, ◌≤◌}
use Rattle.lcm_events.specs.declared.asks.Ask.{Ask}
use Rattle.lcm_events.specs.declared.asks.Ask.TheVariants.{Operate, Scale, ScaleToLevel, Terminate}
use Rattle.lcm_events.specs.declared.changes.Change.{Change}
use Rattle.lcm_events.specs.declared.changes.Verb.TheVariants.{Create}
use Rattle.lcm_events.specs.declared.descriptor.Vnfd.{Vnfd}
use Rattle.lcm_events.specs.declared.events.Event.{Event}
use Rattle.lcm_events.specs.declared.events.EventKind.TheVariants.{Asked}
use Rattle.lcm_events.specs.declared.events.Operation.{Operation}
use Rattle.lcm_model.specs.Allowed.{IsAllowedWithin, IsLegalWithin}
use Rattle.lcm_model.specs.Descriptors.{IsValid}
use Rattle.lcm_model.specs.Holding.{stands}
use Rattle.lcm_model.specs.Instances.{inventory, is_started, levels}
use Rattle.lcm_model.specs.Lives.{descriptor}
use Rattle.lcm_model.specs.Operations.{operations}
use Rattle.lcm_model.specs.Planned.{AreInOrder, IsPlan, IsPlanned}
use Rattle.lcm_model.specs.Levels.{count}
use Rattle.lcm_model.specs.Plans.{Case, new, plan, stay}
use Rattle.lcm_model.specs.Refusals.{case_in, situation}
use Rattle.lcm_model.specs.Vnfcs.{is_in_step}
use Rattle.lcm_model.specs.Words.{IsIn}

-- a change is in the plan exactly where it is planned (own rule)
abbrev pub PlansAreExact : Type 0
PlansAreExact = (p : Case) (x : Change) → IsIn x (plan p) ↔ IsPlanned p x

-- the plan over a valid descriptor is sorted (own rule)
abbrev pub PlansAreSorted : Type 0
PlansAreSorted = (p : Case) → IsValid p.vnfd → AreInOrder (plan p)

-- no two of these changes are equal (own rule)
abbrev pub AreDistinct : List Change → Type 0
AreDistinct [] = Unit {0}
AreDistinct (x ∷ xs) = (IsIn x xs → ⊥) × AreDistinct xs

-- no two changes of the plan over a valid descriptor are equal (own rule)
abbrev pub PlansAreDistinct : Type 0
PlansAreDistinct = (p : Case) → IsValid p.vnfd → AreDistinct (plan p)

-- the operation was asked for after this history over a valid descriptor, with exactly its plan (own rule)
abbrev pub HasPlan : List Event → Operation → Type 0
HasPlan H a =
    (d : Vnfd) × (descriptor H a.instance ≡ Some d) × IsValid d
    × IsPlan (case_in d (situation d H a.instance) a.ask) a.changes

-- in a legal history each operation has the changes that were planned when it was asked for (own rule)
abbrev pub OperationsHavePlans : Type 0
OperationsHavePlans =
    (width m : ℕ) (H later : List Event) (time : ℕ) (a : Operation)
    → IsLegalWithin width m (later ++ record { moment = time; kind = Asked a } ∷ H) → HasPlan H a

-- in a legal history no operation has more than 5,000 changes (own limit)
abbrev pub PlansAreSmall : Type 0
PlansAreSmall = (width m : ℕ) (H : List Event) → IsLegalWithin width m H → (a : Operation) → IsIn a (operations H)
    → length a.changes ≤ 5000

-- a change that makes something is for what doesn't stand, and any other for what stands (own rule)
pub record FitsWhatStands (H : List Event) (i : ℕ) (k : Change) : Type 0 where
  pub makes : k.verb ≡ Create → stands H i k.def ≡ false
  pub others : (k.verb ≡ Create → ⊥) → stands H i k.def ≡ true

-- after a legal history each change of an operation that may be asked for fits what stands of the instance (own rule)
abbrev pub PlansFitWhatStands : Type 0
PlansFitWhatStands =
    (width m : ℕ) (H : List Event) (a : Operation) → IsLegalWithin width m H → IsAllowedWithin width m H (Asked a)
    → (k : Change) → IsIn k a.changes → FitsWhatStands H a.instance k

-- the ask is for an instance whose machines are all whole: a scaling, a start or a stop (own rule)
abbrev pub IsOfWholeMachines : Ask → Type 0
IsOfWholeMachines (Scale way aspect steps) = Unit {0}
IsOfWholeMachines (ScaleToLevel aim) = Unit {0}
IsOfWholeMachines (Operate started stop) = Unit {0}
IsOfWholeMachines _ = ⊥

-- in a legal history an instance was in step when it was asked to be scaled, started or stopped (own rule)
abbrev pub OperationsBeginInStep : Type 0
OperationsBeginInStep =
    (width m : ℕ) (H later : List Event) (time : ℕ) (a : Operation) (d : Vnfd)
    → IsLegalWithin width m (later ++ record { moment = time; kind = Asked a } ∷ H) → descriptor H a.instance ≡ Some d
    → IsOfWholeMachines a.ask
    → is_in_step d (inventory H a.instance) (levels d H a.instance) (is_started H a.instance) ≡ true

-- the ask aims at a number of machines of each VDU: each but OPERATE and TERMINATE (own rule)
abbrev pub AimsAtCounts : Ask → Type 0
AimsAtCounts (Operate started stop) = ⊥
AimsAtCounts (Terminate mode timeout) = ⊥
AimsAtCounts _ = Unit {0}

-- as many machines of each VDU stay or are new as the levels that the ask aims at say (SOL 001, VduScalingAspectDeltas)
abbrev pub PlansMeetTheirCounts : Type 0
PlansMeetTheirCounts = (p : Case) (v : ℕ) → AimsAtCounts p.ask
    → length (stay p v) + length (new p v) ≡ count p.vnfd v p.to
