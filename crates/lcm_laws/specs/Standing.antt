-- What stands of an instance (SOL 003 5.5.3, the resource infos of an instance).
use Rattle.std.specs.Prelude.{Bool, List, Some, [], false, is_some, slice_get, true, ℕ, ◌∷◌, ◌≡◌, ◌≤◌}
use Rattle.lcm_events.specs.declared.attempts.Outcome.TheVariants.{Done}
use Rattle.lcm_events.specs.declared.attempts.Tag.{Tag}
use Rattle.lcm_events.specs.declared.changes.Change.{Change}
use Rattle.lcm_events.specs.declared.changes.Def.{Def}
use Rattle.lcm_events.specs.declared.changes.DefKind.TheVariants.{Compute}
use Rattle.lcm_events.specs.declared.changes.Verb.{Verb}
use Rattle.lcm_events.specs.declared.changes.Verb.TheVariants.{Create, Remove, Start, Stop}
use Rattle.lcm_events.specs.declared.descriptor.Vnfd.{Vnfd}
use Rattle.lcm_events.specs.declared.events.Event.{Event}
use Rattle.lcm_events.specs.declared.events.EventKind.TheVariants.{Settled}
use Rattle.lcm_events.specs.declared.events.Operation.{Operation}
use Rattle.lcm_model.specs.Allowed.{IsLegalWithin}
use Rattle.lcm_model.specs.Holding.{place, resource, runs, stands, top}
use Rattle.lcm_model.specs.Instances.{is_instantiated}
use Rattle.lcm_model.specs.Lives.{descriptor, is_deleted}
use Rattle.lcm_model.specs.Operations.{ongoing, operation, verb_done}
use Rattle.lcm_model.specs.Vnfcs.{is_def_of}

-- the definition is one of the instance's descriptor, with a serial up to the greatest that any operation named (own
-- rule)
abbrev pub IsOfInstance : List Event → ℕ → Def → Type 0
IsOfInstance H i x = (d : Vnfd) × (descriptor H i ≡ Some d) × (is_def_of d x ≡ true) × (x.serial ≤ top H i x.vdu)

-- in a legal history what stands of an instance is of its descriptor, with a serial up to the greatest (own rule)
abbrev pub WhatStandsIsOfTheDescriptor : Type 0
WhatStandsIsOfTheDescriptor = (width m : ℕ) (H : List Event) → IsLegalWithin width m H → (i : ℕ) (x : Def)
    → stands H i x ≡ true → IsOfInstance H i x

-- nothing of the instance stands (own rule)
abbrev pub HoldsNothing : List Event → ℕ → Type 0
HoldsNothing H i = (x : Def) → stands H i x ≡ false

-- in a legal history an instance that is NOT_INSTANTIATED without an operation that goes on holds nothing (SOL 003
-- 5.5.2.2, instantiationState)
abbrev pub IdleInstancesHoldNothing : Type 0
IdleInstancesHoldNothing = (width m : ℕ) (H : List Event) → IsLegalWithin width m H → (i : ℕ)
    → is_instantiated H i ≡ false → ongoing H i ≡ [] → HoldsNothing H i

-- in a legal history a deleted instance holds nothing (SOL 003 5.4.3)
abbrev pub DeletedInstancesHoldNothing : Type 0
DeletedInstancesHoldNothing = (width m : ℕ) (H : List Event) → IsLegalWithin width m H → (i : ℕ) → is_deleted H i ≡ true
    → HoldsNothing H i

-- in a legal history what stands has a resource and a place (SOL 003 5.5.3, the resource infos of an instance)
abbrev pub WhatStandsHasAPlace : Type 0
WhatStandsHasAPlace =
    (width m : ℕ) (H : List Event) → IsLegalWithin width m H → (i : ℕ) (x : Def) → stands H i x ≡ true
    → (is_some (resource H i x) ≡ true) × (is_some (place H i x) ≡ true)

-- what runs of an instance is a compute, and stands (SOL 003 5.5.3, the resource infos of an instance)
abbrev pub WhatRunsIsAComputeThatStands : Type 0
WhatRunsIsAComputeThatStands = (H : List Event) (i : ℕ) (x : Def) → runs H i x ≡ true
    → (x.kind ≡ Compute) × (stands H i x ≡ true)

-- whether a compute runs, by what was done to it last (SOL 003 5.4.10, Operate VNF task)
abbrev pub RunsAfter : Verb → Bool → Type 0
RunsAfter Create running = running ≡ true
RunsAfter Start running = running ≡ true
RunsAfter Stop running = running ≡ false
RunsAfter Remove running = running ≡ false

-- a compute runs once it is made or started, and doesn't once it is stopped or removed, by a change or by an undo (SOL
-- 003 5.4.10)
abbrev pub ComputesRunAsTheyWereLeft : Type 0
ComputesRunAsTheyWereLeft =
    (H : List Event) (time : ℕ) (t : Tag) (name : List ℕ) (a : Operation) (k : Change) → operation H t.occ ≡ Some a
    → slice_get a.changes t.change ≡ Some k
    → k.def.kind ≡ Compute → RunsAfter (verb_done t.way k.verb)
    (runs (record { moment = time; kind = Settled t (Done name) } ∷ H) a.instance k.def)
