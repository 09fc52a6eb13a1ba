-- The holding of an instance has what stands of it (SOL 003 5.5.2.2, instantiatedVnfInfo).
use Rattle.std.specs.Prelude.{List, Some, filter, map, true, ℕ, ◌<◌, ◌↔◌, ◌≡◌, ◌≤◌}
use Rattle.lcm_events.specs.declared.changes.Def.{Def}
use Rattle.lcm_events.specs.declared.descriptor.Vnfd.{Vnfd}
use Rattle.lcm_events.specs.declared.events.Event.{Event}
use Rattle.lcm_events.specs.declared.held.Held.{Held}
use Rattle.lcm_model.specs.Allowed.{IsLegalWithin}
use Rattle.lcm_model.specs.Descriptors.{IsHoldingOf}
use Rattle.lcm_model.specs.Holding.{place, resource, runs, stands, top}
use Rattle.lcm_model.specs.Instances.{defs_up_to, holding, inventory}
use Rattle.lcm_model.specs.Lives.{descriptor}
use Rattle.lcm_model.specs.Refusals.{standing}
use Rattle.lcm_model.specs.Words.{IsIn}

-- an item of a holding says what stands as the history has it (SOL 003 5.5.3)
pub record IsAsItStands (H : List Event) (i : ℕ) (y : Held) : Type 0 where
  pub stands : stands H i y.def ≡ true
  pub resource : resource H i y.def ≡ Some y.resource
  pub place : place H i y.def ≡ Some y.place
  pub running : runs H i y.def ≡ y.running

-- the holding has exactly what stands, in order of VDU, serial, kind and item, the links last (SOL 003 5.5.2.2)
pub record HoldsWhatStands (d : Vnfd) (H : List Event) (i : ℕ) : Type 0 where
  pub in_order : map (λ y. y.def) (holding d H i).items ≡ filter (stands H i) (defs_up_to d (top H i))
  pub exactly : (x : Def) → (stands H i x ≡ true) ↔ IsIn x (map (λ y. y.def) (holding d H i).items)
  pub as_it_stands : (y : Held) → IsIn y (holding d H i).items → IsAsItStands H i y

-- in a legal history the holding of an instance has exactly what stands (SOL 003 5.5.2.2)
abbrev pub HoldingsAreExact : Type 0
HoldingsAreExact =
    (width m : ℕ) (H : List Event) → IsLegalWithin width m H → (i : ℕ) (d : Vnfd) → descriptor H i ≡ Some d
    → HoldsWhatStands d H i

-- in a legal history the holding of an instance is of its descriptor, while its serials are below 2^31 (own rule)
abbrev pub HoldingsAreOfTheDescriptor : Type 0
HoldingsAreOfTheDescriptor =
    (width m : ℕ) (H : List Event) → IsLegalWithin width m H → (i : ℕ) (d : Vnfd) → descriptor H i ≡ Some d
    → ((v : ℕ) → top H i v < 2147483648) → IsHoldingOf d (holding d H i)

-- in a legal history at most 2,500 definitions of an instance stand (own limit)
abbrev pub FewDefinitionsStand : Type 0
FewDefinitionsStand =
    (width m : ℕ) (H : List Event) → IsLegalWithin width m H → (i : ℕ) (d : Vnfd) → descriptor H i ≡ Some d
    → standing d (inventory H i) ≤ 2500
