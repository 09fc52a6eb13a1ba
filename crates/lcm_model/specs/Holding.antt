-- What stands of an instance: the effects of its attempts, the latest first (SOL 003 5.5.3, the resource infos of an
-- instance).
use Rattle.std.specs.Option.{option_map_or}
use Rattle.std.specs.Prelude.{Bool, List, None, Option, false, filter, map, option_and_then, option_map, slice_get}
use Rattle.std.specs.Prelude.{true, ℕ, ◌&&◌, ◌==◌}
use Rattle.lcm_events.specs.Same.{same_def, same_kind, same_verb, same_way}
use Rattle.lcm_events.specs.declared.attempts.Outcome.{Outcome}
use Rattle.lcm_events.specs.declared.attempts.Outcome.TheVariants.{Done}
use Rattle.lcm_events.specs.declared.attempts.Tag.{Tag}
use Rattle.lcm_events.specs.declared.attempts.Way.TheVariants.{Forward}
use Rattle.lcm_events.specs.declared.changes.Change.{Change}
use Rattle.lcm_events.specs.declared.changes.Def.{Def}
use Rattle.lcm_events.specs.declared.changes.DefKind.TheVariants.{Compute}
use Rattle.lcm_events.specs.declared.changes.Verb.{Verb}
use Rattle.lcm_events.specs.declared.changes.Verb.TheVariants.{Create, Remove, Start}
use Rattle.lcm_events.specs.declared.events.Event.{Event}
use Rattle.lcm_events.specs.declared.events.EventKind.{EventKind}
use Rattle.lcm_events.specs.declared.events.EventKind.TheVariants.{Settled}
use Rattle.lcm_events.specs.declared.events.Operation.{Operation}
use Rattle.lcm_events.specs.declared.places.Place.{Place}
use Rattle.lcm_model.specs.declared.holding.Effect.{Effect}
use Rattle.lcm_model.specs.Words.{first, greatest, told}
use Rattle.lcm_model.specs.Operations.{operation, operations, verb_done}
use Rattle.lcm_model.specs.Grants.{granted_place}

-- the effect of a tag at a change of an operation (own rule)
abbrev pub effect : Tag → List ℕ → Operation → Change → Effect
effect t name a c = record {
  tag = t;
  instance = a.instance;
  def = c.def;
  verb = verb_done t.way c.verb;
  resource =
      name;
}

-- the effect of an attempt with this outcome, after its past (own rule)
abbrev pub effect_done : List Event → Tag → Outcome → Option Effect
effect_done H t (Done name) = option_and_then (λ a. option_map (effect t name a) (slice_get a.changes t.change))
    (operation H t.occ)
effect_done H t _ = None

-- the effect of an event after its past (own rule)
unfoldable pub effect_in : List Event → EventKind → Option Effect
effect_in H (Settled t outcome) = effect_done H t outcome
effect_in H _ = None

-- the effect is on a definition of an instance (own rule)
abbrev pub is_effect_on : ℕ → Def → Effect → Bool
is_effect_on i x y = (y.instance == i) && same_def y.def x

-- the effects on a definition of an instance, the latest first (own rule)
abbrev pub effects : List Event → ℕ → Def → List Effect
effects H i x = filter (is_effect_on i x) (told effect_in H)

-- the verb leaves its resource standing (own rule)
abbrev pub leaves_it : Verb → Bool
leaves_it Remove = false
leaves_it _ = true

-- the verb leaves its compute running (own rule)
abbrev pub leaves_it_running : Verb → Bool
leaves_it_running Create = true
leaves_it_running Start = true
leaves_it_running _ = false

-- the verb of the last effect (own rule)
abbrev pub last_verb : List Event → ℕ → Def → Option Verb
last_verb H i x = option_map (λ y. y.verb) (first (effects H i x))

-- a definition of the instance stands: something was done to it, last not a removal (own rule)
abbrev pub stands : List Event → ℕ → Def → Bool
stands H i x = option_map_or leaves_it (last_verb H i x) false

-- a definition of the instance runs: it is a compute, and was last created or started (own rule)
abbrev pub runs : List Event → ℕ → Def → Bool
runs H i x = same_kind x.kind Compute && option_map_or leaves_it_running (last_verb H i x) false

-- the effect made its resource (own rule)
abbrev pub is_creation : Effect → Bool
is_creation y = same_verb y.verb Create

-- the effect made its resource, and wasn't an undo (own rule)
abbrev pub is_forward_creation : Effect → Bool
is_forward_creation y = same_verb y.verb Create && same_way y.tag.way Forward

-- the name of the resource: that of its last creation (SOL 003 5.5.3)
abbrev pub resource : List Event → ℕ → Def → Option (List ℕ)
resource H i x = option_map (λ y. y.resource) (first (filter is_creation (effects H i x)))

-- where the resource stands: the place that was granted to its last creation that wasn't an undo (SOL 003 5.5.3)
abbrev pub place : List Event → ℕ → Def → Option Place
place H i x = option_and_then (λ y. granted_place H y.tag.occ y.tag.change)
    (first (filter is_forward_creation (effects H i x)))

-- the change is of the VDU (own rule)
abbrev pub is_of_vdu : ℕ → Change → Bool
is_of_vdu v c = c.def.vdu == v

-- the serial that a change names (own rule)
abbrev pub serial_of : Change → ℕ
serial_of c = c.def.serial

-- the greatest serial of the VDU in some changes, or 0 (own rule)
abbrev pub top_of : ℕ → List Change → ℕ
top_of v xs = greatest (map serial_of (filter (is_of_vdu v) xs))

-- the greatest serial of the VDU in the changes of an operation, or 0 (own rule)
unfoldable pub top_in : ℕ → Operation → ℕ
top_in v a = top_of v a.changes

-- the operation is the instance's (own rule)
abbrev pub is_of_instance : ℕ → Operation → Bool
is_of_instance i a = a.instance == i

-- the greatest serial of the VDU in any change of any operation of the instance, or 0 (own rule)
abbrev pub top : List Event → ℕ → ℕ → ℕ
top H i v = greatest (map (top_in v) (filter (is_of_instance i) (operations H)))
