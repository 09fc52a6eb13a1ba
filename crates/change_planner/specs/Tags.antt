-- The work of an attempt, over the history before its Intent (own rule over SOL 003 9.5.2.3, Grant).
use Rattle.std.specs.Prelude.{List, Option, Some, filter_map, option_and_then, option_map, slice_get, ℕ, ◌≡◌}
use Rattle.lcm_events.specs.declared.acts.Act.{Act}
use Rattle.lcm_events.specs.declared.attempts.Tag.{Tag}
use Rattle.lcm_events.specs.declared.attempts.Way.{Way}
use Rattle.lcm_events.specs.declared.attempts.Way.TheVariants.{Forward}
use Rattle.lcm_events.specs.declared.changes.Change.{Change}
use Rattle.lcm_events.specs.declared.changes.Def.{Def}
use Rattle.lcm_events.specs.declared.changes.Verb.{Verb}
use Rattle.lcm_events.specs.declared.changes.Verb.TheVariants.{Create}
use Rattle.lcm_events.specs.declared.descriptor.Vnfd.{Vnfd}
use Rattle.lcm_events.specs.declared.events.Event.{Event}
use Rattle.lcm_events.specs.declared.events.EventKind.TheVariants.{Intent}
use Rattle.lcm_events.specs.declared.events.Operation.{Operation}
use Rattle.lcm_events.specs.declared.held.Holding.{Holding}
use Rattle.lcm_events.specs.declared.places.Place.{Place}
use Rattle.lcm_model.specs.Allowed.{IsAllowedWithin, IsLegalWithin}
use Rattle.lcm_model.specs.Grants.{granted_place}
use Rattle.lcm_model.specs.Holding.{place, resource}
use Rattle.lcm_model.specs.Instances.{holding}
use Rattle.lcm_model.specs.Lives.{descriptor}
use Rattle.lcm_model.specs.Needs.{needs}
use Rattle.lcm_model.specs.Operations.{operation, verb_done}
use Rattle.change_planner.specs.Acts.{work}

-- where an attempt does its work on a definition of an instance: a change that makes, where it was granted; all else,
-- where the definition last stood (SOL 003 9.5.2.3)
abbrev pub work_place : List Event → Tag → ℕ → Way → Verb → Def → Option Place
work_place H t i Forward Create x = granted_place H t.occ t.change
work_place H t i way verb x = place H i x

-- the work of an attempt at a change of an operation over its descriptor, at a place: it is done on the resources that
-- the history has (own rule)
abbrev pub work_at : List Event → Tag → Operation → Change → Vnfd → Place → Act
work_at H t a k d at =
    work d (verb_done t.way k.verb) k.def at (filter_map (resource H a.instance)
    (needs d (verb_done t.way k.verb) k.def))

-- the work of an attempt at a change of an operation (own rule)
abbrev pub act_on : List Event → Tag → Operation → Change → Option Act
act_on H t a k =
    option_and_then (λ d. option_map (work_at H t a k d) (work_place H t a.instance t.way k.verb k.def))
    (descriptor H a.instance)

-- the work of an attempt, over the history before its Intent: that of the change that its tag names (own rule)
abbrev pub act_of : List Event → Tag → Option Act
act_of H t = option_and_then (λ a. option_and_then (act_on H t a) (slice_get a.changes t.change)) (operation H t.occ)

-- an attempt with this tag may begin after a legal history at this change, and the descriptor and the holding are its
-- instance's (own rule)
pub record IsOfAttempt (d : Vnfd) (h : Holding) (k : Change) (H : List Event) (t : Tag) : Type 0 where
  pub width : ℕ
  pub manager : ℕ
  pub legal : IsLegalWithin width manager H
  pub allowed : IsAllowedWithin width manager H (Intent t)
  pub asked : Operation
  pub found : operation H t.occ ≡ Some asked
  pub change : slice_get asked.changes t.change ≡ Some k
  pub described : descriptor H asked.instance ≡ Some d
  pub held : h ≡ holding d H asked.instance
