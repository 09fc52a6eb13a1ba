-- The work that is asked of the infrastructure for a change, over what stands (SOL 001, Vdu.Compute,
-- Vdu.VirtualBlockStorage, VduCp, VnfVirtualLink).
use Rattle.std.specs.Option.{option_map_or}
use Rattle.std.specs.Prelude.{List, Option, Some, [], filter_map, find, map, option_map, slice_get, unwrap_or, ℕ, ◌≡◌}
use Rattle.lcm_events.specs.Same.{same_def}
use Rattle.lcm_events.specs.declared.acts.Act.{Act}
use Rattle.lcm_events.specs.declared.changes.Def.{Def}
use Rattle.lcm_events.specs.declared.changes.DefKind.{DefKind}
use Rattle.lcm_events.specs.declared.changes.DefKind.TheVariants.{Compute, Link, Port, Storage}
use Rattle.lcm_events.specs.declared.changes.Verb.{Verb}
use Rattle.lcm_events.specs.declared.changes.Verb.TheVariants.{Create}
use Rattle.lcm_events.specs.declared.descriptor.Vnfd.{Vnfd}
use Rattle.lcm_events.specs.declared.events.Event.{Event}
use Rattle.lcm_events.specs.declared.held.Held.{Held}
use Rattle.lcm_events.specs.declared.held.Holding.{Holding}
use Rattle.lcm_events.specs.declared.places.Place.{Place}
use Rattle.lcm_model.specs.Holding.{place, resource}
use Rattle.lcm_model.specs.Instances.{holding}
use Rattle.lcm_model.specs.Needs.{needs}
use Rattle.lcm_model.specs.Words.{IsIn}

-- the item of the holding with this definition (SOL 003 5.5.3)
abbrev pub held : Holding → Def → Option Held
held h x = find (λ y. same_def y.def x) h.items

-- the infrastructure's name of a resource that is held (SOL 003 5.5.3, ResourceHandle)
abbrev pub resource_held : Holding → Def → Option (List ℕ)
resource_held h x = option_map (λ y. y.resource) (held h x)

-- the resources that are held of those on which the work is done (own rule)
abbrev pub done_on : Vnfd → Holding → Verb → Def → List (List ℕ)
done_on d h verb x = filter_map (resource_held h) (needs d verb x)

-- the name of the VDU of a definition, empty for a link (SOL 001, Vdu.Compute)
abbrev pub vdu_name : Vnfd → DefKind → Def → List ℕ
vdu_name d Link x = []
vdu_name d _ x = option_map_or (λ u. u.name) (slice_get d.vdus x.vdu) []

-- the descriptor's name of the link, storage or port of a definition, and of the VDU for a compute (SOL 001)
abbrev pub template_name : Vnfd → DefKind → Def → List ℕ
template_name d Link x = unwrap_or (slice_get d.links x.item) []
template_name d Storage x = option_map_or (λ s. s.name) (slice_get d.storages x.item) []
template_name d Compute x = option_map_or (λ u. u.name) (slice_get d.vdus x.vdu) []
template_name d Port x = option_map_or (λ p. p.name) (slice_get d.ports x.item) []

-- the bytes of a compute's memory and of a storage, else 0 (SOL 001, Vdu.Compute, Vdu.VirtualBlockStorage)
abbrev pub size : Vnfd → DefKind → Def → ℕ
size d Compute x = option_map_or (λ u. u.memory) (slice_get d.vdus x.vdu) 0
size d Storage x = option_map_or (λ s. s.size) (slice_get d.storages x.item) 0
size d _ x = 0

-- the processors of a compute, else 0 (SOL 001, Vdu.Compute)
abbrev pub processors : Vnfd → DefKind → Def → ℕ
processors d Compute x = option_map_or (λ u. u.cpus) (slice_get d.vdus x.vdu) 0
processors d _ x = 0

-- the work with this verb on a definition at a place, done on the resources of these names (own rule)
abbrev pub work : Vnfd → Verb → Def → Place → List (List ℕ) → Act
work d verb x at on = record {
  verb = verb;
  kind = x.kind;
  template = template_name d x.kind x;
  vdu = vdu_name d x.kind x;
  serial = x.serial;
  vim = at.vim;
  zone = at.zone;
  size = size d x.kind x;
  cpus = processors d x.kind x;
  on = on;
}

-- the work with this verb on a definition at a place, over what stands (own rule)
abbrev pub act : Vnfd → Holding → Verb → Def → Place → Act
act d h verb x at = work d verb x at (done_on d h verb x)

-- where a change does its work: what is made, at the place that the grant gives; all else, where it is held (SOL 003
-- 9.5.2.3)
abbrev pub place_of : Holding → Verb → Def → Place → Place
place_of h Create x at = at
place_of h _ x at = option_map_or (λ y. y.place) (held h x) at

-- the work is done on the resources that the history has, and where the definition last stood, where it isn't a making
-- (own rule)
pub record IsOnWhatStands (d : Vnfd) (H : List Event) (i : ℕ) (verb : Verb) (x : Def) : Type 0 where
  pub on : done_on d (holding d H i) verb x ≡ filter_map (resource H i) (needs d verb x)
  pub place : (at : Place) → ¬ (verb ≡ Create) → Some (place_of (holding d H i) verb x at) ≡ place H i x

-- after every history, over the instance's holding: where all that work needs is held, it is on what stands (own rule)
abbrev pub ActsAreOnWhatStands : Type 0
ActsAreOnWhatStands =
    (d : Vnfd) (H : List Event) (i : ℕ) (verb : Verb) (x : Def)
    → ((y : Def) → IsIn y (needs d verb x) → IsIn y (map (λ z. z.def) (holding d H i).items))
    → IsOnWhatStands d H i verb x
