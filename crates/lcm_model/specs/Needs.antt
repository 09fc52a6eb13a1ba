-- What has to stand for work on a definition: that on which it is done (SOL 001, Vdu.Compute, VduCp).
use Rattle.std.specs.Option.{option_map_or}
use Rattle.std.specs.Prelude.{List, [], slice_get, ℕ, ◌∷◌}
use Rattle.lcm_events.specs.declared.changes.Def.{Def}
use Rattle.lcm_events.specs.declared.changes.DefKind.{DefKind}
use Rattle.lcm_events.specs.declared.changes.DefKind.TheVariants.{Compute, Port, Storage}
use Rattle.lcm_events.specs.declared.changes.Verb.{Verb}
use Rattle.lcm_events.specs.declared.changes.Verb.TheVariants.{Create}
use Rattle.lcm_events.specs.declared.descriptor.Vnfd.{Vnfd}
use Rattle.lcm_model.specs.Vnfcs.{compute_def, defs, link_def}

-- the link of a port, where it has one (SOL 001, VduCp)
abbrev pub port_links : Vnfd → ℕ → List Def
port_links d n = option_map_or (λ p. option_map_or (λ l. link_def l ∷ []) p.link []) (slice_get d.ports n) []

-- on what a definition of this kind is made: a compute on its storages, a port on its compute and its link (SOL 001,
-- Vdu.Compute, VduCp)
abbrev pub made_on : Vnfd → DefKind → Def → List Def
made_on d Compute x = defs d Storage x.vdu x.serial
made_on d Port x = compute_def x.vdu x.serial ∷ port_links d x.item
made_on d _ x = []

-- on what work with this verb is done: what is made, on what it needs; all else, on the definition itself (own rule)
abbrev pub needs : Vnfd → Verb → Def → List Def
needs d Create x = made_on d x.kind x
needs d _ x = x ∷ []
