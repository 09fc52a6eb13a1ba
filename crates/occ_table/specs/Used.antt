-- What the changes of an occurrence used (SOL 003 5.5.2.13, VnfLcmOpOcc, resourceChanges).
use Rattle.std.specs.Prelude.{List, None, Option, Some, if◌then◌else◌, option_and_then, option_map, ℕ}
use Rattle.lcm_events.specs.Same.{same_way}
use Rattle.lcm_events.specs.declared.attempts.Outcome.{Outcome}
use Rattle.lcm_events.specs.declared.attempts.Tag.{Tag}
use Rattle.lcm_events.specs.declared.attempts.Way.TheVariants.{Forward}
use Rattle.lcm_events.specs.declared.changes.Def.{Def}
use Rattle.lcm_events.specs.declared.events.Event.{Event}
use Rattle.lcm_events.specs.declared.events.EventKind.{EventKind}
use Rattle.lcm_events.specs.declared.events.EventKind.TheVariants.{Settled}
use Rattle.lcm_events.specs.declared.places.Place.{Place}
use Rattle.lcm_model.specs.declared.holding.Effect.{Effect}
use Rattle.lcm_model.specs.Attempts.{is_of}
use Rattle.lcm_model.specs.Grants.{granted_place}
use Rattle.lcm_model.specs.Holding.{effect_done, is_creation, place, resource}
use Rattle.lcm_model.specs.Words.{first, told}
use Rattle.occ_table.specs.declared.used.Used.{Used}

-- a resource with its place, where both are there (SOL 003 5.5.3, the resource infos of an instance)
abbrev pub placed : Option (List ℕ) → Option Place → Option Used
placed name at = option_and_then (λ n. option_map (λ p. record { resource = n; place = p }) at) name

-- the resource of a definition of the instance, with its place, where it was ever made (SOL 003 5.5.3, the resource
-- infos of an instance)
abbrev pub known : List Event → ℕ → Def → Option Used
known H i x = placed (resource H i x) (place H i x)

-- what an effect of a change, after its past, used: what it made, where that was granted to stand, or else the resource
-- of its definition, where that stands (SOL 003 5.5.2.13, resourceChanges)
abbrev pub used_by : List Event → Effect → Option Used
used_by H y = if is_creation y then placed (Some y.resource) (granted_place H y.tag.occ y.tag.change)
    else known H y.instance y.def

-- what an attempt that ended so, after its past, used: nothing where it was an undo or isn't done (SOL 003 5.5.2.13,
-- resourceChanges)
abbrev pub used_at : List Event → Tag → Outcome → Option Used
used_at H t outcome = if same_way t.way Forward then option_and_then (used_by H) (effect_done H t outcome) else None

-- what a change of an occurrence used by an event, after its past (SOL 003 5.5.2.13, resourceChanges)
abbrev pub used_in : ℕ → ℕ → List Event → EventKind → Option Used
used_in o c H (Settled t outcome) = if is_of o c t then used_at H t outcome else None
used_in o c H _ = None

-- what a change of an occurrence used last: the resource that its last attempt that was done and no undo made, removed
-- or powered, with its place (SOL 003 5.5.2.13, resourceChanges)
abbrev pub used : List Event → ℕ → ℕ → Option Used
used H o c = first (told (used_in o c) H)
