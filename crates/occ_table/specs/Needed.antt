-- Of which definitions the table keeps the resource: of those that an attempt can still ask for (own rule).
use Rattle.std.specs.Option.{option_map_or}
use Rattle.std.specs.Prelude.{Bool, List, None, Option, Some, false, if◌then◌else◌, not, option_map, slice_get, true, ℕ}
use Rattle.std.specs.Prelude.{◌||◌, ◌≡◌}
use Rattle.lcm_events.specs.declared.attempts.Tag.{Tag}
use Rattle.lcm_events.specs.declared.attempts.Way.TheVariants.{Forward}
use Rattle.lcm_events.specs.declared.changes.Change.{Change}
use Rattle.lcm_events.specs.declared.changes.Def.{Def}
use Rattle.lcm_events.specs.declared.changes.Verb.TheVariants.{Create}
use Rattle.lcm_events.specs.declared.events.Event.{Event}
use Rattle.lcm_events.specs.declared.events.EventKind.TheVariants.{Intent}
use Rattle.lcm_events.specs.declared.events.Operation.{Operation}
use Rattle.lcm_model.specs.declared.holding.Effect.{Effect}
use Rattle.lcm_model.specs.Allowed.{IsAllowedWithin, IsLegalWithin}
use Rattle.lcm_model.specs.Holding.{effects, stands}
use Rattle.lcm_model.specs.Operations.{operation}
use Rattle.lcm_model.specs.Words.{first}
use Rattle.occ_table.specs.Ended.{is_over}
use Rattle.occ_table.specs.Used.{known}
use Rattle.occ_table.specs.declared.resources.Entry.{Entry}
use Rattle.occ_table.specs.declared.used.Used.{Used}

-- the occurrence that had this effect isn't over (SOL 003 5.6.2)
abbrev pub is_going_on : List Event → Effect → Bool
is_going_on H y = not (is_over H y.tag.occ)

-- the occurrence that had an effect on the definition of the instance last isn't over, so that it can still undo it
-- (own rule)
abbrev pub is_in_work : List Event → ℕ → Def → Bool
is_in_work H i x = option_map_or (is_going_on H) (first (effects H i x)) false

-- a definition of the instance is needed: it stands, or is in work (own rule)
abbrev pub is_needed : List Event → ℕ → Def → Bool
is_needed H i x = stands H i x || is_in_work H i x

-- the resource of a definition of the instance, with its place, where that is needed (own rule)
abbrev pub needed : List Event → ℕ → Def → Option Used
needed H i x = if is_needed H i x then known H i x else None

-- what is kept of a definition of the instance: its resource where that is needed, and whether it stands (own rule)
abbrev pub entry : List Event → ℕ → Def → Option Entry
entry H i x = option_map (λ u. record { used = u; stands = stands H i x }) (needed H i x)

-- when an attempt may begin, the definition of its change is needed, unless the change is to make it (own rule)
abbrev pub WorkIsOnWhatIsNeeded : Type 0
WorkIsOnWhatIsNeeded =
    (width m : ℕ) (H : List Event) (t : Tag) → IsLegalWithin width m H → IsAllowedWithin width m H (Intent t)
    → (a : Operation) (k : Change) → operation H t.occ ≡ Some a → slice_get a.changes t.change ≡ Some k
    → (t.way ≡ Forward → k.verb ≡ Create → ⊥) → is_needed H a.instance k.def ≡ true
