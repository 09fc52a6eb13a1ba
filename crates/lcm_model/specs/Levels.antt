-- How many machines a VDU has at given levels, and the levels that an ask aims at (SOL 001, scaling policies).
use Rattle.std.specs.Option.{option_map_or}
use Rattle.std.specs.List.{list_all}
use Rattle.std.specs.Prelude.{Bool, nat_le, ◌&&◌, min, List, None, Option, Some, [], find, if◌then◌else◌, map}
use Rattle.std.specs.Prelude.{option_map, slice_get, take, unwrap_or, zip, ℕ, ◌*◌, ◌+◌, ◌-◌, ◌==◌, ◌∷◌}
use Rattle.lcm_model.specs.Words.{total}
use Rattle.lcm_events.specs.Same.{same_name}
use Rattle.lcm_events.specs.declared.asks.Aim.{Aim}
use Rattle.lcm_events.specs.declared.asks.Ask.{Ask}
use Rattle.lcm_events.specs.declared.asks.Ask.TheVariants.{Instantiate, Scale, ScaleToLevel}
use Rattle.lcm_events.specs.declared.asks.AspectLevel.{AspectLevel}
use Rattle.lcm_events.specs.declared.asks.ScaleWay.{ScaleWay}
use Rattle.lcm_events.specs.declared.descriptor.Aspect.{Aspect}
use Rattle.lcm_events.specs.declared.descriptor.Row.{Row}
use Rattle.lcm_events.specs.declared.descriptor.Vnfd.{Vnfd}
use Rattle.lcm_events.specs.declared.asks.Aim.TheVariants as aims
use Rattle.lcm_events.specs.declared.asks.ScaleWay.TheVariants.{Out, In}

-- what the first n steps add: a single delta holds for every step (SOL 001, VduScalingAspectDeltas; ScalingAspects,
-- step_deltas)
abbrev pub steps_to : ℕ → List ℕ → ℕ
steps_to n (delta ∷ []) = n * delta
steps_to n deltas = total (take n deltas)

-- the row of an aspect for the VDU (SOL 001, VduScalingAspectDeltas)
abbrev pub row_of : ℕ → List Row → Option Row
row_of v rows = find (λ row. row.vdu == v) rows

-- what a row adds at level n (SOL 001, VduScalingAspectDeltas)
abbrev pub row_adds : ℕ → Option Row → ℕ
row_adds n None = 0
row_adds n (Some row) = steps_to n row.deltas

-- what an aspect adds to the VDU at its level (SOL 001, VduScalingAspectDeltas)
unfoldable pub added : ℕ → Aspect × ℕ → ℕ
added v a = row_adds a.1 (row_of v a.0.rows)

-- the machines of the VDU at level 0 of every aspect (SOL 001, VduInitialDelta)
abbrev pub initial : Vnfd → ℕ → ℕ
initial d v = option_map_or (λ u. u.initial) (slice_get d.vdus v) 0

-- the machines of the VDU at these levels: its initial delta and, over all aspects, what the steps up to the level add
-- (SOL 001, VduInitialDelta, VduScalingAspectDeltas)
abbrev pub count : Vnfd → ℕ → List ℕ → ℕ
count d v levels = initial d v + total (map (added v) (zip d.aspects levels))

-- the levels of the instantiation level of this name (SOL 001, InstantiationLevels)
abbrev pub level_of : Vnfd → List ℕ → Option (List ℕ)
level_of d name = option_map (λ l. l.numbers) (find (λ l. same_name l.name name) d.levels)

-- the levels of the default instantiation level (SOL 001, InstantiationLevels)
abbrev pub default_level : Vnfd → List ℕ
default_level d = option_map_or (λ l. l.numbers) (slice_get d.levels d.default_level) []

-- the aspect has this name (SOL 001, ScalingAspects)
unfoldable pub is_aspect : List ℕ → Aspect × ℕ → Bool
is_aspect name a = same_name a.0.name name

-- the aspect of this name with its level (SOL 001, ScalingAspects)
abbrev pub aspect_at : Vnfd → List ℕ → List ℕ → Option (Aspect × ℕ)
aspect_at d levels name = find (is_aspect name) (zip d.aspects levels)

-- a level moved out or in by steps (SOL 003 5.5.2.5, ScaleVnfRequest)
abbrev pub moved_by : ScaleWay → ℕ → ℕ → ℕ
moved_by Out steps level = level + steps
moved_by In steps level = level - steps

-- the level that is given, whatever it was (SOL 003 5.5.2.6, ScaleVnfToLevelRequest)
abbrev pub to_level : ℕ → ℕ → ℕ
to_level level before = level

-- the level of each aspect, where that of this name is changed by f and the others are kept. None is past its aspect's
-- maximum: an ask that would lead there is refused (own rule)
abbrev pub at_aspect : List Aspect → List ℕ → (ℕ → ℕ) → List ℕ → List ℕ
at_aspect [] name f levels = levels
at_aspect (a ∷ aspects) name f [] = []
at_aspect (a ∷ aspects) name f (n ∷ levels) = (if same_name a.name name then min (f n) a.maximum else n)
    ∷ at_aspect aspects name f levels

-- the levels, where those of the named aspects are replaced (SOL 003 5.5.2.6)
abbrev pub replaced : Vnfd → List ℕ → List AspectLevel → List ℕ
replaced d levels [] = levels
replaced d levels (x ∷ named) = replaced d (at_aspect d.aspects x.aspect (to_level x.level) levels) named

-- the levels that SCALE_TO_LEVEL aims at: those of a name, or the present ones with some replaced (SOL 003 5.5.2.6)
abbrev pub aimed : Vnfd → List ℕ → Aim → List ℕ
aimed d levels (aims.Level name) = unwrap_or (level_of d name) levels
aimed d levels (aims.Aspects named) = replaced d levels named

-- the levels that INSTANTIATE aims at: the asked ones, or the default (SOL 003 5.5.2.4, InstantiateVnfRequest)
abbrev pub asked_level : Vnfd → Option (List ℕ) → List ℕ
asked_level d None = default_level d
asked_level d (Some name) = unwrap_or (level_of d name) (default_level d)

-- the levels that an ask aims at, from the present ones (SOL 003 5.4.4 to 5.4.10, the tasks of an instance)
abbrev pub target : Vnfd → List ℕ → Ask → List ℕ
target d levels (Instantiate flavour level) = asked_level d level
target d levels (Scale way aspect steps) = at_aspect d.aspects aspect (moved_by way steps) levels
target d levels (ScaleToLevel aim) = aimed d levels aim
target d levels _ = levels

-- level 0 of every aspect (own rule)
abbrev pub no_levels : Vnfd → List ℕ
no_levels d = map (λ a. 0) d.aspects

-- the deltas of a row are within the limit (own limit)
abbrev pub has_small_row : Row → Bool
has_small_row row = list_all (λ n. nat_le n 65535) row.deltas

-- an aspect's maximum and the deltas of its rows are within the limits (own limits)
unfoldable pub has_small_deltas : Aspect → Bool
has_small_deltas a = nat_le a.maximum 1000 && list_all has_small_row a.rows
