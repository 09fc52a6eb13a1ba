-- Which operation of each instance goes on (SOL 003 5.4.4 to 5.4.10).
use Rattle.std.specs.List.{range_with_len}
use Rattle.std.specs.Prelude.{List, None, Option, Some, [], if◌then◌else◌, map, option_and_then, option_map, slice_set}
use Rattle.std.specs.Prelude.{ℕ, ◌++◌, ◌-◌, ◌==◌, ◌∷◌}
use Rattle.lcm_events.specs.declared.events.Event.{Event}
use Rattle.lcm_events.specs.declared.events.EventKind.{EventKind}
use Rattle.lcm_events.specs.declared.events.EventKind.TheVariants.{Asked, Created, Moved}
use Rattle.lcm_events.specs.declared.states.OpState.{OpState}
use Rattle.lcm_model.specs.Lives.{instances_made}
use Rattle.lcm_model.specs.Moves.{is_final}
use Rattle.lcm_model.specs.Operations.{ongoing}
use Rattle.lcm_model.specs.Words.{first}
use Rattle.occ_table.specs.Descriptors.{numbered}
use Rattle.occ_table.specs.declared.rows.OccRow.{OccRow}

-- the number of the instance's ongoing operation (SOL 003 5.6.2)
abbrev pub ongoing_of : List Event → ℕ → Option ℕ
ongoing_of H i = option_map (λ a. a.occ) (first (ongoing H i))

-- the number of the ongoing operation of each instance that was ever created, in the order of the instances' numbers
-- (SOL 003 5.6.2)
abbrev pub ongoings : List Event → List (Option ℕ)
ongoings H = map (ongoing_of H) (range_with_len 1 (instances_made H))

-- the ongoing operation of the instance of this number, among those of all instances
abbrev pub ongoing_in : ℕ → List (Option ℕ) → Option ℕ
ongoing_in i xs = option_and_then (λ x. x) (numbered i xs)

-- the ongoing operations with that of this instance set
abbrev pub with_ongoing : ℕ → Option ℕ → List (Option ℕ) → List (Option ℕ)
with_ongoing i x xs = if i == 0 then xs else slice_set xs (i - 1) x

-- the instance of the occurrence of this number
abbrev pub instance_in : ℕ → List OccRow → Option ℕ
instance_in o rs = option_map (λ r. r.instance) (numbered o rs)

-- the ongoing operations after an operation of this instance has moved to this state
abbrev pub ongoing_moved : Option ℕ → OpState → List (Option ℕ) → List (Option ℕ)
ongoing_moved None to xs = xs
ongoing_moved (Some i) to xs = if is_final to then with_ongoing i None xs else xs

-- the ongoing operations after an event that followed these rows
abbrev pub ongoings_after : List OccRow → EventKind → List (Option ℕ) → List (Option ℕ)
ongoings_after rs (Created instance vnfd name text) xs = xs ++ None ∷ []
ongoings_after rs (Asked a) xs = with_ongoing a.instance (Some a.occ) xs
ongoings_after rs (Moved o to) xs = ongoing_moved (instance_in o rs) to xs
ongoings_after rs _ xs = xs
