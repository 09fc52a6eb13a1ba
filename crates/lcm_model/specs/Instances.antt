-- The state of an instance: instantiated, at which levels, started, in step (SOL 003 5.5.2.2, VnfInstance).
use Rattle.std.specs.List.{list_any, range_with_len}
use Rattle.std.specs.Prelude.{Bool, List, None, Option, Some, [], false, filter_map, flat_map, if◌then◌else◌, map}
use Rattle.std.specs.Prelude.{option_and_then, option_map, slice_get, true, unwrap_or, ℕ, ◌&&◌, ◌++◌, ◌==◌, ◌∷◌}
use Rattle.lcm_events.specs.Same.{same_def}
use Rattle.lcm_events.specs.declared.asks.Ask.{Ask}
use Rattle.lcm_events.specs.declared.asks.Ask.TheVariants.{Heal, Instantiate, Operate, Scale, ScaleToLevel, Terminate}
use Rattle.lcm_events.specs.declared.changes.Def.{Def}
use Rattle.lcm_events.specs.declared.descriptor.Vnfd.{Vnfd}
use Rattle.lcm_events.specs.declared.events.Event.{Event}
use Rattle.lcm_events.specs.declared.events.EventKind.{EventKind}
use Rattle.lcm_events.specs.declared.events.EventKind.TheVariants.{Moved}
use Rattle.lcm_events.specs.declared.held.Held.{Held}
use Rattle.lcm_events.specs.declared.held.Holding.{Holding}
use Rattle.lcm_events.specs.declared.states.OpState.{OpState}
use Rattle.lcm_events.specs.declared.states.OpState.TheVariants.{Completed, Failed}
use Rattle.lcm_model.specs.Words.{first, told}
use Rattle.lcm_model.specs.Operations.{operation}
use Rattle.lcm_model.specs.Holding.{place, resource, runs, stands, top}
use Rattle.lcm_model.specs.Levels.{no_levels, target}
use Rattle.lcm_model.specs.Vnfcs.{Inventory, all_defs, links, vdu_numbers}

-- what a question to an ask and the state that its operation moves to gives, where an event moves an operation of the
-- instance, after the event's past (own rule)
unfoldable pub moving : {A : Type 0} → (Ask → OpState → Option A) → ℕ → List Event → EventKind → Option A
moving ask i H (Moved o to) = option_and_then (λ a. if a.instance == i then ask a.ask to else None) (operation H o)
moving ask i H _ = None

-- whether such a move makes the instance INSTANTIATED or NOT_INSTANTIATED, where it does either (SOL 003 5.4.4, 5.4.8)
abbrev pub instantiates : Ask → OpState → Option Bool
instantiates (Instantiate flavour level) Completed = Some true
instantiates (Instantiate flavour level) Failed = Some true
instantiates (Terminate mode timeout) Completed = Some false
instantiates _ _ = None

-- the instance is INSTANTIATED: the last such move made it so (SOL 003 5.5.2.2)
abbrev pub is_instantiated : List Event → ℕ → Bool
is_instantiated H i = unwrap_or (first (told (moving instantiates i) H)) false

-- whether such a move starts or stops the instance, where it does either (SOL 003 5.4.4, 5.4.9, 5.4.10)
abbrev pub starts_or_stops : Ask → OpState → Option Bool
starts_or_stops (Instantiate flavour level) Completed = Some true
starts_or_stops (Instantiate flavour level) Failed = Some true
starts_or_stops (Heal cause named) Completed = Some true
starts_or_stops (Operate started stop) Completed = Some started
starts_or_stops _ _ = None

-- the instance is STARTED: the last such move made it so (SOL 003 5.5.2.2)
abbrev pub is_started : List Event → ℕ → Bool
is_started H i = unwrap_or (first (told (moving starts_or_stops i) H)) false

-- the ask of such a move, where it sets the levels (own rule)
abbrev pub sets_levels : Ask → OpState → Option Ask
sets_levels (Instantiate flavour level) Completed = Some (Instantiate flavour level)
sets_levels (Instantiate flavour level) Failed = Some (Instantiate flavour level)
sets_levels (Scale way aspect steps) Completed = Some (Scale way aspect steps)
sets_levels (ScaleToLevel aim) Completed = Some (ScaleToLevel aim)
sets_levels _ _ = None

-- the levels that asks lead to, one after the other from level 0, the latest ask first (own rule)
abbrev pub levels_from : Vnfd → List Ask → List ℕ
levels_from d [] = no_levels d
levels_from d (ask ∷ earlier) = target d (levels_from d earlier) ask

-- the levels of the instance: those that the asks which set them lead to (SOL 003 5.5.2.2, scaleStatus)
abbrev pub levels : Vnfd → List Event → ℕ → List ℕ
levels d H i = levels_from d (told (moving sets_levels i) H)

-- what stands of the instance, as a plan asks it (own rule)
abbrev pub inventory : List Event → ℕ → Inventory
inventory H i = record { stands = stands H i; runs = runs H i; top = top H i }

-- a definition that stands, with its resource and its place (SOL 003 5.5.3)
abbrev pub held_at : List Event → ℕ → Def → Option Held
held_at H i x =
    if stands H i x then option_and_then (λ name. option_map
    (λ at. record { def = x; resource = name; place = at; running = runs H i x }) (place H i x)) (resource H i x)
    else None

-- the definitions of the descriptor with serials up to these, in order of VDU, serial, kind and item, the links last
-- (own rule)
abbrev pub defs_up_to : Vnfd → (ℕ → ℕ) → List Def
defs_up_to d top = flat_map (λ v. flat_map (all_defs d v) (range_with_len 1 (top v))) (vdu_numbers d) ++ links d

-- what stands of the instance, and how it is meant to stand (SOL 003 5.5.2.2, instantiatedVnfInfo)
abbrev pub holding : Vnfd → List Event → ℕ → Holding
holding d H i = record {
  instantiated = is_instantiated H i;
  started = is_started H i;
  levels = levels d H i;
  items = filter_map (held_at H i) (defs_up_to d (top H i));
  top = map (top H i) (vdu_numbers d);
}

-- what a holding says stands, as a plan asks it (own rule)
abbrev pub inventory_of : Holding → Inventory
inventory_of h = record {
  stands = λ x. list_any (λ y. same_def y.def x) h.items;
  runs = λ x. list_any (λ y. same_def y.def x && y.running) h.items;
  top = λ v. unwrap_or (slice_get h.top v) 0;
}
