-- What becomes of the machines of a VDU, and which changes of a plan what stands gives (own rule).
use Rattle.std.specs.List.{enumerate_from, list_all}
use Rattle.std.specs.Option.{option_map_or}
use Rattle.std.specs.Prelude.{Bool, List, [], false, filter, flat_map, if◌then◌else◌, length, map, nat_le, nat_lt, not}
use Rattle.std.specs.Prelude.{slice_get, true, ℕ, ◌&&◌, ◌*◌, ◌+◌, ◌++◌, ◌-◌, ◌==◌, ◌||◌, ◌∷◌, ◌≡◌}
use Rattle.std.specs.List.{range_with_len}
use Rattle.lcm_events.specs.Descriptors.{is_rising}
use Rattle.lcm_events.specs.Same.{same_kind}
use Rattle.lcm_events.specs.declared.asks.Ask.{Ask}
use Rattle.lcm_events.specs.declared.asks.Ask.TheVariants.{Operate, Terminate}
use Rattle.lcm_events.specs.declared.changes.Change.{Change}
use Rattle.lcm_events.specs.declared.changes.Def.{Def}
use Rattle.lcm_events.specs.declared.changes.DefKind.{DefKind}
use Rattle.lcm_events.specs.declared.changes.DefKind.TheVariants.{Compute, Link, Port, Storage}
use Rattle.lcm_events.specs.declared.changes.Verb.{Verb}
use Rattle.lcm_events.specs.declared.changes.Verb.TheVariants.{Create, Remove, Start, Stop}
use Rattle.lcm_events.specs.declared.descriptor.Vnfd.{Vnfd}
use Rattle.lcm_events.specs.declared.held.Held.{Held}
use Rattle.lcm_events.specs.declared.held.Holding.{Holding}
use Rattle.lcm_model.specs.Descriptors.{IsHoldingOf, IsValid, are_levels_of, is_def_before}
use Rattle.lcm_model.specs.Plans.{Case, change, makes_links, removes_links, starts, stay, stops, want}
use Rattle.lcm_model.specs.Vnfcs.{defs, items, link_def}
use Rattle.lcm_model.specs.Words.{is_among, same_bool, total}
use Rattle.change_planner.specs.Inventories.{case_of}
use Rattle.change_planner.specs.declared.plans.Pick.{Pick}
use Rattle.change_planner.specs.declared.plans.Pick.TheVariants.{Leaving, Links, Running, Stopped}
use Rattle.change_planner.specs.declared.rolls.PlanCase.{PlanCase}
use Rattle.change_planner.specs.declared.rolls.Roll.{Roll}

-- the case that the values of a plan's program make (own rule)
abbrev pub case_in : PlanCase → Case
case_in p = case_of p.vnfd.now p.holding.now p.ask.now p.to.now

-- a plan can be made: the descriptor is valid, and the levels and the holding are its own (own rule)
pub record CanBePlanned (d : Vnfd) (h : Holding) (to : List ℕ) : Type 0 where
  pub valid : IsValid d
  pub levels : are_levels_of d to ≡ true
  pub held : IsHoldingOf d h

-- how many machines of a VDU an ask makes (own rule)
abbrev pub missing_by : Ask → Case → ℕ → ℕ
missing_by (Operate started stop) p v = 0
missing_by (Terminate mode timeout) p v = 0
missing_by _ p v = want p v - length (stay p v)

-- what becomes of the machines of a VDU (own rule)
abbrev pub roll_of : Case → ℕ → Roll
roll_of p v = record { staying = stay p v; top = p.held.top v; missing = missing_by p.ask p v }

-- the machine of an item stays (own rule)
abbrev pub stays_by : List Roll → Held → Bool
stays_by rolls y = option_map_or (λ r. is_among r.staying y.def.serial) (slice_get rolls y.def.vdu) false

-- the serials that stay rise in each roll (own rule)
abbrev pub are_rising : List Roll → Bool
are_rising rolls = list_all (λ r. is_rising nat_lt r.staying) rolls

-- the numbers of a roll are so small that new serials and their sum are (own limit)
abbrev pub is_small : Roll → Bool
is_small r = nat_lt r.top 2147483648 && nat_le r.missing 1048625535

-- the changes with a verb at the items that pass a test (own rule)
abbrev pub changes_where : Verb → (Held → Bool) → List Held → List Change
changes_where verb test ys = map (change verb) (map (λ y. y.def) (filter test ys))

-- the item is of this kind and of a machine that leaves (own rule)
abbrev pub leaves : DefKind → List Roll → Held → Bool
leaves kind rolls y = same_kind y.def.kind kind && not (stays_by rolls y)

-- the item is a stopped compute of a machine that stays (own rule)
abbrev pub is_stopped : List Roll → Held → Bool
is_stopped rolls y = same_kind y.def.kind Compute && stays_by rolls y && not y.running

-- the item is a compute that runs (own rule)
abbrev pub is_running : Held → Bool
is_running y = same_kind y.def.kind Compute && y.running

-- the item is a link (own rule)
abbrev pub is_link : Held → Bool
is_link y = same_kind y.def.kind Link

-- the items that a phase of a plan is about (own rule)
abbrev pub is_picked : Pick → List Roll → Held → Bool
is_picked (Leaving kind) rolls y = leaves kind rolls y
is_picked Stopped rolls y = is_stopped rolls y
is_picked Running rolls y = is_running y
is_picked Links rolls y = is_link y

-- the numbers of the links that stand (own rule)
abbrev pub held_links : List Held → List ℕ
held_links ys = map (λ y. y.def.item) (filter is_link ys)

-- the numbers of the links of a descriptor that don't stand (own rule)
abbrev pub missing_links : Vnfd → List Held → List ℕ
missing_links d ys = filter (λ n. not (is_among (held_links ys) n)) (range_with_len 0 (length d.links))

-- the numbers of the links that an ask makes (own rule)
abbrev pub links_to_make : Vnfd → Ask → List Held → List ℕ
links_to_make d ask ys = if makes_links ask then missing_links d ys else []

-- the definitions of one kind of the new machines of a VDU (own rule)
abbrev pub new_defs : Vnfd → DefKind → ℕ × Roll → List Def
new_defs d kind x = flat_map (defs d kind x.0) (range_with_len (x.1.top + 1) x.1.missing)

-- the changes that make the definitions of one kind of the new machines (own rule)
abbrev pub made_by : Vnfd → DefKind → List Roll → List Change
made_by d kind rolls = map (change Create) (flat_map (new_defs d kind) (enumerate_from 0 rolls))

-- the changes of a verb, where the ask has them (own rule)
abbrev pub changes_if : Bool → Verb → (Held → Bool) → List Held → List Change
changes_if asked verb test ys = if asked then changes_where verb test ys else []

-- the plan that rolls and items make: its changes, phase by phase (own rule)
abbrev pub plan_by : Vnfd → Ask → List Roll → List Held → List Change
plan_by d ask rolls ys =
    map (change Create) (map link_def (links_to_make d ask ys))
    ++ made_by d Storage rolls ++ made_by d Compute rolls ++ made_by d Port rolls
    ++ changes_if (starts ask) Start (is_stopped rolls) ys ++ changes_if (stops ask) Stop is_running ys
    ++ changes_where Remove (leaves Port rolls) ys ++ changes_where Remove (leaves Compute rolls) ys
    ++ changes_where Remove (leaves Storage rolls) ys
    ++ changes_if (removes_links ask) Remove is_link ys

-- the rising serials of the items of a VDU, each once, where the one before them is this (own rule)
abbrev pub distinct : ℕ → ℕ → List Held → List ℕ
distinct v last [] = []
distinct v last (y ∷ ys) = if (y.def.vdu == v) && not (y.def.serial == last)
    then y.def.serial ∷ distinct v y.def.serial ys else distinct v last ys

-- the items stand in the order of a holding: by VDU, serial, kind and item (own rule)
abbrev pub are_in_order : List Held → Bool
are_in_order ys = is_rising (λ x y. is_def_before x.def y.def) ys

-- the item stands before those of the VDU with this serial (own rule)
abbrev pub comes_before : ℕ → ℕ → Held → Bool
comes_before v s y = nat_lt y.def.vdu v || ((y.def.vdu == v) && nat_lt y.def.serial s)

-- the item is of the VDU; those of links are of 65535 (own rule)
abbrev pub has_vdu : ℕ → Held → Bool
has_vdu v y = y.def.vdu == v

-- the item is of the VDU and has this serial (own rule)
abbrev pub is_at : ℕ → ℕ → Held → Bool
is_at v s y = (y.def.vdu == v) && (y.def.serial == s)

-- the item is no compute, or runs exactly where the instance is started (own rule)
abbrev pub runs_as_meant : Bool → Held → Bool
runs_as_meant started y = not (same_kind y.def.kind Compute) || same_bool started y.running

-- how many definitions each machine of a VDU has (own rule)
abbrev pub parts_of : Vnfd → ℕ → ℕ
parts_of d v = length (items d Storage v) + length (items d Compute v) + length (items d Port v)

-- how many definitions the new machines of these VDUs have (own rule)
abbrev pub parts_made : Vnfd → List (ℕ × Roll) → ℕ
parts_made d rolls = total (map (λ x. x.1.missing * parts_of d x.0) rolls)
