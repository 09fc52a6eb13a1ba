-- Words on what stands of an instance, as a list in order of definition (SOL 003 5.5.2.2, instantiatedVnfInfo).
use Rattle.std.specs.Prelude.{Bool, List, None, Option, Some, filter, find, if◌then◌else◌, map, not, true, ◌++◌, ◌∷◌}
use Rattle.std.specs.Prelude.{◌≡◌}
use Rattle.lcm_events.specs.Descriptors.{is_rising}
use Rattle.lcm_events.specs.Same.{same_def}
use Rattle.lcm_events.specs.declared.changes.Def.{Def}
use Rattle.lcm_events.specs.declared.held.Held.{Held}
use Rattle.lcm_model.specs.Descriptors.{is_def_before}

-- the items stand in order of VDU, serial, kind and item, each definition once (own rule)
abbrev pub AreInOrder : List Held → Type 0
AreInOrder ys = is_rising (λ x y. is_def_before x.def y.def) ys ≡ true

-- the item of a definition, where there is one (own rule)
abbrev pub item_of : Def → List Held → Option Held
item_of x ys = find (λ y. same_def y.def x) ys

-- an entry, where it is of this definition (own rule)
abbrev pub when_of : Def → Option Held → Option Held
when_of x None = None
when_of x (Some y) = if same_def y.def x then Some y else None

-- the items but that of this definition (own rule)
abbrev pub without : Def → List Held → List Held
without x ys = filter (λ y. not (same_def y.def x)) ys

-- an item, which runs or doesn't where it is of this definition (own rule)
abbrev pub powered : Def → Bool → Held → Held
powered x running y = if same_def y.def x then record y { running = running } else y

-- the items, where that of this definition runs or doesn't (own rule)
abbrev pub with_power : Def → Bool → List Held → List Held
with_power x running ys = map (powered x running) ys

-- the items with this one in its place: those before it, itself, those after it; one of its definition gives way to it
-- (own rule)
abbrev pub with_item : Held → List Held → List Held
with_item y ys = filter (λ z. is_def_before z.def y.def) ys ++ y ∷ filter (λ z. is_def_before y.def z.def) ys
