-- Which changes are planned, told without a list: the plan is exactly these, in order and each once (own rule).
use Rattle.std.specs.Prelude.{Bool, List, [], false, length, nat_lt, true, ℕ, ◌&&◌, ◌<◌, ◌==◌, ◌||◌, ◌↔◌, ◌∷◌, ◌≡◌, ◌⊎◌}
use Rattle.lcm_events.specs.declared.changes.Change.{Change}
use Rattle.lcm_events.specs.declared.changes.Def.{Def}
use Rattle.lcm_events.specs.declared.changes.DefKind.TheVariants.{Compute}
use Rattle.lcm_events.specs.declared.changes.Verb.{Verb}
use Rattle.lcm_events.specs.declared.changes.Verb.TheVariants.{Create, Remove, Start, Stop}
use Rattle.lcm_model.specs.Words.{IsIn}
use Rattle.lcm_model.specs.Vnfcs.{all_defs, link_def, there}
use Rattle.lcm_model.specs.Plans.{Case, leaving, makes_links, new, phase, removes_links, starts, stay, stops}

-- the definition is of a link of the descriptor (own rule)
abbrev pub IsLink : Case → Def → Type 0
IsLink p x = (n : ℕ) × (n < length p.vnfd.links) × (x ≡ link_def n)

-- the definition is of one of these machines of its VDU (own rule)
abbrev pub IsOf : (ℕ → List ℕ) → Case → Def → Type 0
IsOf serials p x = (x.vdu < length p.vnfd.vdus) × IsIn x.serial (serials x.vdu)
    × IsIn x (all_defs p.vnfd x.vdu x.serial)

-- a change with this verb at a definition is planned (own rule)
abbrev pub IsPlannedBy : Case → Verb → Def → Type 0
IsPlannedBy p Create x = (IsOf (new p) p x) ⊎ ((makes_links p.ask ≡ true) × IsLink p x × (p.held.stands x ≡ false))
IsPlannedBy p Remove x = (p.held.stands x ≡ true) × ((IsOf (leaving p) p x)
    ⊎ ((removes_links p.ask ≡ true) × IsLink p x))
IsPlannedBy p Start x = (starts p.ask ≡ true) × (x.kind ≡ Compute) × IsOf (stay p) p x × (p.held.stands x ≡ true)
    × (p.held.runs x ≡ false)
IsPlannedBy p Stop x = (stops p.ask ≡ true) × (x.kind ≡ Compute) × IsOf (there p.vnfd p.held) p x
    × (p.held.runs x ≡ true)

-- the change is planned (own rule)
abbrev pub IsPlanned : Case → Change → Type 0
IsPlanned p x = (x.phase ≡ phase x.verb x.def.kind) × IsPlannedBy p x.verb x.def

-- one list of numbers stands before another: by their first difference (own rule)
abbrev pub is_before : List ℕ → List ℕ → Bool
is_before [] ns = false
is_before (m ∷ ms) [] = false
is_before (m ∷ ms) (n ∷ ns) = nat_lt m n || ((m == n) && is_before ms ns)

-- what a plan is sorted by (own rule)
abbrev pub key : Change → List ℕ
key x = x.phase ∷ x.def.vdu ∷ x.def.serial ∷ x.def.item ∷ []

-- the first stands before each of the others (own rule)
abbrev pub IsBeforeAll : Change → List Change → Type 0
IsBeforeAll x [] = Unit {0}
IsBeforeAll x (y ∷ ys) = (is_before (key x) (key y) ≡ true) × IsBeforeAll x ys

-- the changes are in order, so no two are equal (own rule)
abbrev pub AreInOrder : List Change → Type 0
AreInOrder [] = Unit {0}
AreInOrder (x ∷ xs) = IsBeforeAll x xs × AreInOrder xs

-- the changes are exactly the planned ones, in order (own rule)
pub record IsPlan (p : Case) (xs : List Change) : Type 0 where
  pub exact : (x : Change) → IsIn x xs ↔ IsPlanned p x
  pub in_order : AreInOrder xs
