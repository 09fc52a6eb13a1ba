-- The changes of an operation: which they are, and their order (own rule).
use Rattle.std.specs.List.{list_any, range_with_len}
use Rattle.std.specs.Prelude.{Bool, List, [], false, filter, flat_map, if◌then◌else◌, length, map, not, take, true, ℕ}
use Rattle.std.specs.Prelude.{◌&&◌, ◌++◌, ◌+◌, ◌-◌, ◌==◌, ◌∷◌}
use Rattle.lcm_events.specs.Same.{kind_number}
use Rattle.lcm_events.specs.declared.asks.Ask.{Ask}
use Rattle.lcm_events.specs.declared.asks.Ask.TheVariants.{Heal, Instantiate, Operate, Terminate}
use Rattle.lcm_events.specs.declared.asks.Vnfc.{Vnfc}
use Rattle.lcm_events.specs.declared.changes.Change.{Change}
use Rattle.lcm_events.specs.declared.changes.Def.{Def}
use Rattle.lcm_events.specs.declared.changes.DefKind.{DefKind}
use Rattle.lcm_events.specs.declared.changes.DefKind.TheVariants.{Compute, Port, Storage}
use Rattle.lcm_events.specs.declared.changes.Verb.{Verb}
use Rattle.lcm_events.specs.declared.changes.Verb.TheVariants.{Create, Remove, Start, Stop}
use Rattle.lcm_events.specs.declared.descriptor.Vnfd.{Vnfd}
use Rattle.lcm_model.specs.Words.{is_among}
use Rattle.lcm_model.specs.Levels.{count}
use Rattle.lcm_model.specs.Vnfcs.{Inventory, defs, is_whole, links, there, vdu_numbers}
use Rattle.lcm_events.specs.declared.asks.StopType.TheVariants.{Graceful}

-- what a plan is made for: an ask, the levels that it aims at, and what stands (own rule)
pub record Case : Type 0 where
  pub vnfd : Vnfd
  pub held : Inventory
  pub ask : Ask
  pub to : List ℕ

-- how many machines the VDU is to have (own rule)
abbrev pub want : Case → ℕ → ℕ
want p v = count p.vnfd v p.to

-- the machine is named (own rule)
abbrev pub is_named : List Vnfc → ℕ → ℕ → Bool
is_named named v s = list_any (λ x. (x.vdu == v) && (x.serial == s)) named

-- the machines of a VDU that an ask may leave: none for INSTANTIATE and TERMINATE; for HEAL the whole ones that aren't
-- named, none where none is named; else all (own rule)
abbrev pub may_stay : Ask → Case → ℕ → List ℕ
may_stay (Instantiate flavour level) p v = []
may_stay (Terminate mode timeout) p v = []
may_stay (Heal cause []) p v = []
may_stay (Heal cause (x ∷ named)) p v = filter (λ s. is_whole p.vnfd p.held v s && not (is_named (x ∷ named) v s))
    (there p.vnfd p.held v)
may_stay _ p v = there p.vnfd p.held v

-- the serials that stay: for OPERATE all, else the least of those that may, as many as are wanted (own rule)
abbrev pub stay_by : Ask → Case → ℕ → List ℕ
stay_by (Operate started stop) p v = may_stay (Operate started stop) p v
stay_by ask p v = take (want p v) (may_stay ask p v)

-- the serials of a VDU that stay (own rule)
abbrev pub stay : Case → ℕ → List ℕ
stay p v = stay_by p.ask p v

-- the serials of a VDU of which something stands and that don't stay (own rule)
abbrev pub leaving : Case → ℕ → List ℕ
leaving p v = filter (λ s. not (is_among (stay p v) s)) (there p.vnfd p.held v)

-- the serials that an ask makes: as many as are wanted beside those that stay, above the greatest; none for OPERATE and
-- TERMINATE (own rule)
abbrev pub new_by : Ask → Case → ℕ → List ℕ
new_by (Operate started stop) p v = []
new_by (Terminate mode timeout) p v = []
new_by _ p v = range_with_len (p.held.top v + 1) (want p v - length (stay p v))

-- the serials of a VDU that are new (own rule)
abbrev pub new : Case → ℕ → List ℕ
new p v = new_by p.ask p v

-- the ask makes the links that don't stand (own rule)
abbrev pub makes_links : Ask → Bool
makes_links (Instantiate flavour level) = true
makes_links (Heal cause named) = true
makes_links _ = false

-- the ask takes the links away (own rule)
abbrev pub removes_links : Ask → Bool
removes_links (Terminate mode timeout) = true
removes_links _ = false

-- the ask starts the computes that are stopped (SOL 003 5.4.10, Operate VNF task)
abbrev pub starts : Ask → Bool
starts (Heal cause named) = true
starts (Operate started stop) = started
starts _ = false

-- the ask stops the computes that run (SOL 003 5.4.10, Operate VNF task; 5.4.8, Terminate VNF task)
abbrev pub stops : Ask → Bool
stops (Operate started stop) = not started
stops (Terminate Graceful timeout) = true
stops _ = false

-- when it is a change's turn: links, storages, computes and ports are made, then computes started and stopped, then
-- ports, computes, storages and links removed (own rule)
abbrev pub phase : Verb → DefKind → ℕ
phase Create kind = kind_number kind
phase Remove kind = 8 - kind_number kind
phase Start kind = 4
phase Stop kind = 4

-- the change with this verb at a definition (own rule)
abbrev pub change : Verb → Def → Change
change verb x = record { phase = phase verb x.kind; verb = verb; def = x }

-- the definitions of one kind of these machines, by VDU, serial and item (own rule)
abbrev pub defs_of : Case → DefKind → (ℕ → List ℕ) → List Def
defs_of p kind serials = flat_map (λ v. flat_map (defs p.vnfd kind v) (serials v)) (vdu_numbers p.vnfd)

-- the links that are made (own rule)
abbrev pub links_made : Case → List Def
links_made p = if makes_links p.ask then filter (λ x. not (p.held.stands x)) (links p.vnfd) else []

-- the links that are taken away (own rule)
abbrev pub links_removed : Case → List Def
links_removed p = if removes_links p.ask then filter p.held.stands (links p.vnfd) else []

-- the computes that are started: those that stay and stand stopped (own rule)
abbrev pub started : Case → List Def
started p = if starts p.ask then filter (λ x. p.held.stands x && not (p.held.runs x)) (defs_of p Compute (stay p))
    else []

-- the computes that are stopped: those that run (own rule)
abbrev pub stopped : Case → List Def
stopped p = if stops p.ask then filter p.held.runs (defs_of p Compute (there p.vnfd p.held)) else []

-- the changes that make the definitions of one kind of the new machines (own rule)
abbrev pub made : Case → DefKind → List Change
made p kind = map (change Create) (defs_of p kind (new p))

-- the changes that take away what stands of one kind of the machines that leave (own rule)
abbrev pub removed : Case → DefKind → List Change
removed p kind = map (change Remove) (filter p.held.stands (defs_of p kind (leaving p)))

-- the plan: its changes, phase by phase, and in a phase by VDU, serial and item (own rule)
abbrev pub plan : Case → List Change
plan p =
    map (change Create) (links_made p) ++ made p Storage ++ made p Compute ++ made p Port
    ++ map (change Start) (started p) ++ map (change Stop) (stopped p)
    ++ removed p Port ++ removed p Compute ++ removed p Storage ++ map (change Remove) (links_removed p)
