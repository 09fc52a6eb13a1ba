-- Tests of equality that compute, of the plain values that histories compare (own rule).
-- `==` on each of these types gives the answer of its test, and the test is true exactly of equal values
-- (proofs/SameLaws.antt).
use Rattle.std.specs.Prelude.{ℕ, Bool, ◌==◌, ◌&&◌, List}
use Rattle.std.specs.Cmp.Lexicographic.{pointwise}
use Rattle.lcm_events.specs.declared.attempts.Way.{Way}
use Rattle.lcm_events.specs.declared.attempts.Way.TheVariants.{Forward, Undo}
use Rattle.lcm_events.specs.declared.attempts.Tag.{Tag}
use Rattle.lcm_events.specs.declared.changes.DefKind.{DefKind}
use Rattle.lcm_events.specs.declared.changes.DefKind.TheVariants.{Link, Storage, Compute, Port}
use Rattle.lcm_events.specs.declared.changes.Def.{Def}
use Rattle.lcm_events.specs.declared.changes.Verb.{Verb}
use Rattle.lcm_events.specs.declared.changes.Verb.TheVariants.{Create, Remove, Start, Stop}
use Rattle.lcm_events.specs.declared.changes.Change.{Change}
use Rattle.lcm_events.specs.declared.states.OpState.{OpState}
use Rattle.lcm_events.specs.declared.states.OpState.TheVariants.{Starting, Processing, Completed, FailedTemp, Failed}
use Rattle.lcm_events.specs.declared.states.OpState.TheVariants.{RollingBack, RolledBack}
use Rattle.lcm_events.specs.declared.states.Role.{Role}
use Rattle.lcm_events.specs.declared.states.Role.TheVariants.{Orchestrator, Element}

-- two names have the same bytes (own rule)
abbrev pub same_name : List ℕ → List ℕ → Bool
same_name a b = pointwise ◌==◌ a b

-- the place of a way in its list of values (own rule)
abbrev pub way_number : Way → ℕ
way_number Forward = 0
way_number Undo = 1

-- two ways are the same (own rule)
abbrev pub same_way : Way → Way → Bool
same_way a b = way_number a == way_number b

-- two tags name the same attempt (own rule)
abbrev pub same_tag : Tag → Tag → Bool
same_tag a b = (a.occ == b.occ) && (a.change == b.change) && (a.attempt == b.attempt) && same_way a.way b.way

-- the place of a kind of definition in its list of values (own rule)
abbrev pub kind_number : DefKind → ℕ
kind_number Link = 0
kind_number Storage = 1
kind_number Compute = 2
kind_number Port = 3

-- two kinds of definitions are the same (own rule)
abbrev pub same_kind : DefKind → DefKind → Bool
same_kind a b = kind_number a == kind_number b

-- two definitions name the same resource of an instance (own rule)
abbrev pub same_def : Def → Def → Bool
same_def a b = same_kind a.kind b.kind && (a.item == b.item) && (a.vdu == b.vdu) && (a.serial == b.serial)

-- the place of a verb in its list of values (own rule)
abbrev pub verb_number : Verb → ℕ
verb_number Create = 0
verb_number Remove = 1
verb_number Start = 2
verb_number Stop = 3

-- two verbs are the same (own rule)
abbrev pub same_verb : Verb → Verb → Bool
same_verb a b = verb_number a == verb_number b

-- two changes are the same (own rule)
abbrev pub same_change : Change → Change → Bool
same_change a b = (a.phase == b.phase) && same_verb a.verb b.verb && same_def a.def b.def

-- the place of a state in its list of values (own rule)
abbrev pub state_number : OpState → ℕ
state_number Starting = 0
state_number Processing = 1
state_number Completed = 2
state_number FailedTemp = 3
state_number Failed = 4
state_number RollingBack = 5
state_number RolledBack = 6

-- two states are the same (own rule)
abbrev pub same_state : OpState → OpState → Bool
same_state a b = state_number a == state_number b

-- the place of a role in its list of values (own rule)
abbrev pub role_number : Role → ℕ
role_number Orchestrator = 0
role_number Element = 1

-- two roles are the same (own rule)
abbrev pub same_role : Role → Role → Bool
same_role a b = role_number a == role_number b
