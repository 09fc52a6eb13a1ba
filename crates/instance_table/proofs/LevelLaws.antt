-- The levels of an instance, event by event, and those that an operation aims at.
use Rattle.std.proofs.Common.{◌≡◌, ◌==◌, ◌∙◌, ℕ, List, [], ◌∷◌, Bool, true, false, cond, not, Option, None, Some, is_some, refl, ap, sym}
use Rattle.std.proofs.Common.{subst, inl, inr, length, map, replicate, eqb-true, eq-eqb}
use Rattle.std.proofs.lemmas.List.{length-map}
use Rattle.std.specs.List.{cons_option}
use Rattle.std.specs.Option.{option_map_or}
use Rattle.std.specs.Prelude.{IfSome, unwrap_or}
use Rattle.lcm_events.specs.declared.asks.Aim.{Aim}
use Rattle.lcm_events.specs.declared.asks.Aim.TheVariants as aims
use Rattle.lcm_events.specs.declared.asks.Ask.{Ask}
use Rattle.lcm_events.specs.declared.asks.Ask.TheVariants.{Heal, Instantiate, Operate, Scale, ScaleToLevel, Terminate}
use Rattle.lcm_events.specs.declared.asks.AspectLevel.{AspectLevel}
use Rattle.lcm_events.specs.declared.descriptor.Aspect.{Aspect}
use Rattle.lcm_events.specs.declared.descriptor.Vnfd.{Vnfd}
use Rattle.lcm_events.specs.declared.events.Event.{Event}
use Rattle.lcm_events.specs.declared.events.EventKind.{EventKind}
use Rattle.lcm_events.specs.declared.events.EventKind.TheVariants.{Asked, Created, Moved, Onboarded}
use Rattle.lcm_events.specs.declared.events.Operation.{Operation}
use Rattle.lcm_events.specs.declared.states.OpState.{OpState}
use Rattle.lcm_events.specs.declared.states.OpState.TheVariants.{Completed, Failed, RolledBack}
use Rattle.lcm_model.specs.Allowed.{IsAllowedWithin, IsLegalWithin, IsPlanOf}
use Rattle.lcm_model.specs.Descriptors.{IsValid, are_levels_of}
use Rattle.lcm_model.specs.Instances.{levels, levels_from, moving, sets_levels}
use Rattle.lcm_model.specs.Levels.{aimed, asked_level, at_aspect, default_level, level_of, moved_by, replaced, target, to_level}
use Rattle.lcm_model.specs.Lives.{descriptor}
use Rattle.lcm_model.specs.Moves.{is_final, state}
use Rattle.lcm_model.specs.Operations.{goes_on, operation, operations}
use Rattle.lcm_model.specs.Words.{IsIn, told, when}
use Rattle.lcm_model.proofs.LevelLaws.{at_length, default_levels, levels_length, named_levels}
use Rattle.lcm_laws.proofs.HoldLaws.{moved_from, some_value}
use Rattle.lcm_laws.proofs.Histories.{event, legal_induction}
use Rattle.lcm_laws.proofs.Lists.{by_test, not-true}
use Rattle.lcm_laws.proofs.NumberLaws.{operations_counted}
use Rattle.lcm_laws.proofs.OngoingLaws.{state-moved}
use Rattle.lcm_laws.proofs.SettledLaws.{find-own, one_going}
use Rattle.lcm_laws.proofs.StandLaws.{descriptor-next}
use Rattle.instance_table.specs.Rows.{aim}

-- what a move of a found operation is asked about
pub moving_at : {A : Type 0} → (ask : Ask → OpState → Option A) (i : ℕ) (H : List Event) (o : ℕ) (to : OpState) (a : Operation)
    → operation H o ≡ Some a
    → moving ask i H (Moved o to) ≡ cond (a.instance == i) (ask a.ask to) None
unfolding moving
moving_at ask i H o to a e = rw e refl

-- an ask that sets levels is handed on as it is
set_ask : (ask : Ask) (to : OpState) → sets_levels ask to ≡ when (is_some (sets_levels ask to)) ask
set_ask (Instantiate flavour level) Completed = refl
set_ask (Instantiate flavour level) Failed = refl
set_ask (Scale way aspect steps) Completed = refl
set_ask (ScaleToLevel aim) Completed = refl
set_ask (Instantiate flavour level) _ = refl
set_ask (Scale way aspect steps) _ = refl
set_ask (ScaleToLevel aim) _ = refl
set_ask (Heal cause named) _ = refl
set_ask (Operate started stop) _ = refl
set_ask (Terminate mode timeout) _ = refl

-- only an end sets levels
only_ends : (ask : Ask) (to : OpState) → is_final to ≡ false → is_some (sets_levels ask to) ≡ false
only_ends ask Completed e = cc
only_ends ask Failed e = cc
only_ends ask RolledBack e = cc
only_ends (Instantiate flavour level) _ e = refl
only_ends (Scale way aspect steps) _ e = refl
only_ends (ScaleToLevel aim) _ e = refl
only_ends (Heal cause named) _ e = refl
only_ends (Operate started stop) _ e = refl
only_ends (Terminate mode timeout) _ e = refl

from_when : (d : Vnfd) (asks : List Ask) (ask : Ask) (b : Bool)
    → levels_from d (cons_option (when b ask) asks) ≡ cond b (target d (levels_from d asks) ask) (levels_from d asks)
from_when d asks ask true = refl
from_when d asks ask false = refl

from_move : (d : Vnfd) (asks : List Ask) (ask : Ask) (to : OpState) (b : Bool)
    → levels_from d (cons_option (cond b (sets_levels ask to) None) asks)
    ≡ cond b (cond (is_some (sets_levels ask to)) (target d (levels_from d asks) ask) (levels_from d asks)) (levels_from d asks)
from_move d asks ask to true = ap (λ (y : Option Ask). levels_from d (cons_option y asks)) (set_ask ask to)
    ∙ from_when d asks ask (is_some (sets_levels ask to))
from_move d asks ask to false = refl

-- what a move makes of the levels of an instance
pub levels-moved : (d : Vnfd) (H : List Event) (time i o : ℕ) (to : OpState) (a : Operation) → operation H o ≡ Some a
    → levels d (event time (Moved o to) ∷ H) i ≡ cond (a.instance == i)
    (cond (is_some (sets_levels a.ask to)) (target d (levels d H i) a.ask) (levels d H i)) (levels d H i)
levels-moved d H time i o to a e =
    ap (λ (y : Option Ask). levels_from d (cons_option y (told (moving sets_levels i) H))) (moving_at sets_levels i H o to a e)
    ∙ from_move d (told (moving sets_levels i) H) a.ask to (a.instance == i)

-- what goes on after a move
pub goes_after : (H : List Event) (time o : ℕ) (to : OpState) (x : Operation) (b : Bool) → (o == x.occ) ≡ b
    → goes_on (event time (Moved o to) ∷ H) x ≡ cond b (not (is_final to)) (goes_on H x)
unfolding goes_on
goes_after H time o to x true e = ap (λ (s : OpState). not (is_final s)) (state-moved H time x.occ o to true e)
goes_after H time o to x false e = ap (λ (s : OpState). not (is_final s)) (state-moved H time x.occ o to false e)

went_on : (H : List Event) (a : Operation) → goes_on H a ≡ true → is_final (state H a.occ) ≡ false
unfolding goes_on
went_on H a e = not-true (is_final (state H a.occ)) e

-- a move sets the levels of no instance whose operation goes on
kept_moved : (width m : ℕ) (H : List Event) (time o : ℕ) (to : OpState) (a : Operation) → IsLegalWithin width m H
    → IsAllowedWithin width m H (Moved o to) → IsIn a (operations H)
    → goes_on (event time (Moved o to) ∷ H) a ≡ true → (d : Vnfd) → levels d (event time (Moved o to) ∷ H) a.instance
    ≡ levels d H a.instance
kept_moved width m H time o to a legal allowed among goes d =
    let mover = some_value (operation H o) allowed.0 in
    levels-moved d H time a.instance o to mover.0 mover.1
    ∙ by_test (mover.0.instance == a.instance)
    (λ ours. by_test (o == a.occ)
    (λ same.
    let on : is_final to ≡ false = not-true (is_final to) (sym (goes_after H time o to a true same) ∙ goes) in
    let unset : is_some (sets_levels mover.0.ask to) ≡ false = only_ends mover.0.ask to on in
    rw (ours, unset) refl)
    (λ other.
    let before : is_final (state H a.occ) ≡ false = went_on H a (sym (goes_after H time o to a false other) ∙ goes) in
    let found : operation H a.occ ≡ Some a = find-own (λ x. x.occ) (operations H) a (operations_counted width m H legal) among in
    let one : o ≡ a.occ = one_going width m H a.instance a.occ o a mover.0 legal found refl before mover.1
    (eqb-true mover.0.instance a.instance ours) (moved_from H o to allowed.1) in
    let clash : (o == a.occ) ≡ true = eq-eqb o a.occ one in cc))
    (λ away. rw away refl)

-- an instance keeps its levels while an operation of it goes on
pub levels-kept : (width m : ℕ) (H : List Event) (time : ℕ) (k : EventKind) (a : Operation) → IsLegalWithin width m H
    → IsAllowedWithin width m H k → IsIn a (operations H)
    → goes_on (event time k ∷ H) a ≡ true → (d : Vnfd) → levels d (event time k ∷ H) a.instance ≡ levels d H a.instance
unfolding moving
levels-kept width m H time (Moved o to) a legal allowed among goes d = kept_moved width m H time o to a legal allowed among goes d
levels-kept width m H time k a legal allowed among goes d = refl

-- the descriptor of an operation's instance is known
pub planned_descriptor : (H : List Event) (a : Operation) (o : Option Vnfd) → descriptor H a.instance ≡ o → IsPlanOf H a o
    → (d : Vnfd) × (descriptor H a.instance ≡ Some d)
planned_descriptor H a None is h = absurd h
planned_descriptor H a (Some d) is h = (d, is)

abbrev OwnDescriptors : List Event → Type 0
OwnDescriptors H = (a : Operation) → IsIn a (operations H) → (d : Vnfd) × (descriptor H a.instance ≡ Some d)

later_descriptor : (width m : ℕ) (H : List Event) (time : ℕ) (k : EventKind) (i : ℕ) → IsLegalWithin width m H → IsAllowedWithin width m H k
    → (d : Vnfd) × (descriptor H i ≡ Some d)
    → (d : Vnfd) × (descriptor (event time k ∷ H) i ≡ Some d)
later_descriptor width m H time k i legal allowed h = (h.0, descriptor-next width m H time k i h.0 legal allowed h.1)

own_step : (width m : ℕ) (H : List Event) (time : ℕ) (k : EventKind) → IsLegalWithin width m H → IsAllowedWithin width m H k
    → OwnDescriptors H → OwnDescriptors (event time k ∷ H)
own_step width m H time (Asked b) legal allowed h a (inl e) =
    subst (λ (z : Operation). (d : Vnfd) × (descriptor (event time (Asked b) ∷ H) z.instance ≡ Some d)) e
    (later_descriptor width m H time (Asked b) b.instance legal allowed
    (planned_descriptor H b (descriptor H b.instance) refl allowed.planned))
own_step width m H time (Asked b) legal allowed h a (inr g) = later_descriptor width m H time (Asked b) a.instance legal allowed (h a g)
own_step width m H time (Onboarded x) legal allowed h a g = later_descriptor width m H time (Onboarded x) a.instance legal allowed (h a g)
own_step width m H time (Created j vnfd name text) legal allowed h a g =
    later_descriptor width m H time (Created j vnfd name text) a.instance legal allowed (h a g)
own_step width m H time _ legal allowed h a g = h a g

pub own_descriptors : (width m : ℕ) (H : List Event) → IsLegalWithin width m H → OwnDescriptors H
own_descriptors width m H legal = legal_induction width m OwnDescriptors (λ a h. absurd h)
    (λ H time k legal allowed h. own_step width m H time k legal allowed h) H legal

-- an operation aims at the same levels while it goes on
pub aim-kept : (width m : ℕ) (H : List Event) (time : ℕ) (k : EventKind) (a : Operation) → IsLegalWithin width m H
    → IsAllowedWithin width m H k → IsIn a (operations H)
    → goes_on (event time k ∷ H) a ≡ true → aim (event time k ∷ H) a ≡ aim H a
aim-kept width m H time k a legal allowed among goes =
    let own = own_descriptors width m H legal a among in
    let later : descriptor (event time k ∷ H) a.instance ≡ Some own.0 =
    descriptor-next width m H time k a.instance own.0 legal allowed own.1 in
    ap (λ (y : Option Vnfd). option_map_or (λ d. target d (levels d (event time k ∷ H) a.instance) a.ask) y []) later
    ∙ (ap (λ (ns : List ℕ). target own.0 ns a.ask) (levels-kept width m H time k a legal allowed among goes own.0)
    ∙ sym (ap (λ (y : Option Vnfd). option_map_or (λ d. target d (levels d H a.instance) a.ask) y []) own.1))

-- the levels of an instance are one an aspect
unwrap_long : (d : Vnfd) (o : Option (List ℕ)) (ns : List ℕ) → IfSome o (λ ns. are_levels_of d ns ≡ true) → length ns ≡ length d.aspects
    → length (unwrap_or o ns) ≡ length d.aspects
unwrap_long d None ns h g = g
unwrap_long d (Some ms) ns h g = levels_length d ms h

default_long : (d : Vnfd) → IsValid d → length (default_level d) ≡ length d.aspects
default_long d valid = levels_length d (default_level d) (default_levels d valid)

asked_long : (d : Vnfd) (level : Option (List ℕ)) → IsValid d → length (asked_level d level) ≡ length d.aspects
asked_long d None valid = default_long d valid
asked_long d (Some name) valid = unwrap_long d (level_of d name) (default_level d) (named_levels d name valid) (default_long d valid)

pub replaced_long : (d : Vnfd) (named : List AspectLevel) (ns : List ℕ) → length ns ≡ length d.aspects
    → length (replaced d ns named) ≡ length d.aspects
replaced_long d [] ns h = h
replaced_long d (x ∷ named) ns h = replaced_long d named (at_aspect d.aspects x.aspect (to_level x.level) ns)
    (at_length d.aspects x.aspect (to_level x.level) ns h)

aimed_long : (d : Vnfd) (aim : Aim) (ns : List ℕ) → IsValid d → length ns ≡ length d.aspects → length (aimed d ns aim) ≡ length d.aspects
aimed_long d (aims.Level name) ns valid h = unwrap_long d (level_of d name) ns (named_levels d name valid) h
aimed_long d (aims.Aspects named) ns valid h = replaced_long d named ns h

target_long : (d : Vnfd) (ask : Ask) (ns : List ℕ) → IsValid d → length ns ≡ length d.aspects → length (target d ns ask) ≡ length d.aspects
target_long d (Instantiate flavour level) ns valid h = asked_long d level valid
target_long d (Scale way aspect steps) ns valid h = at_length d.aspects aspect (moved_by way steps) ns h
target_long d (ScaleToLevel aim) ns valid h = aimed_long d aim ns valid h
target_long d _ ns valid h = h

from_long : (d : Vnfd) (asks : List Ask) → IsValid d → length (levels_from d asks) ≡ length d.aspects
from_long d [] valid = length-map d.aspects (λ a. 0)
from_long d (ask ∷ asks) valid = target_long d ask (levels_from d asks) valid (from_long d asks valid)

pub levels_long : (d : Vnfd) (H : List Event) (i : ℕ) → IsValid d → length (levels d H i) ≡ length d.aspects
levels_long d H i valid = from_long d (told (moving sets_levels i) H) valid

-- level 0 of every aspect
pub none_levels : (aspects : List Aspect) → map {B = ℕ} (λ a. 0) aspects ≡ replicate (length aspects) 0
none_levels [] = refl
none_levels (a ∷ aspects) = ap (λ (ns : List ℕ). 0 ∷ ns) (none_levels aspects)
