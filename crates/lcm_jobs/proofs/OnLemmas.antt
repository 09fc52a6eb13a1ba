-- The open attempts at a definition of an instance: there is at most one.
use Rattle.lcm_model.specs.Attempts.{is_open, net, open_attempts, open_tags}
use Rattle.lcm_model.specs.Words.{IsIn}
use Rattle.lcm_model.specs.Work.{all_through, net_after, net_before, works_in}
use Rattle.lcm_model.specs.Moves.{is_final, state}
use Rattle.lcm_events.specs.declared.states.OpState.{OpState}
use Rattle.lcm_laws.proofs.EndLaws.{open_state}
use Rattle.lcm_laws.proofs.Members.{of_filter}
use Rattle.lcm_laws.proofs.NetLaws.{is_of-own, open_fits, open_own}
use Rattle.lcm_laws.proofs.OrderLaws.{ordered, through_net, turn_at}
use Rattle.lcm_laws.proofs.SettledLaws.{one_going, works_on}
use Rattle.lcm_laws.proofs.WorldLaws.{follows_at}
use Rattle.lcm_jobs.proofs.Parts.{in_any}
use Rattle.std.proofs.Common.{inl, subst, sym, ap}
use Rattle.lcm_events.specs.declared.events.EventKind.TheVariants.{Intent}
use Rattle.std.proofs.Common.{is_some, filter, ◌<◌, lt-ltb}
use Rattle.std.proofs.Common.{◌≡◌, ◌<◌, ◌≤◌, ◌==◌, ◌∙◌, ℕ, List, [], ◌∷◌, Bool, true, false, Option, None, Some, refl, ap, sym, subst}
use Rattle.std.proofs.Common.{arith, slice_get, eqb-true, ltb, ltb-true, ltb-false, if◌then◌else◌}
use Rattle.std.specs.List.{list_any}
use Rattle.std.specs.Prelude.{option_and_then}
use Rattle.lcm_events.specs.Same.{kind_number, same_def, same_tag}
use Rattle.lcm_events.proofs.SameLaws.{same_def-true, same_tag-true}
use Rattle.lcm_events.specs.declared.attempts.Tag.{Tag}
use Rattle.lcm_events.specs.declared.attempts.Way.{Way}
use Rattle.lcm_events.specs.declared.attempts.Way.TheVariants.{Forward, Undo}
use Rattle.lcm_events.specs.declared.changes.Change.{Change}
use Rattle.lcm_events.specs.declared.changes.Def.{Def}
use Rattle.lcm_events.specs.declared.changes.DefKind.{DefKind}
use Rattle.lcm_events.specs.declared.changes.DefKind.TheVariants.{Compute, Link, Port, Storage}
use Rattle.lcm_events.specs.declared.changes.Verb.{Verb}
use Rattle.lcm_events.specs.declared.changes.Verb.TheVariants.{Create, Remove, Start, Stop}
use Rattle.lcm_events.specs.declared.events.Event.{Event}
use Rattle.lcm_events.specs.declared.events.EventKind.{EventKind}
use Rattle.lcm_events.specs.declared.events.Operation.{Operation}
use Rattle.lcm_model.specs.Allowed.{IsAllowedWithin, IsLegalWithin}
use Rattle.lcm_model.specs.Attempts.{attempts, intents, is_of}
use Rattle.lcm_model.specs.Operations.{operation, verb_done}
use Rattle.lcm_model.specs.Planned.{IsPlannedBy}
use Rattle.lcm_model.specs.Plans.{Case, phase}
use Rattle.lcm_model.specs.Words.{when}
use Rattle.lcm_model.specs.Work.{all_through, net_after, net_before, works_in}
use Rattle.lcm_laws.proofs.AboutLaws.{unasked_untouched}
use Rattle.lcm_laws.proofs.FreshLaws.{Known}
use Rattle.lcm_laws.proofs.Histories.{event}
use Rattle.lcm_laws.proofs.Lists.{any_filter, by_test}
use Rattle.lcm_laws.proofs.NeedLaws.{IsPlannedOver, by_verb, one_number}
use Rattle.lcm_laws.proofs.NetLaws.{is_of-own}
use Rattle.lcm_laws.proofs.NumberLaws.{operation-next}
use Rattle.lcm_jobs.specs.Idle.{verb_for, verb_in, verb_on}

-- an attempt that was begun is of an operation
pub known_operation : (width m : ℕ) (H : List Event) (t : Tag) → IsLegalWithin width m H → Known H t
    → (a : Operation) × (operation H t.occ ≡ Some a)
known_operation width m H t legal known = found (operation H t.occ) refl where
  found : (o : Option Operation) → operation H t.occ ≡ o → (a : Operation) × (operation H t.occ ≡ Some a)
  found (Some a) is = (a, is)
  found None is =
      let none : attempts H t.occ t.change ≡ [] = (unasked_untouched width m H legal t.occ is).attempts t.change in
      let there : list_any (same_tag t) (attempts H t.occ t.change) ≡ true =
      any_filter (same_tag t) (is_of t.occ t.change) (intents H)
      (λ y same. let own : t ≡ y = same_tag-true t y same in subst (λ (z : Tag). is_of t.occ t.change z ≡ true) own (is_of-own t)) known in
      let nowhere : list_any (same_tag t) [] ≡ true = subst (λ (ts : List Tag). list_any (same_tag t) ts ≡ true) none there in
      cc

-- what it does stays the same, whatever comes
pub verb_next : (width m : ℕ) (H : List Event) (time : ℕ) (k : EventKind) (i : ℕ) (x : Def) (t : Tag) (a : Operation)
    → IsLegalWithin width m H → IsAllowedWithin width m H k
    → operation H t.occ ≡ Some a → verb_on (event time k ∷ H) i x t ≡ verb_on H i x t
unfolding verb_on
verb_next width m H time k i x t a legal allowed found =
    ap (option_and_then (verb_in i x t)) (operation-next width m H time k t.occ a legal allowed found ∙ sym found)

-- where an attempt is at a definition of an instance
pub record IsAt (H : List Event) (i : ℕ) (x : Def) (t : Tag) (v : Verb) : Type 0 where
  pub operation_of : Operation
  pub change_at : Change
  pub found : operation H t.occ ≡ Some operation_of
  pub instance : operation_of.instance ≡ i
  pub is : slice_get operation_of.changes t.change ≡ Some change_at
  pub def : change_at.def ≡ x
  pub verb : v ≡ verb_done t.way change_at.verb

when_some : {A : Type 0} → (b : Bool) (x y : A) → when b x ≡ Some y → (b ≡ true) × (x ≡ y)
when_some true x y e = (refl, cc)
when_some false x y e = cc

pub verb_at : (H : List Event) (i : ℕ) (x : Def) (t : Tag) (v : Verb) → verb_on H i x t ≡ Some v → IsAt H i x t v
unfolding verb_on
verb_at H i x t v e = by_operation (operation H t.occ) refl e where
  by_change : (a : Operation) (k : Option Change) → operation H t.occ ≡ Some a → a.instance ≡ i → slice_get a.changes t.change ≡ k
      → option_and_then (verb_for t x) k ≡ Some v → IsAt H i x t v
  by_change a None found own is e = cc
  by_change a (Some k) found own is e =
      let both = when_some (same_def k.def x) (verb_done t.way k.verb) v e in
      record {
        operation_of = a;
        change_at = k;
        found = found;
        instance = own;
        is = is;
        def = same_def-true k.def x both.0;
        verb =
            sym both.1;
      }

  by_operation : (o : Option Operation) → operation H t.occ ≡ o → option_and_then (verb_in i x t) o ≡ Some v → IsAt H i x t v
  by_operation None found e = cc
  by_operation (Some a) found e = by_test (a.instance == i)
      (λ same. by_change a (slice_get a.changes t.change) found (eqb-true a.instance i same) refl
      (subst (λ (b : Bool). option_and_then (verb_for t x) (if b then slice_get a.changes t.change else None) ≡ Some v) same e))
      (λ other.
      let none : option_and_then (verb_for t x) None ≡ Some v = subst
      (λ (b : Bool). option_and_then (verb_for t x) (if b then slice_get a.changes t.change else None) ≡ Some v) other e in
      cc)

-- one phase has one verb at a definition of a plan
kind_low : (k : DefKind) → kind_number k ≤ 3
kind_low Link = omega arith
kind_low Storage = omega arith
kind_low Compute = omega arith
kind_low Port = omega arith

one_verb : (p : Case) (v w : Verb) (x : Def) → IsPlannedBy p v x → IsPlannedBy p w x → phase v x.kind ≡ phase w x.kind → v ≡ w
one_verb p Create Create x h g e = refl
one_verb p Remove Remove x h g e = refl
one_verb p Start Start x h g e = refl
one_verb p Stop Stop x h g e = refl
one_verb p Create Remove x h g e = let low = kind_low x.kind in absurd (omega (arith, e, low))
one_verb p Create Start x h g e = let low = kind_low x.kind in absurd (omega (arith, e, low))
one_verb p Create Stop x h g e = let low = kind_low x.kind in absurd (omega (arith, e, low))
one_verb p Remove Create x h g e = let low = kind_low x.kind in absurd (omega (arith, e, low))
one_verb p Remove Start x h g e = let low = kind_low x.kind in absurd (omega (arith, e, low))
one_verb p Remove Stop x h g e = let low = kind_low x.kind in absurd (omega (arith, e, low))
one_verb p Start Create x h g e = let low = kind_low x.kind in absurd (omega (arith, e, low))
one_verb p Start Remove x h g e = let low = kind_low x.kind in absurd (omega (arith, e, low))
one_verb p Start Stop x h g e = let clash : false ≡ true = sym h.4 ∙ g.3 in cc
one_verb p Stop Create x h g e = let low = kind_low x.kind in absurd (omega (arith, e, low))
one_verb p Stop Remove x h g e = let low = kind_low x.kind in absurd (omega (arith, e, low))
one_verb p Stop Start x h g e = let clash : true ≡ false = sym h.3 ∙ g.4 in cc

-- two changes of a plan at one definition in one phase are one
same_number : (p : Case) (a : Operation) (b c : ℕ) (j k : Change) → IsPlannedOver p a → slice_get a.changes b ≡ Some j
    → slice_get a.changes c ≡ Some k
    → j.def ≡ k.def → j.phase ≡ k.phase → b ≡ c
same_number p a b c j k over eb ec def one =
    let jp = by_verb p a b j j.verb over eb refl in
    let kp = by_verb p a c k k.verb over ec refl in
    let at : IsPlannedBy p k.verb j.def = subst (λ (x : Def). IsPlannedBy p k.verb x) (sym def) kp.1 in
    let phases : phase j.verb j.def.kind ≡ phase k.verb j.def.kind =
    sym jp.0 ∙ (one ∙ (kp.0 ∙ ap (λ (x : Def). phase k.verb x.kind) (sym def))) in
    one_number p a b c j k over eb ec def (one_verb p j.verb k.verb j.def jp.1 at phases)

not_both : (n : ℕ) (w : Way) → n ≡ net_before w → n ≡ net_after w → ⊥
not_both n Forward e f = absurd (omega (arith, e, f))
not_both n Undo e f = absurd (omega (arith, e, f))

works_one : (v w : Way) → works_in v ≡ works_in w → v ≡ w
works_one Forward Forward e = refl
works_one Undo Undo e = refl
works_one Forward Undo e = cc
works_one Undo Forward e = cc

by_order : {P : Type 0} → (a b : ℕ) → (a < b → P) → (a ≡ b → P) → (b < a → P) → P
by_order a b f g h = by_test (ltb a b)
    (λ less. f (ltb-true a b less))
    (λ not. by_test (ltb b a) (λ more. h (ltb-true b a more)) (λ none. g (same a b not none))) where
      same : (a b : ℕ) → ltb a b ≡ false → ltb b a ≡ false → a ≡ b
      same a b not none = let low = ltb-false a b not in let high = ltb-false b a none in omega (arith, low, high)

-- Two attempts at one definition of an instance aren't open at once: their changes are of one operation; where their phases differ, the one
-- waits for the other, and where they don't, it is one change.
clash_forward : (width m : ℕ) (H : List Event) (t u : Tag) (a : Operation) (j k : Change) (w : Way) → IsLegalWithin width m H
    → IsAllowedWithin width m H (Intent t) → is_open H u ≡ true
    → operation H t.occ ≡ Some a → u.occ ≡ t.occ → t.way ≡ w → u.way ≡ w → slice_get a.changes t.change ≡ Some j
    → slice_get a.changes u.change ≡ Some k → j.phase < k.phase → ⊥
clash_forward width m H t u a j k Forward legal allowed opened found at wt wu ej ek less =
    let before = (turn_at width m H t a j allowed found ej).0 in
    let made : net H t.occ t.change ≡ 1 = (ordered width m H legal t.occ a found).making u t.change j k opened at wu ej ek less in
    not_both (net H t.occ t.change) Forward (before ∙ ap net_before wt) made
clash_forward width m H t u a j k Undo legal allowed opened found at wt wu ej ek less =
    let through = (turn_at width m H t a j allowed found ej).1 in
    let all = subst (λ (v : Way). all_through H t.occ v j.phase ≡ true) wt through in
    let none : net H t.occ u.change ≡ 0 = through_net H t.occ Undo a j.phase u.change k found all ek (lt-ltb j.phase k.phase less) in
    let one : net H t.occ u.change ≡ 1 = subst (λ (n : ℕ). net H n u.change ≡ 1) at
    (open_fits width m H legal u opened ∙ ap net_before wu) in
    not_both (net H t.occ u.change) Undo one none

clash_backward : (width m : ℕ) (H : List Event) (t u : Tag) (a : Operation) (j k : Change) (w : Way) → IsLegalWithin width m H
    → IsAllowedWithin width m H (Intent t) → is_open H u ≡ true
    → operation H t.occ ≡ Some a → u.occ ≡ t.occ → t.way ≡ w → u.way ≡ w → slice_get a.changes t.change ≡ Some j
    → slice_get a.changes u.change ≡ Some k → k.phase < j.phase → ⊥
clash_backward width m H t u a j k Forward legal allowed opened found at wt wu ej ek less =
    let through = (turn_at width m H t a j allowed found ej).1 in
    let all = subst (λ (v : Way). all_through H t.occ v j.phase ≡ true) wt through in
    let one : net H t.occ u.change ≡ 1 = through_net H t.occ Forward a j.phase u.change k found all ek (lt-ltb k.phase j.phase less) in
    let none : net H t.occ u.change ≡ 0 = subst (λ (n : ℕ). net H n u.change ≡ 0) at
    (open_fits width m H legal u opened ∙ ap net_before wu) in
    not_both (net H t.occ u.change) Forward none one
clash_backward width m H t u a j k Undo legal allowed opened found at wt wu ej ek less =
    let before = (turn_at width m H t a j allowed found ej).0 in
    let undone : net H t.occ t.change ≡ 0 = (ordered width m H legal t.occ a found).undoing u t.change k j opened at wu ek ej less in
    not_both (net H t.occ t.change) Undo (before ∙ ap net_before wt) undone

alone : (width m : ℕ) (H : List Event) (i : ℕ) (x : Def) (t u : Tag) (v w : Verb) → IsLegalWithin width m H
    → IsAllowedWithin width m H (Intent t) → verb_on H i x t ≡ Some v
    → is_open H u ≡ true → verb_on H i x u ≡ Some w → ⊥
alone width m H i x t u v w legal allowed et opened eu =
    let here = verb_at H i x t v et in
    let there = verb_at H i x u w eu in
    let goes_t : is_final (state H t.occ) ≡ false = subst (λ (s : OpState). is_final s ≡ false) (sym allowed.works) (works_on t.way) in
    let goes_u : is_final (state H u.occ) ≡ false = subst (λ (s : OpState). is_final s ≡ false) (sym (open_state width m H legal u opened))
    (works_on u.way) in
    let at : u.occ ≡ t.occ = one_going width m H i t.occ u.occ here.operation_of there.operation_of legal here.found here.instance goes_t
    there.found there.instance goes_u in
    let a = here.operation_of in
    let same : there.operation_of ≡ a = some_one (sym there.found ∙ (ap (λ (n : ℕ). operation H n) at ∙ here.found)) in
    let ek : slice_get a.changes u.change ≡ Some there.change_at =
    subst (λ (b : Operation). slice_get b.changes u.change ≡ Some there.change_at) same there.is in
    let ways : u.way ≡ t.way = works_one u.way t.way (sym (open_state width m H legal u opened)
    ∙ (ap (λ (n : ℕ). state H n) at ∙ allowed.works)) in
    let f = follows_at width m H t legal allowed a here.found in
    by_order here.change_at.phase there.change_at.phase
    (λ less. clash_forward width m H t u a here.change_at there.change_at t.way legal allowed opened here.found at refl ways here.is ek
    less)
    (λ one.
    let number : t.change ≡ u.change = same_number f.p a t.change u.change here.change_at there.change_at f.over here.is ek
    (here.def ∙ sym there.def) one in
    let own : list_any (same_tag u) (open_attempts H t.occ u.change) ≡ true =
    subst (λ (n : ℕ). list_any (same_tag u) (open_attempts H n u.change) ≡ true) at (open_own H u opened) in
    let none : open_attempts H t.occ u.change ≡ [] = subst (λ (n : ℕ). open_attempts H t.occ n ≡ []) number allowed.none_open in
    let nowhere : list_any (same_tag u) [] ≡ true = subst (λ (ts : List Tag). list_any (same_tag u) ts ≡ true) none own in
    cc)
    (λ more. clash_backward width m H t u a here.change_at there.change_at t.way legal allowed opened here.found at refl ways here.is ek
    more) where
      some_one : {A : Type 0} {y z : A} → Some y ≡ Some z → y ≡ z
      some_one e = cc

-- the attempt is at a definition of an instance
unfoldable pub is_on : List Event → ℕ → Def → Tag → Bool
is_on H i x t = is_some (verb_on H i x t)

-- the open attempts at it
abbrev pub open_on : List Event → ℕ → Def → List Tag
open_on H i x = filter (is_on H i x) (open_tags H)

pub on_some : (H : List Event) (i : ℕ) (x : Def) (t : Tag) (v : Verb) → verb_on H i x t ≡ Some v → is_on H i x t ≡ true
unfolding is_on
on_some H i x t v e = ap is_some e

pub on_verb : (H : List Event) (i : ℕ) (x : Def) (t : Tag) → is_on H i x t ≡ true → (v : Verb) × (verb_on H i x t ≡ Some v)
unfolding is_on
on_verb H i x t e = by_verb_on (verb_on H i x t) refl e where
  by_verb_on : (o : Option Verb) → verb_on H i x t ≡ o → is_some o ≡ true → (v : Verb) × (verb_on H i x t ≡ Some v)
  by_verb_on None is h = cc
  by_verb_on (Some v) is h = (v, is)

-- where an attempt at it begins, none was open
pub none_on : (width m : ℕ) (H : List Event) (i : ℕ) (x : Def) (t : Tag) → IsLegalWithin width m H → IsAllowedWithin width m H (Intent t)
    → is_on H i x t ≡ true → open_on H i x ≡ []
none_on width m H i x t legal allowed here = by_open (open_on H i x) refl where
  by_open : (ts : List Tag) → open_on H i x ≡ ts → ts ≡ []
  by_open [] is = refl
  by_open (u ∷ ts) is =
      let among : IsIn u (open_on H i x) = subst (λ (v : List Tag). IsIn u v) (sym is) (inl refl) in
      let from = of_filter (is_on H i x) u (open_tags H) among in
      let mine = on_verb H i x t here in
      let its = on_verb H i x u from.1 in
      absurd (alone width m H i x t u mine.0 its.0 legal allowed mine.1 (in_any u (open_tags H) from.0) its.1)
