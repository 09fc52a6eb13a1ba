-- An instance that is NOT_INSTANTIATED without an ongoing operation holds nothing.
use Rattle.std.proofs.Common.{◌≡◌, ◌≤◌, ◌<◌, ◌+◌, ◌&&◌, ◌||◌, ◌==◌, ◌∙◌, ℕ, List, [], ◌∷◌, Bool, true, false, cond, not, Option, None, Some}
use Rattle.std.proofs.Common.{is_some, refl, ap, sym, subst, length, filter, arith, zero, suc, inl, inr, ◌⊎◌, ltb, eqb-true, eq-eqb, lt-ltb}
use Rattle.std.proofs.Common.{slice_get}
use Rattle.std.specs.List.{enumerate_from, list_all, list_any}
use Rattle.lcm_events.specs.Same.{same_def, same_tag}
use Rattle.lcm_events.proofs.SameLaws.{same_def-refl, same_def-true}
use Rattle.lcm_events.specs.declared.asks.Ask.{Ask}
use Rattle.lcm_events.specs.declared.asks.Ask.TheVariants.{Heal, Instantiate, Operate, Scale, ScaleToLevel, Terminate}
use Rattle.lcm_events.specs.declared.attempts.Outcome.{Outcome}
use Rattle.lcm_events.specs.declared.attempts.Outcome.TheVariants.{Done}
use Rattle.lcm_events.specs.declared.attempts.Tag.{Tag}
use Rattle.lcm_events.specs.declared.attempts.Way.{Way}
use Rattle.lcm_events.specs.declared.attempts.Way.TheVariants.{Forward, Undo}
use Rattle.lcm_events.specs.declared.changes.Change.{Change}
use Rattle.lcm_events.specs.declared.changes.Def.{Def}
use Rattle.lcm_events.specs.declared.changes.Verb.{Verb}
use Rattle.lcm_events.specs.declared.changes.Verb.TheVariants.{Create, Remove, Stop}
use Rattle.lcm_events.specs.declared.events.Event.{Event}
use Rattle.lcm_events.specs.declared.events.EventKind.{EventKind}
use Rattle.lcm_events.specs.declared.events.EventKind.TheVariants.{Asked, Deleted, Intent, Moved, Settled}
use Rattle.lcm_events.specs.declared.events.Operation.{Operation}
use Rattle.lcm_events.specs.declared.states.OpState.{OpState}
use Rattle.lcm_events.specs.declared.states.OpState.TheVariants.{Completed, Failed, FailedTemp, Processing, RolledBack, RollingBack}
use Rattle.lcm_events.specs.declared.states.OpState.TheVariants.{Starting}
use Rattle.lcm_model.specs.declared.refusals.Refusal.TheVariants as refusals
use Rattle.lcm_model.specs.Words.{IsIn, first, when}
use Rattle.lcm_model.specs.Moves.{is_final, state}
use Rattle.lcm_model.specs.Attempts.{is_of, is_open, is_unsettled, net, open_attempts, open_tags}
use Rattle.lcm_model.specs.Operations.{changes, goes_on, is_ongoing, ongoing, operation, operations, verb_done}
use Rattle.lcm_model.specs.Holding.{effect, effect_in, leaves_it, stands}
use Rattle.lcm_model.specs.Instances.{instantiates, is_instantiated, moving}
use Rattle.lcm_model.specs.Lives.{creation, is_deleted}
use Rattle.lcm_model.specs.Refusals.{is_terminate}
use Rattle.lcm_model.specs.Work.{IsTurnOf, MayMove, all_through, is_termination, is_through, net_after, net_before, works_in}
use Rattle.lcm_model.specs.Allowed.{IsAllowedWithin, IsLegalWithin}
use Rattle.lcm_laws.proofs.Histories.{event, legal_induction}
use Rattle.lcm_laws.proofs.Lists.{and_left, and_right, and_true, by_test, filter_shorter, first-none, none_of-front, none_of-rest, not-true}
use Rattle.lcm_laws.proofs.Lists.{when-none}
use Rattle.lcm_laws.proofs.Members.{get_in, get_within, in_filter, of_filter}
use Rattle.lcm_laws.proofs.AskLaws.{ByAsk, HasChange, IsBuilding, IsTearing, NetsStay, Paired, Waits, asked_holds, by_ask_kept}
use Rattle.lcm_laws.proofs.EndLaws.{asked_for, completed_made, open_state, rolled_back_undone}
use Rattle.lcm_laws.proofs.NetLaws.{another, filter_cond_other, is_of-change, is_of-occ, open_attempts-settled, open_fits, open_own}
use Rattle.lcm_laws.proofs.NumberLaws.{operation-next, operations_counted}
use Rattle.lcm_laws.proofs.OngoingLaws.{edge-goes_on, goes_on-before, state-moved}
use Rattle.lcm_laws.proofs.PathLaws.{may_move-edge}
use Rattle.lcm_laws.proofs.SettledLaws.{find-own, idle_none, net-done, net-other_change, net-other_occ, one_going, open_operation}
use Rattle.lcm_laws.proofs.SettledLaws.{stands-done, stands-nothing, what_is_done}

-- a TERMINATE is never rolled back
abbrev NeverBack : List Event → ℕ → Type 0
NeverBack H o = (a : Operation) → operation H o ≡ Some a → is_terminate a.ask ≡ true → state H o ≡ RollingBack → ⊥

back_from : (H : List Event) (o : ℕ) (from : OpState) → MayMove H o from RollingBack → is_termination (operation H o) ≡ false
back_from H o FailedTemp h = h
back_from H o _ h = absurd h

pub one_value : {A : Type 0} → (o : Option A) (a b : A) → o ≡ Some a → o ≡ Some b → a ≡ b
one_value o a b e f = let both : Some a ≡ Some b = sym e ∙ f in cc

never_back_step : (width m : ℕ) (H : List Event) (time : ℕ) (k : EventKind) (o : ℕ) → IsLegalWithin width m H → IsAllowedWithin width m H k
    → NeverBack H o → NeverBack (event time k ∷ H) o
never_back_step width m H time (Asked b) o legal allowed h a found ends back =
    let before = asked_for width m H legal o RollingBack back (λ e. cc) in
    let later : operation (event time (Asked b) ∷ H) o ≡ Some before.0 =
    operation-next width m H time (Asked b) o before.0 legal allowed before.1 in
    let same : before.0 ≡ a = one_value (operation (event time (Asked b) ∷ H) o) before.0 a later found in
    h a (before.1 ∙ ap Some same) ends back
never_back_step width m H time (Moved occ to) o legal allowed h a found ends back = by_test (occ == o)
    (λ same.
    let is : occ ≡ o = eqb-true occ o same in
    let there : to ≡ RollingBack = sym (state-moved H time o occ to true same) ∙ back in
    let may : MayMove H o (state H o) RollingBack =
    subst (λ (s : OpState). MayMove H o (state H o) s) there (subst (λ (n : ℕ). MayMove H n (state H n) to) is allowed.1) in
    let other : is_termination (operation H o) ≡ false = back_from H o (state H o) may in
    let this : is_termination (Some a) ≡ false = subst (λ (x : Option Operation). is_termination x ≡ false) found other in
    let clash : true ≡ false = sym ends ∙ this in cc)
    (λ other. h a found ends (sym (state-moved H time o occ to false other) ∙ back))
never_back_step width m H time _ o legal allowed h a found ends back = h a found ends back

never_back : (width m : ℕ) (H : List Event) → IsLegalWithin width m H → (o : ℕ) → NeverBack H o
never_back width m H legal o =
    legal_induction width m (λ H. NeverBack H o) (λ a found ends back. cc)
    (λ H time k legal allowed h. never_back_step width m H time k o legal allowed h) H legal

forward_by : (w : Way) (s : OpState) → s ≡ works_in w → (s ≡ RollingBack → ⊥) → w ≡ Forward
forward_by Forward s e f = refl
forward_by Undo s e f = absurd (f e)

terminates_forward : (width m : ℕ) (H : List Event) (u : Tag) (a : Operation) → IsLegalWithin width m H → state H u.occ ≡ works_in u.way
    → operation H u.occ ≡ Some a
    → is_terminate a.ask ≡ true → u.way ≡ Forward
terminates_forward width m H u a legal is found ends = forward_by u.way (state H u.occ) is (never_back width m H legal u.occ a found ends)

-- an attempt that ends
inst_settled : (H : List Event) (time : ℕ) (u : Tag) (out : Outcome) (i : ℕ)
    → is_instantiated (event time (Settled u out) ∷ H) i ≡ is_instantiated H i
unfolding moving
inst_settled H time u out i = refl

pub none_opened : (H : List Event) (time : ℕ) (u : Tag) (out : Outcome) (o c : ℕ) → open_attempts H o c ≡ []
    → open_attempts (event time (Settled u out) ∷ H) o c ≡ []
none_opened H time u out o c none = open_attempts-settled H time u out o c ∙ ap (λ (ts : List Tag). filter (another u) ts) none

waits_nothing : (H : List Event) (time : ℕ) (u : Tag) (out : Outcome) (o : ℕ) (a : Operation)
    → NetsStay H (event time (Settled u out) ∷ H) o a
    → Waits H o a → Waits (event time (Settled u out) ∷ H) o a
waits_nothing H time u out o a nets w b c j k eb ec less zero_b =
    let before = w b c j k eb ec less (sym (nets b j eb) ∙ zero_b) in
    (nets c k ec ∙ before.0, none_opened H time u out o c before.1)

pub same_entry : (xs : List Change) (b c : ℕ) (j k : Change) → slice_get xs b ≡ Some j → slice_get xs c ≡ Some k → b ≡ c → j ≡ k
same_entry xs b c j k eb ec is = one_value (slice_get xs b) j k eb (ap (λ (n : ℕ). slice_get xs n) is ∙ ec)

other_change : (xs : List Change) (b c : ℕ) (j k : Change) (x : Def) → slice_get xs b ≡ Some j → slice_get xs c ≡ Some k → k.def ≡ x
    → same_def j.def x ≡ false
    → (b == c) ≡ false
other_change xs b c j k x eb ec is differ = by_test (b == c)
    (λ same.
    let one : j ≡ k = same_entry xs b c j k eb ec (eqb-true b c same) in
    let def : j.def ≡ x = ap (λ (z : Change). z.def) one ∙ is in
    let clash : same_def j.def x ≡ true = subst (λ (y : Def). same_def j.def y ≡ true) def (same_def-refl j.def) in cc)
    (λ other. other)

pub keep_has : (H : List Event) (time : ℕ) (u : Tag) (out : Outcome) (a : Operation) (k : Change) (v : Verb) (n : ℕ) (x : Def)
    → slice_get a.changes u.change ≡ Some k → same_def k.def x ≡ false → HasChange H u.occ a v n x
    → HasChange (event time (Settled u out) ∷ H) u.occ a v n x
keep_has H time u out a k v n x is differ h =
    (h.0, h.1, h.2, h.3, h.4, net-other_change H time u out u.occ h.0 (other_change a.changes u.change h.0 k h.1 x is h.2 h.3 differ) ∙ h.5)

-- what stands once a change is done
pub after_same : (H : List Event) (time : ℕ) (u : Tag) (name : List ℕ) (i : ℕ) (x : Def) (a : Operation) (k : Change)
    → effect_in H (Settled u (Done name)) ≡ Some (effect u name a k) → a.instance ≡ i → same_def k.def x ≡ true
    → stands (event time (Settled u (Done name)) ∷ H) i x ≡ leaves_it (verb_done u.way k.verb)
after_same H time u name i x a k eff at same =
    let here : (a.instance == i) ≡ true = eq-eqb a.instance i at in
    stands-done H time u (Done name) i x (effect u name a k) eff ∙ rw (here, same) refl

pub after_other : (H : List Event) (time : ℕ) (u : Tag) (name : List ℕ) (i : ℕ) (x : Def) (a : Operation) (k : Change)
    → effect_in H (Settled u (Done name)) ≡ Some (effect u name a k) → same_def k.def x ≡ false
    → stands (event time (Settled u (Done name)) ∷ H) i x ≡ stands H i x
after_other H time u name i x a k eff differ =
    stands-done H time u (Done name) i x (effect u name a k) eff ∙ off (a.instance == i) where
      off : (b : Bool) → cond (b && same_def k.def x) (leaves_it (verb_done u.way k.verb)) (stands H i x) ≡ stands H i x
      off true = rw differ refl
      off false = refl

after_elsewhere : (H : List Event) (time : ℕ) (u : Tag) (name : List ℕ) (i : ℕ) (x : Def) (a : Operation) (k : Change)
    → effect_in H (Settled u (Done name)) ≡ Some (effect u name a k) → (a.instance == i) ≡ false
    → stands (event time (Settled u (Done name)) ∷ H) i x ≡ stands H i x
after_elsewhere H time u name i x a k eff other = stands-done H time u (Done name) i x (effect u name a k) eff ∙ rw other refl

forward_create : (w : Way) → leaves_it (verb_done w Create) ≡ true → w ≡ Forward
forward_create Forward e = refl
forward_create Undo e = cc

built : (width m : ℕ) (H : List Event) (time : ℕ) (u : Tag) (name : List ℕ) (i : ℕ) (a : Operation) (k : Change) → IsLegalWithin width m H
    → is_open H u ≡ true
    → a.instance ≡ i → slice_get a.changes u.change ≡ Some k → effect_in H (Settled u (Done name)) ≡ Some (effect u name a k)
    → IsBuilding H i u.occ a → IsBuilding (event time (Settled u (Done name)) ∷ H) i u.occ a
built width m H time u name i a k legal opened at is eff h = record {
  stand = λ x s. by_test (same_def k.def x)
      (λ same.
      let makes : k.verb ≡ Create = h.makes k (get_in k a.changes u.change is) in
      let leaves : leaves_it (verb_done u.way k.verb) ≡ true = sym (after_same H time u name i x a k eff at same) ∙ s in
      let way : u.way ≡ Forward = forward_create u.way (subst (λ (v : Verb). leaves_it (verb_done u.way v) ≡ true) makes leaves) in
      (u.change, k, is, same_def-true k.def x same, makes, net-done width m H time u name legal opened ∙ ap net_after way))
      (λ differ. keep_has H time u (Done name) a k Create 1 x is differ
      (h.stand x (sym (after_other H time u name i x a k eff differ) ∙ s)));
  makes = h.makes;
}

torn_stop : (width m : ℕ) (H : List Event) (time : ℕ) (u : Tag) (name : List ℕ) (i : ℕ) (x : Def) (a : Operation) (k : Change)
    → IsLegalWithin width m H → is_open H u ≡ true
    → u.way ≡ Forward → slice_get a.changes u.change ≡ Some k → k.def ≡ x → leaves_it (verb_done u.way k.verb) ≡ true
    → IsTearing H i u.occ a
    → (k.verb ≡ Remove) ⊎ ((k.verb ≡ Stop) × Paired a k) → HasChange (event time (Settled u (Done name)) ∷ H) u.occ a Remove 0 x
torn_stop width m H time u name i x a k legal opened way is def leaves h (inl remove) =
    let gone : leaves_it (verb_done Forward k.verb) ≡ true = subst (λ (w : Way). leaves_it (verb_done w k.verb) ≡ true) way leaves in
    let clash : leaves_it (verb_done Forward Remove) ≡ true = subst (λ (v : Verb). leaves_it (verb_done Forward v) ≡ true) remove gone in cc
torn_stop width m H time u name i x a k legal opened way is def leaves h (inr stop) =
    let pair = stop.1 in
    let unmade : net H u.occ u.change ≡ 0 = open_fits width m H legal u opened ∙ ap net_before way in
    let before = h.waits u.change pair.0 k pair.1 is pair.2 pair.5 unmade in
    let differ : (u.change == pair.0) ≡ false = by_test (u.change == pair.0)
    (λ same.
    let one : k ≡ pair.1 = same_entry a.changes u.change pair.0 k pair.1 is pair.2 (eqb-true u.change pair.0 same) in
    let phases : k.phase ≡ pair.1.phase = ap (λ (z : Change). z.phase) one in
    let less = pair.5 in absurd (omega (arith, less, phases)))
    (λ other. other) in
    (pair.0, pair.1, pair.2, pair.3 ∙ def, pair.4, net-other_change H time u (Done name) u.occ pair.0 differ ∙ before.0)

torn_waits : (width m : ℕ) (H : List Event) (time : ℕ) (u : Tag) (name : List ℕ) (a : Operation) → IsLegalWithin width m H
    → is_open H u ≡ true → u.way ≡ Forward
    → Waits H u.occ a → Waits (event time (Settled u (Done name)) ∷ H) u.occ a
torn_waits width m H time u name a legal opened way w b c j k eb ec less zero_b =
    let not_b : (u.change == b) ≡ false = by_test (u.change == b)
    (λ same.
    let made : net (event time (Settled u (Done name)) ∷ H) u.occ u.change ≡ 1 =
    net-done width m H time u name legal opened ∙ ap net_after way in
    let made_b : net (event time (Settled u (Done name)) ∷ H) u.occ b ≡ 1 =
    subst (λ (n : ℕ). net (event time (Settled u (Done name)) ∷ H) u.occ n ≡ 1) (eqb-true u.change b same) made in
    let clash : 1 ≡ 0 = sym made_b ∙ zero_b in cc)
    (λ other. other) in
    let before = w b c j k eb ec less (sym (net-other_change H time u (Done name) u.occ b not_b) ∙ zero_b) in
    let not_c : (u.change == c) ≡ false = by_test (u.change == c)
    (λ same.
    let among : list_any (same_tag u) (open_attempts H u.occ c) ≡ true =
    subst (λ (n : ℕ). list_any (same_tag u) (open_attempts H u.occ n) ≡ true) (eqb-true u.change c same) (open_own H u opened) in
    let clash : false ≡ true = subst (λ (ts : List Tag). list_any (same_tag u) ts ≡ true) before.1 among in cc)
    (λ other. other) in
    (net-other_change H time u (Done name) u.occ c not_c ∙ before.0, none_opened H time u (Done name) u.occ c before.1)

torn : (width m : ℕ) (H : List Event) (time : ℕ) (u : Tag) (name : List ℕ) (i : ℕ) (a : Operation) (k : Change) → IsLegalWithin width m H
    → is_open H u ≡ true
    → u.way ≡ Forward → a.instance ≡ i → slice_get a.changes u.change ≡ Some k
    → effect_in H (Settled u (Done name)) ≡ Some (effect u name a k)
    → IsTearing H i u.occ a → IsTearing (event time (Settled u (Done name)) ∷ H) i u.occ a
torn width m H time u name i a k legal opened way at is eff h = record {
  instantiated = inst_settled H time u (Done name) i ∙ h.instantiated;
  stand = λ x s. by_test (same_def k.def x)
      (λ same.
      torn_stop width m H time u name i x a k legal opened way is (same_def-true k.def x same)
      (sym (after_same H time u name i x a k eff at same) ∙ s) h
      (h.takes k (get_in k a.changes u.change is)))
      (λ differ. keep_has H time u (Done name) a k Remove 0 x is differ
      (h.stand x (sym (after_other H time u name i x a k eff differ) ∙ s)));
  takes = h.takes;
  waits = torn_waits width m H time u name a legal opened way h.waits;
}

done_here : (width m : ℕ) (H : List Event) (time : ℕ) (u : Tag) (name : List ℕ) (i : ℕ) (a : Operation) (k : Change) (ask : Ask)
    → IsLegalWithin width m H → is_open H u ≡ true
    → a.instance ≡ i → (is_terminate ask ≡ true → u.way ≡ Forward) → slice_get a.changes u.change ≡ Some k
    → effect_in H (Settled u (Done name)) ≡ Some (effect u name a k) → ByAsk H i u.occ a ask
    → ByAsk (event time (Settled u (Done name)) ∷ H) i u.occ a ask
done_here width m H time u name i a k (Instantiate flavour level) legal opened at way is eff h =
    built width m H time u name i a k legal opened at is eff h
done_here width m H time u name i a k (Terminate mode timeout) legal opened at way is eff h =
    torn width m H time u name i a k legal opened (way refl) at is eff h
done_here width m H time u name i a k _ legal opened at way is eff h = inst_settled H time u (Done name) i ∙ h

settled_here : (width m : ℕ) (H : List Event) (time : ℕ) (u : Tag) (out : Outcome) (i : ℕ) (a : Operation) (ask : Ask)
    → IsLegalWithin width m H → is_open H u ≡ true
    → operation H u.occ ≡ Some a → a.instance ≡ i → (is_terminate ask ≡ true → u.way ≡ Forward) → ByAsk H i u.occ a ask
    → ByAsk (event time (Settled u out) ∷ H) i u.occ a ask
settled_here width m H time u out i a ask legal opened found at way h = elim (what_is_done H time u out a found) [
  | inl nothing ↦
      by_ask_kept H (event time (Settled u out) ∷ H) i u.occ a ask (λ x. stands-nothing H time u out i x nothing.0) nothing.1
      (λ ends w. waits_nothing H time u out u.occ a nothing.1 w) (inst_settled H time u out i) h
  | inr change ↦
      (let eff : effect_in H (Settled u (Done change.0)) ≡ Some (effect u change.0 a change.1) =
      subst (λ (q : Outcome). effect_in H (Settled u q) ≡ Some (effect u change.0 a change.1)) change.2 change.4 in
      subst (λ (q : Outcome). ByAsk (event time (Settled u q) ∷ H) i u.occ a ask) (sym change.2)
      (done_here width m H time u change.0 i a change.1 ask legal opened at way change.3 eff h))
]

-- an attempt of another instance leaves what stands
pub stands_elsewhere : (H : List Event) (time : ℕ) (u : Tag) (out : Outcome) (i : ℕ) (x : Def) (a : Operation) → operation H u.occ ≡ Some a
    → (a.instance == i) ≡ false
    → stands (event time (Settled u out) ∷ H) i x ≡ stands H i x
stands_elsewhere H time u out i x a found other = elim (what_is_done H time u out a found) [
  | inl nothing ↦ stands-nothing H time u out i x nothing.0
  | inr change ↦
      (let eff : effect_in H (Settled u (Done change.0)) ≡ Some (effect u change.0 a change.1) =
      subst (λ (q : Outcome). effect_in H (Settled u q) ≡ Some (effect u change.0 a change.1)) change.2 change.4 in
      subst (λ (q : Outcome). stands (event time (Settled u q) ∷ H) i x ≡ stands H i x) (sym change.2)
      (after_elsewhere H time u change.0 i x a change.1 eff other))
]

-- what holds of an instance: while an operation of it goes on, and while none does
abbrev Going : List Event → ℕ → Type 0
Going H i = (o : ℕ) (a : Operation) → operation H o ≡ Some a → a.instance ≡ i → is_final (state H o) ≡ false → ByAsk H i o a a.ask

abbrev Idle : List Event → ℕ → Type 0
Idle H i = ongoing H i ≡ [] → is_instantiated H i ≡ false → (x : Def) → stands H i x ≡ false

record Holds (H : List Event) (i : ℕ) : Type 0 where
  going : Going H i
  idle : Idle H i

settled_going : (width m : ℕ) (H : List Event) (time : ℕ) (u : Tag) (out : Outcome) (i : ℕ) → IsLegalWithin width m H → is_open H u ≡ true
    → Going H i
    → Going (event time (Settled u out) ∷ H) i
settled_going width m H time u out i legal opened h o a found at goes = by_test (u.occ == o)
    (λ same.
    let is : u.occ ≡ o = eqb-true u.occ o same in
    let here : operation H u.occ ≡ Some a = subst (λ (n : ℕ). operation H n ≡ Some a) (sym is) found in
    let before : ByAsk H i u.occ a a.ask = subst (λ (n : ℕ). ByAsk H i n a a.ask) (sym is) (h o a found at goes) in
    subst (λ (n : ℕ). ByAsk (event time (Settled u out) ∷ H) i n a a.ask) is
    (settled_here width m H time u out i a a.ask legal opened here at
    (λ ends. terminates_forward width m H u a legal (open_state width m H legal u opened) here ends) before))
    (λ other.
    let mine = open_operation width m H u legal opened in
    let away : (mine.0.instance == i) ≡ false = by_test (mine.0.instance == i)
    (λ ours.
    let one : u.occ ≡ o = one_going width m H i o u.occ a mine.0 legal found at goes mine.1 (eqb-true mine.0.instance i ours) mine.2 in
    let clash : (u.occ == o) ≡ true = eq-eqb u.occ o one in cc)
    (λ not_ours. not_ours) in
    let nets : NetsStay H (event time (Settled u out) ∷ H) o a = λ c k e. net-other_occ H time u out o c other in
    by_ask_kept H (event time (Settled u out) ∷ H) i o a a.ask (λ x. stands_elsewhere H time u out i x mine.0 mine.1 away) nets
    (λ ends w. waits_nothing H time u out o a nets w) (inst_settled H time u out i) (h o a found at goes))

settled_idle : (width m : ℕ) (H : List Event) (time : ℕ) (u : Tag) (out : Outcome) (i : ℕ) → IsLegalWithin width m H → is_open H u ≡ true
    → Idle H i
    → Idle (event time (Settled u out) ∷ H) i
unfolding goes_on
settled_idle width m H time u out i legal opened h none inst x =
    let mine = open_operation width m H u legal opened in
    let away : (mine.0.instance == i) ≡ false = by_test (mine.0.instance == i)
    (λ ours. absurd (idle_none H i u.occ mine.0 none mine.1 (eqb-true mine.0.instance i ours) mine.2))
    (λ not_ours. not_ours) in
    stands_elsewhere H time u out i x mine.0 mine.1 away ∙ h none (sym (inst_settled H time u out i) ∙ inst) x

-- an attempt that begins
pub get_placed : {A : Type 0} → (p : ℕ × A → Bool) (k : ℕ) (xs : List A) (b : ℕ) (j : A) → list_all p (enumerate_from k xs) ≡ true
    → slice_get xs b ≡ Some j → p (k + b, j) ≡ true
get_placed p k [] b j all e = cc
get_placed {A} p k (x ∷ xs) zero j all e =
    let is : x ≡ j = cc in
    let same : k + 0 ≡ k = omega arith in
    rw same (subst (λ (y : A). p (k, y) ≡ true) is (and_left (p (k, x)) (list_all p (enumerate_from (k + 1) xs)) all))
get_placed p k (x ∷ xs) (suc b) j all e =
    let same : k + suc b ≡ (k + 1) + b = omega arith in
    rw same (get_placed p (k + 1) xs b j (and_right (p (k, x)) (list_all p (enumerate_from (k + 1) xs)) all) e)

pub or_not : (a b : Bool) → (not a || b) ≡ true → a ≡ true → b ≡ true
or_not true b e f = e
or_not false b e f = cc

made_before : (H : List Event) (o b : ℕ) (j k : Change) → all_through H o Forward k.phase ≡ true → slice_get (changes H o) b ≡ Some j
    → j.phase < k.phase
    → net H o b ≡ 1
unfolding is_through
made_before H o b j k all e less =
    let through = get_placed (is_through H o Forward k.phase) 0 (changes H o) b j all e in
    let same : 0 + b ≡ b = omega arith in
    let made : (net H o (0 + b) == 1) ≡ true = or_not (ltb j.phase k.phase) (net H o (0 + b) == 1) through (lt-ltb j.phase k.phase less) in
    subst (λ (n : ℕ). net H o n ≡ 1) same (eqb-true (net H o (0 + b)) 1 made)

pub changes_of : (H : List Event) (o : ℕ) (a : Operation) → operation H o ≡ Some a → changes H o ≡ a.changes
changes_of H o a found = rw found refl

waits_begun : (width m : ℕ) (H : List Event) (time : ℕ) (u : Tag) (o : ℕ) (a : Operation) → IsLegalWithin width m H
    → IsAllowedWithin width m H (Intent u) → operation H o ≡ Some a
    → is_terminate a.ask ≡ true → Waits H o a → Waits (event time (Intent u) ∷ H) o a
unfolding is_unsettled
waits_begun width m H time u o a legal allowed found ends w b c j k eb ec less zero_b =
    let before = w b c j k eb ec less zero_b in (
      before.0,
      by_test (is_of o c u)
          (λ same.
          let occ : u.occ ≡ o = is_of-occ o c u same in
          let here : operation H u.occ ≡ Some a = subst (λ (n : ℕ). operation H n ≡ Some a) (sym occ) found in
          let way : u.way ≡ Forward = terminates_forward width m H u a legal allowed.works here ends in
          let change : slice_get (changes H u.occ) u.change ≡ Some k =
          ap (λ (n : ℕ). slice_get (changes H u.occ) n) (is_of-change o c u same)
          ∙ (ap (λ (xs : List Change). slice_get xs c) (changes_of H u.occ a here) ∙ ec) in
          let turn : IsTurnOf H u (Some k) = subst (λ (x : Option Change). IsTurnOf H u x) change allowed.turn in
          let all : all_through H u.occ Forward k.phase ≡ true = subst (λ (v : Way). all_through H u.occ v k.phase ≡ true) way turn.1 in
          let earlier : slice_get (changes H u.occ) b ≡ Some j = ap (λ (xs : List Change). slice_get xs b) (changes_of H u.occ a here)
          ∙ eb in
          let made : net H o b ≡ 1 = subst (λ (n : ℕ). net H n b ≡ 1) occ (made_before H u.occ b j k all earlier less) in
          let clash : 1 ≡ 0 = sym made ∙ zero_b in cc)
          (λ other. filter_cond_other (is_of o c) u (is_unsettled H u) (open_tags H) other ∙ before.1),
    )

-- a move
inst_none : (H : List Event) (time occ : ℕ) (to : OpState) (i : ℕ) → moving instantiates i H (Moved occ to) ≡ None
    → is_instantiated (event time (Moved occ to) ∷ H) i ≡ is_instantiated H i
inst_none H time occ to i e = rw e refl

inst_some : (H : List Event) (time occ : ℕ) (to : OpState) (i : ℕ) (b : Bool) → moving instantiates i H (Moved occ to) ≡ Some b
    → is_instantiated (event time (Moved occ to) ∷ H) i ≡ b
inst_some H time occ to i b e = rw e refl

moving_here : (H : List Event) (occ : ℕ) (to : OpState) (i : ℕ) (a : Operation) → operation H occ ≡ Some a → a.instance ≡ i
    → moving instantiates i H (Moved occ to) ≡ instantiates a.ask to
unfolding moving
moving_here H occ to i a found at = let same : (a.instance == i) ≡ true = eq-eqb a.instance i at in rw (found, same) refl

moving_away : (H : List Event) (occ : ℕ) (to : OpState) (i : ℕ) (a : Operation) → operation H occ ≡ Some a → (a.instance == i) ≡ false
    → moving instantiates i H (Moved occ to) ≡ None
unfolding moving
moving_away H occ to i a found other = rw (found, other) refl

instantiates_never : (ask : Ask) (to : OpState) → is_final to ≡ false → instantiates ask to ≡ None
instantiates_never (Instantiate flavour level) Completed e = cc
instantiates_never (Instantiate flavour level) Failed e = cc
instantiates_never (Terminate mode timeout) Completed e = cc
instantiates_never _ _ e = refl

pub some_value : {A : Type 0} → (o : Option A) → is_some o ≡ true → (a : A) × (o ≡ Some a)
some_value None e = cc
some_value (Some a) e = (a, refl)

pub moved_from : (H : List Event) (occ : ℕ) (to : OpState) → MayMove H occ (state H occ) to → is_final (state H occ) ≡ false
moved_from H occ to may = edge-goes_on (state H occ) to (may_move-edge H occ (state H occ) to may)

moved_kept : (H : List Event) (time occ : ℕ) (to : OpState) (i o : ℕ) (a : Operation)
    → is_instantiated (event time (Moved occ to) ∷ H) i ≡ is_instantiated H i → ByAsk H i o a a.ask
    → ByAsk (event time (Moved occ to) ∷ H) i o a a.ask
unfolding effect_in is_unsettled
moved_kept H time occ to i o a inst h =
    by_ask_kept H (event time (Moved occ to) ∷ H) i o a a.ask (λ x. refl) (λ c k e. refl) (λ ends w. w) inst h

moved_going : (width m : ℕ) (H : List Event) (time occ : ℕ) (to : OpState) (i : ℕ) → IsLegalWithin width m H
    → IsAllowedWithin width m H (Moved occ to) → Going H i
    → Going (event time (Moved occ to) ∷ H) i
moved_going width m H time occ to i legal allowed h o a found at goes = by_test (occ == o)
    (λ same.
    let is : occ ≡ o = eqb-true occ o same in
    let before : is_final (state H o) ≡ false = subst (λ (n : ℕ). is_final (state H n) ≡ false) is (moved_from H occ to allowed.1) in
    let there : is_final to ≡ false = subst (λ (s : OpState). is_final s ≡ false) (state-moved H time o occ to true same) goes in
    let here : operation H occ ≡ Some a = subst (λ (n : ℕ). operation H n ≡ Some a) (sym is) found in
    let inst = inst_none H time occ to i (moving_here H occ to i a here at ∙ instantiates_never a.ask to there) in
    moved_kept H time occ to i o a inst (h o a found at before))
    (λ other.
    let before : is_final (state H o) ≡ false = subst (λ (s : OpState). is_final s ≡ false)
    (state-moved H time o occ to false other) goes in
    let mover = some_value (operation H occ) allowed.0 in
    let away : (mover.0.instance == i) ≡ false = by_test (mover.0.instance == i)
    (λ ours.
    let one : occ ≡ o =
    one_going width m H i o occ a mover.0 legal found at before mover.1 (eqb-true mover.0.instance i ours)
    (moved_from H occ to allowed.1) in
    let clash : (occ == o) ≡ true = eq-eqb occ o one in cc)
    (λ not_ours. not_ours) in
    moved_kept H time occ to i o a (inst_none H time occ to i (moving_away H occ to i mover.0 mover.1 away)) (h o a found at before))

within_changes : (H : List Event) (o c : ℕ) (a : Operation) (k : Change) → operation H o ≡ Some a → slice_get a.changes c ≡ Some k
    → c < length (changes H o)
within_changes H o c a k found e = subst (λ (xs : List Change). c < length xs) (sym (changes_of H o a found)) (get_within k a.changes c e)

not_true : (b : Bool) → (b ≡ true → ⊥) → b ≡ false
not_true true f = absurd (f refl)
not_true false f = refl

-- an operation of the instance ends
ended : (width m : ℕ) (H : List Event) (time occ : ℕ) (to : OpState) (i : ℕ) (a : Operation) (ask : Ask) (x : Def)
    → IsLegalWithin width m (event time (Moved occ to) ∷ H)
    → operation H occ ≡ Some a → state (event time (Moved occ to) ∷ H) occ ≡ to → ByAsk H i occ a ask → is_final to ≡ true
    → moving instantiates i H (Moved occ to) ≡ instantiates ask to → is_instantiated (event time (Moved occ to) ∷ H) i ≡ false
    → stands H i x ≡ false
ended width m H time occ Completed i a (Instantiate flavour level) x legal found is h final moves inst =
    let clash : true ≡ false = sym (inst_some H time occ Completed i true moves) ∙ inst in cc
ended width m H time occ Failed i a (Instantiate flavour level) x legal found is h final moves inst =
    let clash : true ≡ false = sym (inst_some H time occ Failed i true moves) ∙ inst in cc
ended width m H time occ RolledBack i a (Instantiate flavour level) x legal found is h final moves inst =
    not_true (stands H i x) (λ s.
    let has = h.stand x s in
    let zero_net : net H occ has.0 ≡ 0 =
    rolled_back_undone width m (event time (Moved occ RolledBack) ∷ H) legal occ is has.0
    (within_changes H occ has.0 a has.1 found has.2) in
    let clash : 1 ≡ 0 = sym has.5 ∙ zero_net in cc)
ended width m H time occ Completed i a (Terminate mode timeout) x legal found is h final moves inst =
    not_true (stands H i x) (λ s.
    let has = h.stand x s in
    let one_net : net H occ has.0 ≡ 1 =
    completed_made width m (event time (Moved occ Completed) ∷ H) legal occ is has.0 (within_changes H occ has.0 a has.1 found has.2) in
    let clash : 0 ≡ 1 = sym has.5 ∙ one_net in cc)
ended width m H time occ Failed i a (Terminate mode timeout) x legal found is h final moves inst =
    let clash : true ≡ false = sym (inst_none H time occ Failed i moves ∙ h.instantiated) ∙ inst in cc
ended width m H time occ RolledBack i a (Terminate mode timeout) x legal found is h final moves inst =
    let clash : true ≡ false = sym (inst_none H time occ RolledBack i moves ∙ h.instantiated) ∙ inst in cc
ended width m H time occ Starting i a ask x legal found is h final moves inst = cc
ended width m H time occ Processing i a ask x legal found is h final moves inst = cc
ended width m H time occ FailedTemp i a ask x legal found is h final moves inst = cc
ended width m H time occ RollingBack i a ask x legal found is h final moves inst = cc
ended width m H time occ to i a (Scale way aspect steps) x legal found is h final moves inst =
    let clash : true ≡ false = sym (inst_none H time occ to i moves ∙ h) ∙ inst in cc
ended width m H time occ to i a (ScaleToLevel aim) x legal found is h final moves inst =
    let clash : true ≡ false = sym (inst_none H time occ to i moves ∙ h) ∙ inst in cc
ended width m H time occ to i a (Heal cause named) x legal found is h final moves inst =
    let clash : true ≡ false = sym (inst_none H time occ to i moves ∙ h) ∙ inst in cc
ended width m H time occ to i a (Operate started stop) x legal found is h final moves inst =
    let clash : true ≡ false = sym (inst_none H time occ to i moves ∙ h) ∙ inst in cc

empty_list : {A : Type 0} → (xs : List A) → ((x : A) → IsIn x xs → ⊥) → xs ≡ []
empty_list [] f = refl
empty_list (x ∷ xs) f = absurd (f x (inl refl))

-- where another instance's operation moves, none of this one's went on before either
idle_before : (width m : ℕ) (H : List Event) (time occ : ℕ) (to : OpState) (i : ℕ) (a : Operation) → IsLegalWithin width m H
    → operation H occ ≡ Some a → (a.instance == i) ≡ false
    → ongoing (event time (Moved occ to) ∷ H) i ≡ [] → ongoing H i ≡ []
unfolding goes_on
idle_before width m H time occ to i a legal found away none =
    empty_list (ongoing H i) (λ b h.
    let from = of_filter (is_ongoing H i) b (operations H) h in
    let ours : (b.instance == i) ≡ true = and_left (b.instance == i) (goes_on H b) from.1 in
    let goes : goes_on H b ≡ true = and_right (b.instance == i) (goes_on H b) from.1 in
    let own : operation H b.occ ≡ Some b = find-own (λ x. x.occ) (operations H) b (operations_counted width m H legal) from.0 in
    let other : (occ == b.occ) ≡ false = by_test (occ == b.occ)
    (λ same.
    let moved : operation H occ ≡ Some b = subst (λ (n : ℕ). operation H n ≡ Some b) (sym (eqb-true occ b.occ same)) own in
    let one : a ≡ b = one_value (operation H occ) a b found moved in
    let clash : (b.instance == i) ≡ false = subst (λ (z : Operation). (z.instance == i) ≡ false) one away in cc)
    (λ not_same. not_same) in
    let still : goes_on (event time (Moved occ to) ∷ H) b ≡ true =
    subst (λ (s : OpState). not (is_final s) ≡ true) (sym (state-moved H time b.occ occ to false other)) goes in
    subst (λ (xs : List Operation). IsIn b xs) none
    (in_filter (is_ongoing (event time (Moved occ to) ∷ H) i) b (operations H) from.0
    (and_true (b.instance == i) (goes_on (event time (Moved occ to) ∷ H) b) ours still)))

pub stands_moved : (H : List Event) (time occ : ℕ) (to : OpState) (i : ℕ) (x : Def)
    → stands (event time (Moved occ to) ∷ H) i x ≡ stands H i x
unfolding effect_in
stands_moved H time occ to i x = refl

moved_idle : (width m : ℕ) (H : List Event) (time occ : ℕ) (to : OpState) (i : ℕ) → IsLegalWithin width m H
    → IsAllowedWithin width m H (Moved occ to) → Holds H i
    → Idle (event time (Moved occ to) ∷ H) i
moved_idle width m H time occ to i legal allowed h none inst x =
    let mover = some_value (operation H occ) allowed.0 in
    let own : (occ == occ) ≡ true = eq-eqb occ occ refl in
    let after : state (event time (Moved occ to) ∷ H) occ ≡ to = state-moved H time occ occ to true own in
    stands_moved H time occ to i x ∙ by_test (mover.0.instance == i)
    (λ ours.
    let at : mover.0.instance ≡ i = eqb-true mover.0.instance i ours in
    by_test (is_final to)
    (λ final.
    ended width m H time occ to i mover.0 mover.0.ask x (allowed, legal) mover.1 after
    (h.going occ mover.0 mover.1 at (moved_from H occ to allowed.1)) final
    (moving_here H occ to i mover.0 mover.1 at) inst)
    (λ on.
    let still : is_final (state (event time (Moved occ to) ∷ H) occ) ≡ false = subst (λ (s : OpState). is_final s ≡ false) (sym after) on in
    absurd (idle_none (event time (Moved occ to) ∷ H) i occ mover.0 none mover.1 at still)))
    (λ not_ours.
    let before : is_instantiated H i ≡ false = sym (inst_none H time occ to i (moving_away H occ to i mover.0 mover.1 not_ours)) ∙ inst in
    h.idle (idle_before width m H time occ to i mover.0 legal mover.1 not_ours none) before x)

-- an operation is asked for
asked_kept : (H : List Event) (time : ℕ) (b : Operation) (i o : ℕ) (a : Operation) → ByAsk H i o a a.ask
    → ByAsk (event time (Asked b) ∷ H) i o a a.ask
unfolding effect_in is_unsettled moving
asked_kept H time b i o a h = by_ask_kept H (event time (Asked b) ∷ H) i o a a.ask (λ x. refl) (λ c k e. refl) (λ ends w. w) refl h

asked_going : (width m : ℕ) (H : List Event) (time : ℕ) (b : Operation) (i : ℕ) → IsLegalWithin width m H
    → IsAllowedWithin width m H (Asked b) → Holds H i
    → Going (event time (Asked b) ∷ H) i
asked_going width m H time b i legal allowed h o a found at goes = by_test (b.occ == o)
    (λ same.
    let is : Some b ≡ Some a = subst (λ (t : Bool). cond t (Some b) (operation H o) ≡ Some a) same found in
    let one : b ≡ a = cc in
    let ours : b.instance ≡ i = ap (λ (z : Operation). z.instance) one ∙ at in
    let idle : Idle H b.instance = subst (λ (n : ℕ). Idle H n) (sym ours) h.idle in
    let here : ByAsk (event time (Asked b) ∷ H) b.instance b.occ b b.ask =
    asked_kept H time b b.instance b.occ b (asked_holds width m H b legal allowed idle) in
    let at_i : ByAsk (event time (Asked b) ∷ H) i b.occ b b.ask = subst
    (λ (n : ℕ). ByAsk (event time (Asked b) ∷ H) n b.occ b b.ask) ours here in
    let at_o : ByAsk (event time (Asked b) ∷ H) i o b b.ask = subst (λ (n : ℕ). ByAsk (event time (Asked b) ∷ H) i n b b.ask)
    (eqb-true b.occ o same) at_i in
    subst (λ (z : Operation). ByAsk (event time (Asked b) ∷ H) i o z z.ask) one at_o)
    (λ other.
    let before : operation H o ≡ Some a = subst (λ (t : Bool). cond t (Some b) (operation H o) ≡ Some a) other found in
    asked_kept H time b i o a (h.going o a before at goes))

cond_none : (b : Operation) (t : Bool) (xs : List Operation) → cond t (b ∷ xs) xs ≡ [] → xs ≡ []
cond_none b true xs e = cc
cond_none b false xs e = e

asked_idles : (H : List Event) (time : ℕ) (b : Operation) (i : ℕ) → Idle H i → Idle (event time (Asked b) ∷ H) i
unfolding effect_in moving goes_on
asked_idles H time b i h none inst x = h (cond_none b (is_ongoing H i b) (ongoing H i) none) inst x

begun_going : (width m : ℕ) (H : List Event) (time : ℕ) (u : Tag) (i : ℕ) → IsLegalWithin width m H → IsAllowedWithin width m H (Intent u)
    → Going H i → Going (event time (Intent u) ∷ H) i
unfolding effect_in moving
begun_going width m H time u i legal allowed h o a found at goes =
    by_ask_kept H (event time (Intent u) ∷ H) i o a a.ask (λ x. refl) (λ c k e. refl)
    (λ ends w. waits_begun width m H time u o a legal allowed found ends w) refl (h o a found at goes)

holds_step : (width m : ℕ) (H : List Event) (time : ℕ) (k : EventKind) (i : ℕ) → IsLegalWithin width m H → IsAllowedWithin width m H k
    → Holds H i → Holds (event time k ∷ H) i
unfolding effect_in moving goes_on is_unsettled
holds_step width m H time (Settled u out) i legal allowed h =
    record {
      going = settled_going width m H time u out i legal allowed h.going;
      idle =
          settled_idle width m H time u out i legal allowed h.idle;
    }
holds_step width m H time (Moved occ to) i legal allowed h =
    record { going = moved_going width m H time occ to i legal allowed h.going; idle = moved_idle width m H time occ to i legal allowed h }
holds_step width m H time (Asked b) i legal allowed h =
    record { going = asked_going width m H time b i legal allowed h; idle = asked_idles H time b i h.idle }
holds_step width m H time (Intent u) i legal allowed h =
    record { going = begun_going width m H time u i legal allowed h.going; idle = h.idle }
holds_step width m H time k i legal allowed h = record {
  going = λ o a found at goes. by_ask_kept H (event time k ∷ H) i o a a.ask (λ x. refl) (λ c j e. refl) (λ ends w. w) refl
      (h.going o a found at goes);
  idle = h.idle;
}

holds : (width m : ℕ) (H : List Event) → IsLegalWithin width m H → (i : ℕ) → Holds H i
holds width m H legal i =
    legal_induction width m (λ H. Holds H i) (record { going = λ o a found at goes. cc; idle = λ none inst x. refl })
    (λ H time k legal allowed h. holds_step width m H time k i legal allowed h) H legal

-- an instance that is NOT_INSTANTIATED without an ongoing operation holds nothing
pub idle_holds_nothing : (width m : ℕ) (H : List Event) → IsLegalWithin width m H → (i : ℕ) → is_instantiated H i ≡ false → ongoing H i ≡ []
    → (x : Def) → stands H i x ≡ false
idle_holds_nothing width m H legal i inst none x = (holds width m H legal i).idle none inst x

-- a deleted instance is NOT_INSTANTIATED without an ongoing operation
abbrev Gone : List Event → ℕ → Type 0
Gone H i = is_deleted H i ≡ true → (is_instantiated H i ≡ false) × (ongoing H i ≡ [])

no_length : {A : Type 0} → (xs : List A) → length xs ≤ 0 → xs ≡ []
no_length [] h = refl
no_length (x ∷ xs) h = absurd (omega (arith, h))

gone_moved : (H : List Event) (time occ : ℕ) (to : OpState) (i : ℕ) → (is_some (operation H occ) ≡ true) × MayMove H occ (state H occ) to
    → Gone H i
    → Gone (event time (Moved occ to) ∷ H) i
gone_moved H time occ to i allowed h gone =
    let before = h gone in
    let mover = some_value (operation H occ) allowed.0 in
    let away : (mover.0.instance == i) ≡ false = by_test (mover.0.instance == i)
    (λ ours. absurd (idle_none H i occ mover.0 before.1 mover.1 (eqb-true mover.0.instance i ours) (moved_from H occ to allowed.1)))
    (λ not_ours. not_ours) in
    let fewer : length (ongoing (event time (Moved occ to) ∷ H) i) ≤ length (ongoing H i) =
    filter_shorter (is_ongoing (event time (Moved occ to) ∷ H) i) (is_ongoing H i) (operations H)
    (λ a g. and_true (a.instance == i) (goes_on H a) (and_left (a.instance == i) (goes_on (event time (Moved occ to) ∷ H) a) g)
    (goes_on-before H time occ to a allowed.1 (and_right (a.instance == i) (goes_on (event time (Moved occ to) ∷ H) a) g))) in
    let empty : length (ongoing H i) ≡ 0 = ap length before.1 in (
      inst_none H time occ to i (moving_away H occ to i mover.0 mover.1 away) ∙ before.0,
      no_length (ongoing (event time (Moved occ to) ∷ H) i) (omega (arith, fewer, empty)),
    )

gone_deleted : (width m : ℕ) (H : List Event) (j i : ℕ) → IsAllowedWithin width m H (Deleted j) → Gone H i
    → ((j == i) || is_deleted H i) ≡ true
    → (is_instantiated H i ≡ false) × (ongoing H i ≡ [])
gone_deleted width m H j i allowed h gone = by_test (j == i)
    (λ same.
    let is : j ≡ i = eqb-true j i same in
    let refused = allowed.accepted in
    let inst : is_instantiated H j ≡ false = when-none (is_instantiated H j) refusals.Instantiated (none_of-front _ _ refused) in
    let idle : ongoing H j ≡ [] =
    first-none (ongoing H j) (when-none (is_some (first (ongoing H j))) refusals.Ongoing
    (none_of-front _ _ (none_of-rest (when (is_instantiated H j) refusals.Instantiated) _ refused))) in
    (subst (λ (n : ℕ). is_instantiated H n ≡ false) is inst, subst (λ (n : ℕ). ongoing H n ≡ []) is idle))
    (λ other. h (subst (λ (b : Bool). (b || is_deleted H i) ≡ true) other gone))

gone_step : (width m : ℕ) (H : List Event) (time : ℕ) (k : EventKind) (i : ℕ) → IsAllowedWithin width m H k → Gone H i
    → Gone (event time k ∷ H) i
unfolding moving goes_on
gone_step width m H time (Deleted j) i allowed h gone = gone_deleted width m H j i allowed h gone
gone_step width m H time (Asked a) i allowed h gone =
    let before = h gone in
    let away : (a.instance == i) ≡ false = by_test (a.instance == i)
    (λ ours.
    let kept : is_deleted H a.instance ≡ false = not-true (is_deleted H a.instance)
    (and_right (is_some (creation H a.instance)) (not (is_deleted H a.instance)) allowed.live) in
    let clash : is_deleted H i ≡ false = subst (λ (n : ℕ). is_deleted H n ≡ false) (eqb-true a.instance i ours) kept in cc)
    (λ not_ours. not_ours) in
    (before.0, rw away before.1)
gone_step width m H time (Moved occ to) i allowed h gone = gone_moved H time occ to i allowed h gone
gone_step width m H time _ i allowed h gone = h gone

-- a deleted instance holds nothing
pub deleted_holds_nothing : (width m : ℕ) (H : List Event) → IsLegalWithin width m H → (i : ℕ) → is_deleted H i ≡ true → (x : Def)
    → stands H i x ≡ false
deleted_holds_nothing width m H legal i gone x =
    let idle = legal_induction width m (λ H. Gone H i) (λ e. cc) (λ H time k legal allowed h. gone_step width m H time k i allowed h) H
    legal gone in
    idle_holds_nothing width m H legal i idle.0 idle.1 x
