-- The levels of an instance are the target of the operation that set them last.
use Rattle.std.proofs.Common.{◌≡◌, ◌==◌, ◌∙◌, ◌++◌, ℕ, List, [], ◌∷◌, true, false, Option, None, Some, refl, ap, sym, subst, inl, inr}
use Rattle.std.proofs.Common.{eqb-true, eq-eqb}
use Rattle.lcm_events.specs.declared.asks.Ask.{Ask}
use Rattle.lcm_events.specs.declared.asks.Ask.TheVariants.{Heal, Instantiate, Operate, Scale, ScaleToLevel, Terminate}
use Rattle.lcm_events.specs.declared.descriptor.Vnfd.{Vnfd}
use Rattle.lcm_events.specs.declared.events.Event.{Event}
use Rattle.lcm_events.specs.declared.events.EventKind.{EventKind}
use Rattle.lcm_events.specs.declared.events.EventKind.TheVariants.{Asked, Moved}
use Rattle.lcm_events.specs.declared.events.Operation.{Operation}
use Rattle.lcm_events.specs.declared.states.OpState.{OpState}
use Rattle.lcm_events.specs.declared.states.OpState.TheVariants.{Completed, Failed, RolledBack}
use Rattle.lcm_model.specs.Words.{told}
use Rattle.lcm_model.specs.Moves.{is_final, state}
use Rattle.lcm_model.specs.Operations.{operation}
use Rattle.lcm_model.specs.Instances.{levels_from, moving, sets_levels}
use Rattle.lcm_model.specs.Levels.{target}
use Rattle.lcm_model.specs.Allowed.{IsAllowedWithin, IsLegalWithin}
use Rattle.lcm_laws.specs.Levelling.{LevelsBy, last_setting, setting_in}
use Rattle.lcm_laws.proofs.Histories.{event, legal_induction}
use Rattle.lcm_laws.proofs.Lists.{by_test}
use Rattle.lcm_laws.proofs.BoundLaws.{found_asked}
use Rattle.lcm_laws.proofs.HoldLaws.{moved_from, some_value}
use Rattle.lcm_laws.proofs.OngoingLaws.{state-moved}
use Rattle.lcm_laws.proofs.SettledLaws.{one_going}

-- the asks that set the levels of the instance
abbrev setters : List Event → ℕ → List Ask
setters H i = told (moving sets_levels i) H

-- only an end sets levels
only_ends : (ask : Ask) (to : OpState) → is_final to ≡ false → sets_levels ask to ≡ None
only_ends ask Completed e = cc
only_ends ask Failed e = cc
only_ends ask RolledBack e = cc
only_ends (Instantiate flavour level) _ e = refl
only_ends (Scale way aspect steps) _ e = refl
only_ends (ScaleToLevel aim) _ e = refl
only_ends (Heal cause named) _ e = refl
only_ends (Operate started stop) _ e = refl
only_ends (Terminate mode timeout) _ e = refl

-- an ask that sets levels is handed on as it is
same_ask : (ask x : Ask) (to : OpState) → sets_levels ask to ≡ Some x → x ≡ ask
same_ask (Instantiate flavour level) x Completed e = cc
same_ask (Instantiate flavour level) x Failed e = cc
same_ask (Scale way aspect steps) x Completed e = cc
same_ask (ScaleToLevel aim) x Completed e = cc
same_ask _ x _ e = cc

moving_ours : (H : List Event) (o : ℕ) (to : OpState) (i : ℕ) (a : Operation) → operation H o ≡ Some a → (a.instance == i) ≡ true
    → moving sets_levels i H (Moved o to) ≡ sets_levels a.ask to
unfolding moving
moving_ours H o to i a found ours = rw (found, ours) refl

moving_others : (H : List Event) (o : ℕ) (to : OpState) (i : ℕ) (a : Operation) → operation H o ≡ Some a → (a.instance == i) ≡ false
    → moving sets_levels i H (Moved o to) ≡ None
unfolding moving
moving_others H o to i a found away = rw (found, away) refl

setting_others : (H : List Event) (o : ℕ) (to : OpState) (i : ℕ) (a : Operation) → operation H o ≡ Some a → (a.instance == i) ≡ false
    → setting_in i H (Moved o to) ≡ None
setting_others H o to i a found away = rw (found, away) refl

setting_none : (H : List Event) (o : ℕ) (to : OpState) (i : ℕ) (a : Operation) → operation H o ≡ Some a → (a.instance == i) ≡ true
    → sets_levels a.ask to ≡ None
    → setting_in i H (Moved o to) ≡ None
setting_none H o to i a found ours none = rw (found, ours, none) refl

setting_some : (H : List Event) (o : ℕ) (to : OpState) (i : ℕ) (a : Operation) (x : Ask) → operation H o ≡ Some a → (a.instance == i) ≡ true
    → sets_levels a.ask to ≡ Some x → setting_in i H (Moved o to) ≡ Some a
setting_some H o to i a x found ours some = rw (found, ours, some) refl

setters_same : (H : List Event) (time : ℕ) (k : EventKind) (i : ℕ) → moving sets_levels i H k ≡ None
    → setters (event time k ∷ H) i ≡ setters H i
setters_same H time k i none = rw none refl

-- since the operation was asked for, no levels were set
record Kept (H : List Event) (i : ℕ) (a : Operation) : Type 0 where
  earlier : List Event
  later : List Event
  time : ℕ
  asked : H ≡ later ++ event time (Asked a) ∷ earlier
  same : setters H i ≡ setters earlier i

kept-next : (H : List Event) (now : ℕ) (k : EventKind) (i : ℕ) (a : Operation) → moving sets_levels i H k ≡ None → Kept H i a
    → Kept (event now k ∷ H) i a
kept-next H now k i a none h = record {
  earlier = h.earlier;
  later = event now k ∷ h.later;
  time = h.time;
  asked = ap (λ (xs : List Event). event now k ∷ xs) h.asked;
  same = setters_same H now k i none ∙ h.same;
}

-- what was asked for and goes on
abbrev AllKept : List Event → ℕ → Type 0
AllKept H i = (o : ℕ) (a : Operation) → operation H o ≡ Some a → a.instance ≡ i → is_final (state H o) ≡ false → Kept H i a

kept_moved : (width m : ℕ) (H : List Event) (time occ : ℕ) (to : OpState) (i : ℕ) → IsLegalWithin width m H
    → IsAllowedWithin width m H (Moved occ to) → AllKept H i
    → AllKept (event time (Moved occ to) ∷ H) i
kept_moved width m H time occ to i legal allowed h o a found at goes =
    let mover = some_value (operation H occ) allowed.0 in
    by_test (occ == o)
    (λ same.
    let is : occ ≡ o = eqb-true occ o same in
    let before : is_final (state H o) ≡ false = subst (λ (n : ℕ). is_final (state H n) ≡ false) is (moved_from H occ to allowed.1) in
    let on : is_final to ≡ false = subst (λ (s : OpState). is_final s ≡ false) (state-moved H time o occ to true same) goes in
    let here : operation H occ ≡ Some a = subst (λ (n : ℕ). operation H n ≡ Some a) (sym is) found in
    let none : moving sets_levels i H (Moved occ to) ≡ None = moving_ours H occ to i a here (eq-eqb a.instance i at)
    ∙ only_ends a.ask to on in
    kept-next H time (Moved occ to) i a none (h o a found at before))
    (λ other.
    let before : is_final (state H o) ≡ false = subst (λ (s : OpState). is_final s ≡ false)
    (state-moved H time o occ to false other) goes in
    let away : (mover.0.instance == i) ≡ false = by_test (mover.0.instance == i)
    (λ ours.
    let one : occ ≡ o = one_going width m H i o occ a mover.0 legal found at before mover.1 (eqb-true mover.0.instance i ours)
    (moved_from H occ to allowed.1) in
    let clash : (occ == o) ≡ true = eq-eqb occ o one in cc)
    (λ not_ours. not_ours) in
    kept-next H time (Moved occ to) i a (moving_others H occ to i mover.0 mover.1 away) (h o a found at before))

kept_asked : (H : List Event) (time : ℕ) (b : Operation) (i : ℕ) → AllKept H i → AllKept (event time (Asked b) ∷ H) i
unfolding moving
kept_asked H time b i h o a found at goes = elim (found_asked H b a o found) [
  | inl same ↦ subst (λ (z : Operation). Kept (event time (Asked b) ∷ H) i z) same
      (record { earlier = H; later = []; time = time; asked = refl; same = refl })
  | inr before ↦ kept-next H time (Asked b) i a refl (h o a before at goes)
]

kept_step : (width m : ℕ) (H : List Event) (time : ℕ) (k : EventKind) (i : ℕ) → IsLegalWithin width m H → IsAllowedWithin width m H k
    → AllKept H i → AllKept (event time k ∷ H) i
unfolding moving
kept_step width m H time (Moved occ to) i legal allowed h = kept_moved width m H time occ to i legal allowed h
kept_step width m H time (Asked b) i legal allowed h = kept_asked H time b i h
kept_step width m H time k i legal allowed h = λ o a found at goes. kept-next H time k i a refl (h o a found at goes)

all_kept : (width m : ℕ) (H : List Event) → IsLegalWithin width m H → (i : ℕ) → AllKept H i
all_kept width m H legal i =
    legal_induction width m (λ H. AllKept H i) (λ o a found at goes. cc)
    (λ H time k legal allowed h. kept_step width m H time k i legal allowed h) H legal

targets-next : (d : Vnfd) (H : List Event) (now : ℕ) (k : EventKind) (i : ℕ) (x : Option Operation) → moving sets_levels i H k ≡ None
    → LevelsBy d H i x
    → LevelsBy d (event now k ∷ H) i x
targets-next d H now k i None none h = ap (λ (asks : List Ask). levels_from d asks) (setters_same H now k i none) ∙ h
targets-next d H now k i (Some a) none h = record {
  earlier = h.earlier;
  later = event now k ∷ h.later;
  time = h.time;
  asked = ap (λ (xs : List Event). event now k ∷ xs) h.asked;
  levels = ap (λ (asks : List Ask). levels_from d asks) (setters_same H now k i none) ∙ h.levels;
}

-- an event that sets nothing
targets_stay : (d : Vnfd) (H : List Event) (now : ℕ) (k : EventKind) (i : ℕ) → moving sets_levels i H k ≡ None → setting_in i H k ≡ None
    → LevelsBy d H i (last_setting H i) → LevelsBy d (event now k ∷ H) i (last_setting (event now k ∷ H) i)
targets_stay d H now k i none unset h =
    let same : last_setting (event now k ∷ H) i ≡ last_setting H i = rw unset refl in
    subst (λ (x : Option Operation). LevelsBy d (event now k ∷ H) i x) (sym same) (targets-next d H now k i (last_setting H i) none h)

targets_set : (width m : ℕ) (d : Vnfd) (H : List Event) (now o : ℕ) (to : OpState) (i : ℕ) (a : Operation) (x : Option Ask)
    → IsLegalWithin width m H
    → IsAllowedWithin width m H (Moved o to) → operation H o ≡ Some a → (a.instance == i) ≡ true → sets_levels a.ask to ≡ x
    → LevelsBy d H i (last_setting H i) → LevelsBy d (event now (Moved o to) ∷ H) i (last_setting (event now (Moved o to) ∷ H) i)
targets_set width m d H now o to i a None legal allowed found ours sets h =
    targets_stay d H now (Moved o to) i (moving_ours H o to i a found ours ∙ sets) (setting_none H o to i a found ours sets) h
targets_set width m d H now o to i a (Some x) legal allowed found ours sets h =
    let at : a.instance ≡ i = eqb-true a.instance i ours in
    let kept : Kept H i a = all_kept width m H legal i o a found at (moved_from H o to allowed.1) in
    let move : moving sets_levels i H (Moved o to) ≡ Some x = moving_ours H o to i a found ours ∙ sets in
    let more : setters (event now (Moved o to) ∷ H) i ≡ x ∷ setters H i = rw move refl in
    let ask : x ≡ a.ask = same_ask a.ask x to sets in
    let set : last_setting (event now (Moved o to) ∷ H) i ≡ Some a =
    (let some = setting_some H o to i a x found ours sets in rw some refl) in
    subst (λ (y : Option Operation). LevelsBy d (event now (Moved o to) ∷ H) i y) (sym set) (record {
      earlier = kept.earlier;
      later = event now (Moved o to) ∷ kept.later;
      time = kept.time;
      asked = ap (λ (xs : List Event). event now (Moved o to) ∷ xs) kept.asked;
      levels =
          ap (λ (asks : List Ask). levels_from d asks) more
          ∙ (ap (λ (y : Ask). target d (levels_from d (setters H i)) y) ask
          ∙ ap (λ (asks : List Ask). target d (levels_from d asks) a.ask) kept.same);
    })

targets_moved : (width m : ℕ) (d : Vnfd) (H : List Event) (now o : ℕ) (to : OpState) (i : ℕ) → IsLegalWithin width m H
    → IsAllowedWithin width m H (Moved o to)
    → LevelsBy d H i (last_setting H i) → LevelsBy d (event now (Moved o to) ∷ H) i (last_setting (event now (Moved o to) ∷ H) i)
targets_moved width m d H now o to i legal allowed h =
    let mover = some_value (operation H o) allowed.0 in
    by_test (mover.0.instance == i)
    (λ ours. targets_set width m d H now o to i mover.0 (sets_levels mover.0.ask to) legal allowed mover.1 ours refl h)
    (λ away. targets_stay d H now (Moved o to) i (moving_others H o to i mover.0 mover.1 away)
    (setting_others H o to i mover.0 mover.1 away) h)

targets_step : (width m : ℕ) (d : Vnfd) (H : List Event) (time : ℕ) (k : EventKind) (i : ℕ) → IsLegalWithin width m H
    → IsAllowedWithin width m H k
    → LevelsBy d H i (last_setting H i) → LevelsBy d (event time k ∷ H) i (last_setting (event time k ∷ H) i)
unfolding moving
targets_step width m d H time (Moved o to) i legal allowed h = targets_moved width m d H time o to i legal allowed h
targets_step width m d H time k i legal allowed h = targets_stay d H time k i refl refl h

-- the levels of an instance are the target of the operation that set them last
pub level_targets : (width m : ℕ) (H : List Event) → IsLegalWithin width m H → (i : ℕ) (d : Vnfd) → LevelsBy d H i (last_setting H i)
unfolding moving
level_targets width m H legal i d =
    legal_induction width m (λ H. LevelsBy d H i (last_setting H i)) refl
    (λ H time k legal allowed h. targets_step width m d H time k i legal allowed h) H legal
