-- Changes are made phase by phase, and undone in the reverse order.
use Rattle.std.proofs.Common.{◌≡◌, ◌<◌, ◌+◌, ◌-◌, ◌==◌, ◌∙◌, ℕ, List, [], ◌∷◌, Bool, true, false, cond, Option, Some, refl, ap, sym, subst}
use Rattle.std.proofs.Common.{arith, inl, inr, ◌⊎◌, lt-ltb, eqb-true, slice_get}
use Rattle.std.specs.List.{list_any}
use Rattle.lcm_events.specs.Same.{same_tag}
use Rattle.lcm_events.proofs.SameLaws.{same_tag-true}
use Rattle.lcm_events.specs.declared.attempts.Outcome.{Outcome}
use Rattle.lcm_events.specs.declared.attempts.Outcome.TheVariants.{Done}
use Rattle.lcm_events.specs.declared.attempts.Tag.{Tag}
use Rattle.lcm_events.specs.declared.attempts.Way.{Way}
use Rattle.lcm_events.specs.declared.attempts.Way.TheVariants.{Forward, Undo}
use Rattle.lcm_events.specs.declared.changes.Change.{Change}
use Rattle.lcm_events.specs.declared.events.Event.{Event}
use Rattle.lcm_events.specs.declared.events.EventKind.{EventKind}
use Rattle.lcm_events.specs.declared.events.EventKind.TheVariants.{Asked, Intent, Settled}
use Rattle.lcm_events.specs.declared.events.Operation.{Operation}
use Rattle.lcm_model.specs.Moves.{state}
use Rattle.lcm_model.specs.Attempts.{done_count, is_open, is_unsettled, net, open_of, open_tags}
use Rattle.lcm_model.specs.Operations.{changes, operation}
use Rattle.lcm_model.specs.Work.{IsTurnOf, all_through, goes_before, is_through, net_after, net_before, works_in}
use Rattle.lcm_model.specs.Allowed.{IsAllowedWithin, IsLegalWithin}
use Rattle.lcm_laws.specs.Asking.{IsUntouched}
use Rattle.lcm_laws.proofs.Histories.{event, legal_induction}
use Rattle.lcm_laws.proofs.Lists.{any_of_filter, by_test}
use Rattle.lcm_laws.proofs.AboutLaws.{unasked_untouched}
use Rattle.lcm_laws.proofs.AskLaws.{NetsStay, new_none}
use Rattle.lcm_laws.proofs.EndLaws.{begun_open, open_of-own, open_state}
use Rattle.lcm_laws.proofs.HoldLaws.{changes_of, get_placed, or_not}
use Rattle.lcm_laws.proofs.NetLaws.{another, open_tags-settled}
use Rattle.lcm_laws.proofs.SettledLaws.{net-done, net-other_change, net-other_occ, what_is_done}

-- the changes of an occurrence are made by their phases: none of a later phase before one of an earlier phase
pub record Ordered (H : List Event) (o : ℕ) (a : Operation) : Type 0 where
  pub unmade : (b c : ℕ) (j k : Change) → slice_get a.changes b ≡ Some j → slice_get a.changes c ≡ Some k → j.phase < k.phase
      → net H o b ≡ 0 → net H o c ≡ 0
  pub making : (t : Tag) (b : ℕ) (j k : Change) → is_open H t ≡ true → t.occ ≡ o → t.way ≡ Forward → slice_get a.changes b ≡ Some j
      → slice_get a.changes t.change ≡ Some k → j.phase < k.phase → net H o b ≡ 1
  pub undoing : (t : Tag) (c : ℕ) (j k : Change) → is_open H t ≡ true → t.occ ≡ o → t.way ≡ Undo → slice_get a.changes t.change ≡ Some j
      → slice_get a.changes c ≡ Some k → j.phase < k.phase → net H o c ≡ 0

ordered_kept : (H H' : List Event) (o : ℕ) (a : Operation) → NetsStay H H' o a → ((t : Tag) → is_open H' t ≡ true → is_open H t ≡ true)
    → Ordered H o a → Ordered H' o a
ordered_kept H H' o a nets opens h = record {
  unmade = λ b c j k eb ec less none. nets c k ec ∙ h.unmade b c j k eb ec less (sym (nets b j eb) ∙ none);
  making = λ t b j k opened at way eb ek less. nets b j eb ∙ h.making t b j k (opens t opened) at way eb ek less;
  undoing = λ t c j k opened at way ej ec less. nets c k ec ∙ h.undoing t c j k (opens t opened) at way ej ec less;
}

-- the turn of an attempt that may begin
pub turn_at : (width m : ℕ) (H : List Event) (u : Tag) (a : Operation) (k : Change) → IsAllowedWithin width m H (Intent u)
    → operation H u.occ ≡ Some a
    → slice_get a.changes u.change ≡ Some k → (net H u.occ u.change ≡ net_before u.way) × (all_through H u.occ u.way k.phase ≡ true)
turn_at width m H u a k allowed found is =
    let change : slice_get (changes H u.occ) u.change ≡ Some k = ap (λ (xs : List Change). slice_get xs u.change)
    (changes_of H u.occ a found) ∙ is in
    subst (λ (x : Option Change). IsTurnOf H u x) change allowed.turn

-- what goes before is through
pub through_net : (H : List Event) (o : ℕ) (w : Way) (a : Operation) (phase b : ℕ) (j : Change) → operation H o ≡ Some a
    → all_through H o w phase ≡ true
    → slice_get a.changes b ≡ Some j → goes_before w phase j ≡ true → net H o b ≡ net_after w
unfolding is_through
through_net H o w a phase b j found all is goes =
    let at : slice_get (changes H o) b ≡ Some j = ap (λ (xs : List Change). slice_get xs b) (changes_of H o a found) ∙ is in
    let through = get_placed (is_through H o w phase) 0 (changes H o) b j all at in
    let same : 0 + b ≡ b = omega arith in
    let made : (net H o (0 + b) == net_after w) ≡ true = or_not (goes_before w phase j) (net H o (0 + b) == net_after w) through goes in
    subst (λ (n : ℕ). net H o n ≡ net_after w) same (eqb-true (net H o (0 + b)) (net_after w) made)

begun_or : (H : List Event) (time : ℕ) (u t : Tag) → is_open (event time (Intent u) ∷ H) t ≡ true → (t ≡ u) ⊎ (is_open H t ≡ true)
unfolding is_unsettled
begun_or H time u t opened = by_test (same_tag t u)
    (λ same. inl (same_tag-true t u same))
    (λ other. inr (begun_open u t (is_unsettled H u) (open_tags H) opened other))

making_turn : (width m : ℕ) (H : List Event) (u : Tag) (b : ℕ) (j k : Change) (o : ℕ) (a : Operation) → IsAllowedWithin width m H (Intent u)
    → operation H o ≡ Some a
    → u.occ ≡ o → u.way ≡ Forward → slice_get a.changes b ≡ Some j → slice_get a.changes u.change ≡ Some k → j.phase < k.phase
    → net H o b ≡ 1
making_turn width m H u b j k o a allowed found at way eb ek less =
    let here : operation H u.occ ≡ Some a = subst (λ (n : ℕ). operation H n ≡ Some a) (sym at) found in
    let turn : all_through H u.occ Forward k.phase ≡ true = subst (λ (w : Way). all_through H u.occ w k.phase ≡ true) way
    (turn_at width m H u a k allowed here ek).1 in
    subst (λ (n : ℕ). net H n b ≡ 1) at (through_net H u.occ Forward a k.phase b j here turn eb (lt-ltb j.phase k.phase less))

undoing_turn : (width m : ℕ) (H : List Event) (u : Tag) (c : ℕ) (j k : Change) (o : ℕ) (a : Operation)
    → IsAllowedWithin width m H (Intent u) → operation H o ≡ Some a
    → u.occ ≡ o → u.way ≡ Undo → slice_get a.changes u.change ≡ Some j → slice_get a.changes c ≡ Some k → j.phase < k.phase → net H o c ≡ 0
undoing_turn width m H u c j k o a allowed found at way ej ec less =
    let here : operation H u.occ ≡ Some a = subst (λ (n : ℕ). operation H n ≡ Some a) (sym at) found in
    let turn : all_through H u.occ Undo j.phase ≡ true = subst (λ (w : Way). all_through H u.occ w j.phase ≡ true) way
    (turn_at width m H u a j allowed here ej).1 in
    subst (λ (n : ℕ). net H n c ≡ 0) at (through_net H u.occ Undo a j.phase c k here turn ec (lt-ltb j.phase k.phase less))

ordered_begun : (width m : ℕ) (H : List Event) (time : ℕ) (u : Tag) (o : ℕ) (a : Operation) → IsAllowedWithin width m H (Intent u)
    → operation H o ≡ Some a → Ordered H o a
    → Ordered (event time (Intent u) ∷ H) o a
ordered_begun width m H time u o a allowed found h = record {
  unmade = h.unmade;
  making = λ t b j k opened at way eb ek less. (elim (begun_or H time u t opened) [
    | inl is ↦
        making_turn width m H u b j k o a allowed found (ap (λ (x : Tag). x.occ) (sym is) ∙ at) (ap (λ (x : Tag). x.way) (sym is) ∙ way) eb
        (ap (λ (x : Tag). slice_get a.changes x.change) (sym is) ∙ ek) less
    | inr before ↦ h.making t b j k before at way eb ek less
  ]);
  undoing = λ t c j k opened at way ej ec less. (elim (begun_or H time u t opened) [
    | inl is ↦
        undoing_turn width m H u c j k o a allowed found (ap (λ (x : Tag). x.occ) (sym is) ∙ at) (ap (λ (x : Tag). x.way) (sym is) ∙ way)
        (ap (λ (x : Tag). slice_get a.changes x.change) (sym is) ∙ ej) ec less
    | inr before ↦ h.undoing t c j k before at way ej ec less
  ]);
}

-- what is open after an attempt has ended was open before
still_open : (H : List Event) (time : ℕ) (u t : Tag) (out : Outcome) → is_open (event time (Settled u out) ∷ H) t ≡ true
    → is_open H t ≡ true
still_open H time u t out opened =
    any_of_filter (same_tag t) (another u) (open_tags H)
    (subst (λ (ts : List Tag). list_any (same_tag t) ts ≡ true) (open_tags-settled H time u out) opened)

works_one : (v w : Way) → works_in v ≡ works_in w → v ≡ w
works_one Forward Forward e = refl
works_one Undo Undo e = refl
works_one Forward Undo e = cc
works_one Undo Forward e = cc

-- attempts of one occurrence that are open at once are made in one way
same_ways : (width m : ℕ) (H : List Event) (t u : Tag) → IsLegalWithin width m H → is_open H t ≡ true → is_open H u ≡ true → t.occ ≡ u.occ
    → u.way ≡ t.way
same_ways width m H t u legal ot ou at =
    works_one u.way t.way (sym (open_state width m H legal u ou) ∙ (ap (λ (n : ℕ). state H n) (sym at) ∙ open_state width m H legal t ot))

net_at : (width m : ℕ) (H : List Event) (time : ℕ) (u : Tag) (name : List ℕ) (c : ℕ) (w : Way) → IsLegalWithin width m H
    → is_open H u ≡ true → (u.change == c) ≡ true
    → u.way ≡ w → net (event time (Settled u (Done name)) ∷ H) u.occ c ≡ net_after w
net_at width m H time u name c w legal opened same way =
    subst (λ (n : ℕ). net (event time (Settled u (Done name)) ∷ H) u.occ n ≡ net_after w) (eqb-true u.change c same)
    (net-done width m H time u name legal opened ∙ ap net_after way)

get_at : (a : Operation) (c d : ℕ) (k : Change) → (c == d) ≡ true → slice_get a.changes d ≡ Some k → slice_get a.changes c ≡ Some k
get_at a c d k same e = subst (λ (n : ℕ). slice_get a.changes n ≡ Some k) (sym (eqb-true c d same)) e

done_unmade : (width m : ℕ) (H : List Event) (time : ℕ) (u : Tag) (name : List ℕ) (a : Operation) (w : Way) → IsLegalWithin width m H
    → is_open H u ≡ true
    → u.way ≡ w → Ordered H u.occ a → (b c : ℕ) (j k : Change) → slice_get a.changes b ≡ Some j → slice_get a.changes c ≡ Some k
    → j.phase < k.phase
    → net (event time (Settled u (Done name)) ∷ H) u.occ b ≡ 0 → net (event time (Settled u (Done name)) ∷ H) u.occ c ≡ 0
done_unmade width m H time u name a Forward legal opened way h b c j k eb ec less none =
    by_test (u.change == b)
    (λ same. let clash : 1 ≡ 0 = sym (net_at width m H time u name b Forward legal opened same way) ∙ none in cc)
    (λ other.
    let before : net H u.occ b ≡ 0 = sym (net-other_change H time u (Done name) u.occ b other) ∙ none in
    by_test (u.change == c)
    (λ same.
    let made : net H u.occ b ≡ 1 = h.making u b j k opened refl way eb (get_at a u.change c k same ec) less in
    let clash : 1 ≡ 0 = sym made ∙ before in cc)
    (λ not_c. net-other_change H time u (Done name) u.occ c not_c ∙ h.unmade b c j k eb ec less before))
done_unmade width m H time u name a Undo legal opened way h b c j k eb ec less none =
    by_test (u.change == c)
    (λ same. net_at width m H time u name c Undo legal opened same way)
    (λ not_c.
    net-other_change H time u (Done name) u.occ c not_c ∙ by_test (u.change == b)
    (λ same. h.undoing u c j k opened refl way (get_at a u.change b j same eb) ec less)
    (λ other. h.unmade b c j k eb ec less (sym (net-other_change H time u (Done name) u.occ b other) ∙ none)))

ordered_done : (width m : ℕ) (H : List Event) (time : ℕ) (u : Tag) (name : List ℕ) (a : Operation) → IsLegalWithin width m H
    → is_open H u ≡ true → Ordered H u.occ a
    → Ordered (event time (Settled u (Done name)) ∷ H) u.occ a
ordered_done width m H time u name a legal opened h = record {
  unmade = λ b c j k eb ec less none. done_unmade width m H time u name a u.way legal opened refl h b c j k eb ec less none;
  making = λ t b j k later at way eb ek less.
      (let before : is_open H t ≡ true = still_open H time u t (Done name) later in
      by_test (u.change == b)
      (λ same. net_at width m H time u name b Forward legal opened same (same_ways width m H t u legal before opened at ∙ way))
      (λ other. net-other_change H time u (Done name) u.occ b other ∙ h.making t b j k before at way eb ek less));
  undoing = λ t c j k later at way ej ec less.
      (let before : is_open H t ≡ true = still_open H time u t (Done name) later in
      by_test (u.change == c)
      (λ same. net_at width m H time u name c Undo legal opened same (same_ways width m H t u legal before opened at ∙ way))
      (λ other. net-other_change H time u (Done name) u.occ c other ∙ h.undoing t c j k before at way ej ec less));
}

ordered_settled : (width m : ℕ) (H : List Event) (time : ℕ) (u : Tag) (out : Outcome) (a : Operation) → IsLegalWithin width m H
    → is_open H u ≡ true → operation H u.occ ≡ Some a
    → Ordered H u.occ a → Ordered (event time (Settled u out) ∷ H) u.occ a
ordered_settled width m H time u out a legal opened found h = elim (what_is_done H time u out a found) [
  | inl nothing ↦ ordered_kept H (event time (Settled u out) ∷ H) u.occ a nothing.1 (λ t later. still_open H time u t out later) h
  | inr change ↦
      subst (λ (q : Outcome). Ordered (event time (Settled u q) ∷ H) u.occ a) (sym change.2)
      (ordered_done width m H time u change.0 a legal opened h)
]

abbrev AllOrdered : List Event → Type 0
AllOrdered H = (o : ℕ) (a : Operation) → operation H o ≡ Some a → Ordered H o a

none_of : (ts : List Tag) (t : Tag) → ts ≡ [] → list_any (same_tag t) ts ≡ true → ⊥
none_of ts t none h = let clash : false ≡ true = subst (λ (xs : List Tag). list_any (same_tag t) xs ≡ true) none h in cc

new_ordered : (H : List Event) (o : ℕ) (a : Operation) → IsUntouched H o → Ordered H o a
new_ordered H o a h =
    let net_zero : (c : ℕ) → net H o c ≡ 0 = λ c. (let made = h.none_done Forward c in
    less (done_count Forward H o c) (done_count Undo H o c) made) in
    let not_open : (t : Tag) → is_open H t ≡ true → t.occ ≡ o → ⊥ =
    λ t opened at. none_of (open_of H o) t h.none_open (subst (λ (n : ℕ). list_any (same_tag t) (open_of H n) ≡ true) at
    (open_of-own H t opened)) in
    record {
      unmade = λ b c j k eb ec smaller none. net_zero c;
      making = λ t b j k opened at way eb ek smaller. absurd (not_open t opened at);
      undoing = λ t c j k opened at way ej ec smaller. absurd (not_open t opened at);
    } where
      less : (n k : ℕ) → n ≡ 0 → n - k ≡ 0
      less n k e = omega (arith, e)

ordered_asked : (width m : ℕ) (H : List Event) (time : ℕ) (b : Operation) → IsLegalWithin width m H → IsAllowedWithin width m H (Asked b)
    → AllOrdered H
    → AllOrdered (event time (Asked b) ∷ H)
unfolding is_unsettled
ordered_asked width m H time b legal allowed h o a found = by_test (b.occ == o)
    (λ same.
    let is : b.occ ≡ o = eqb-true b.occ o same in
    let new : IsUntouched H b.occ = unasked_untouched width m H legal b.occ
    (new_none width m H b.occ (operation H b.occ) legal allowed.number refl) in
    ordered_kept H (event time (Asked b) ∷ H) o a (λ c k e. refl) (λ t opened. opened)
    (new_ordered H o a (subst (λ (n : ℕ). IsUntouched H n) is new)))
    (λ other.
    let before : operation H o ≡ Some a = subst (λ (x : Bool). cond x (Some b) (operation H o) ≡ Some a) other found in
    ordered_kept H (event time (Asked b) ∷ H) o a (λ c k e. refl) (λ t opened. opened) (h o a before))

ordered_step : (width m : ℕ) (H : List Event) (time : ℕ) (k : EventKind) → IsLegalWithin width m H → IsAllowedWithin width m H k
    → AllOrdered H → AllOrdered (event time k ∷ H)
unfolding is_unsettled
ordered_step width m H time (Asked b) legal allowed h = ordered_asked width m H time b legal allowed h
ordered_step width m H time (Intent u) legal allowed h = λ o a found. ordered_begun width m H time u o a allowed found (h o a found)
ordered_step width m H time (Settled u out) legal allowed h = λ o a found. by_test (u.occ == o)
    (λ same.
    let is : u.occ ≡ o = eqb-true u.occ o same in
    let here : operation H u.occ ≡ Some a = subst (λ (n : ℕ). operation H n ≡ Some a) (sym is) found in
    subst (λ (n : ℕ). Ordered (event time (Settled u out) ∷ H) n a) is
    (ordered_settled width m H time u out a legal allowed here (h u.occ a here)))
    (λ other.
    ordered_kept H (event time (Settled u out) ∷ H) o a (λ c k e. net-other_occ H time u out o c other)
    (λ t later. still_open H time u t out later) (h o a found))
ordered_step width m H time k legal allowed h = λ o a found. ordered_kept H (event time k ∷ H) o a (λ c j e. refl) (λ t opened. opened)
    (h o a found)

-- the changes of each occurrence are made by their phases
pub ordered : (width m : ℕ) (H : List Event) → IsLegalWithin width m H → (o : ℕ) (a : Operation) → operation H o ≡ Some a → Ordered H o a
ordered width m H legal = legal_induction width m AllOrdered (λ o a found. cc)
    (λ H time k legal allowed h. ordered_step width m H time k legal allowed h) H legal
