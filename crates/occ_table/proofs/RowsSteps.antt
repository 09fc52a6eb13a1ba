-- What each event makes of the rows, and what is found among them.
use Rattle.lcm_events.specs.declared.places.Place.{Place}
use Rattle.occ_table.proofs.ChangeSteps.{all_alike, attempts-none, nets-none}
use Rattle.occ_table.proofs.UsedSteps.{used_told}
use Rattle.occ_table.specs.Used.{used, used_in}
use Rattle.occ_table.specs.declared.used.Used.{Used}
use Rattle.lcm_model.specs.Attempts.{is_unsettled}
use Rattle.std.proofs.Common.{◌≡◌, ◌≢◌, ◌≤◌, ◌<◌, ◌+◌, ◌-◌, ◌++◌, ◌==◌, ◌∙◌, ℕ, List, [], ◌∷◌, zero, suc, Bool, true, false, cond, Option}
use Rattle.std.proofs.Common.{None, Some, is_some, refl, ap, sym, subst, length, map, reverse, arith, eqb-true, false-eqb, slice_get}
use Rattle.std.proofs.Common.{replicate, inl, inr}
use Rattle.std.specs.Option.{option_map_or}
use Rattle.std.proofs.lemmas.List.{length-map, length-reverse}
use mathlib.Core.List.{reverse-cons}
use Rattle.lcm_events.specs.declared.events.Event.{Event}
use Rattle.lcm_events.specs.declared.events.EventKind.{EventKind}
use Rattle.lcm_events.specs.declared.events.EventKind.TheVariants.{Asked, CallFailed, CancelAsked, Created, Denied, GrantTried, Granted}
use Rattle.lcm_events.specs.declared.events.EventKind.TheVariants.{Intent, Moved, Settled}
use Rattle.lcm_events.specs.declared.events.Operation.{Operation}
use Rattle.lcm_model.specs.Allowed.{IsAllowedWithin, IsLegalWithin}
use Rattle.lcm_model.specs.Operations.{occurrence_of, operation, operations}
use Rattle.lcm_laws.proofs.AboutLaws.{about_asked, unasked_untouched}
use Rattle.lcm_laws.proofs.BoundLaws.{few_changes}
use Rattle.lcm_laws.proofs.Histories.{event, legal_induction}
use Rattle.lcm_laws.proofs.Lists.{by_test}
use Rattle.lcm_laws.proofs.NumberLaws.{IsCounted, found_exactly, operations_counted}
use Rattle.lcm_events.proofs.SameLaws.{eq-refl}
use Rattle.lcm_events.specs.declared.events.GrantTry.{GrantTry}
use Rattle.lcm_events.specs.declared.events.GrantTry.TheVariants.{Later, NotCovering, Trouble}
use Rattle.occ_table.specs.Rows.{StandsFor, cause, cause_in, nets, occurrence, row, rows}
use Rattle.lcm_model.specs.Lives.{instances_made}
use Rattle.occ_table.specs.Descriptors.{vnfd, vnfds}
use Rattle.occ_table.specs.Ended.{is_over}
use Rattle.occ_table.proofs.EndedLaws.{kept_all}
use Rattle.occ_table.proofs.HomeLaws.{described_at, homed, live_number, placed}
use Rattle.occ_table.specs.Steps.{described, first_row, row_after, rows_about, rows_after, update, after_told, is_bringing, is_later}
use Rattle.occ_table.specs.Table.{needs_room}
use Rattle.occ_table.specs.declared.rows.OccRow.{OccRow}
use Rattle.lcm_model.specs.Words.{IsIn}
use Rattle.occ_table.specs.Phases.{tallies}
use Rattle.occ_table.proofs.PhaseLaws.{made-fresh, waiting-fresh}
use Rattle.occ_table.proofs.RowSteps.{row-step}
use Rattle.occ_table.proofs.Updates.{update-front, update-last, update-past}

-- the rows of counted operations, where one of them changes
changed : (f g : Operation → OccRow) (h : OccRow → OccRow) (xs : List Operation) (n : ℕ) → IsCounted (λ a. a.occ) xs → 1 ≤ n
    → ((a : Operation) → IsIn a xs → g a ≡ cond (n == a.occ) (h (f a)) (f a)) → reverse (map g xs) ≡ update h (n - 1) (reverse (map f xs))
changed f g h [] n counted low e = refl
changed f g h (x ∷ xs) n counted low e =
    let ys : List OccRow = reverse (map f xs) in
    let long : length (reverse (map f xs)) ≡ length xs = length-reverse (map f xs) ∙ length-map xs f in
    let number : x.occ ≡ length xs + 1 = counted.0 in
    reverse-cons (g x) (map g xs)
    ∙ (ap (λ (zs : List OccRow). zs ++ g x ∷ []) (changed f g h xs n counted.1 low (λ a among. e a (inr among)))
    ∙ (by_test (n == x.occ)
    (λ same.
    let is : n ≡ x.occ = eqb-true n x.occ same in
    let own : g x ≡ h (f x) = subst (λ (b : Bool). g x ≡ cond b (h (f x)) (f x)) same (e x (inl refl)) in
    ap (λ (zs : List OccRow). zs ++ g x ∷ []) (update-past h (n - 1) ys (omega (arith, is, number, long)))
    ∙ (ap (λ (z : OccRow). ys ++ z ∷ []) own ∙ sym (update-last h (n - 1) ys (f x) (omega (arith, is, number, long)))))
    (λ other.
    let not : n ≢ x.occ = false-eqb n x.occ (sym other) in
    let old : g x ≡ f x = subst (λ (b : Bool). g x ≡ cond b (h (f x)) (f x)) other (e x (inl refl)) in
    ap (λ (z : OccRow). update h (n - 1) ys ++ z ∷ []) old
    ∙ sym (update-front h (n - 1) ys (f x) (λ at. not (omega (arith, at, number, long, low)))))
    ∙ ap (λ (zs : List OccRow). update h (n - 1) zs) (sym (reverse-cons (f x) (map f xs)))))

-- an event about an occurrence changes its row alone
about-step : (width m : ℕ) (H : List Event) (time : ℕ) (k : EventKind) (n : ℕ) → occurrence_of k ≡ Some n → width ≤ 4
    → IsLegalWithin width m H → IsAllowedWithin width m H k
    → reverse (map (row (event time k ∷ H)) (operations H)) ≡ update (row_after time (used_told H k) k) (n - 1) (rows H)
about-step width m H time k n e wide legal allowed =
    changed (row H) (row (event time k ∷ H)) (row_after time (used_told H k) k) (operations H) n (operations_counted width m H legal)
    ((found_exactly width m H legal n).0 (about_asked width m H k legal allowed n e)).0
    (λ a among. row-step width m H time k n a e among wide legal allowed
    ∙ ap (λ (o : Option ℕ). cond (option_map_or (λ n. n == a.occ) o false) (row_after time (used_told H k) k (row H a)) (row H a)) e)

pub none_there : {A : Type 0} → (x : Option A) → (is_some x ≡ true → ⊥) → x ≡ None
none_there None f = refl
none_there (Some x) f = absurd (f refl)

with_lists : (r : OccRow) {n k v w : List ℕ} {u : List (Option Used)} → r.nets ≡ n → r.attempts ≡ k → r.waiting ≡ v → r.made ≡ w
    → r.used ≡ u
    → r ≡ record r { nets = n; attempts = k; waiting = v; made = w; used = u }
with_lists r {n} {k} {v} {w} {u} e f g h l =
    ap (λ (x : List ℕ). record r { nets = x }) e
    ∙ (ap (λ (x : List ℕ). record r { nets = n; attempts = x }) f
    ∙ (ap (λ (x : List ℕ). record r { nets = n; attempts = k; waiting = x }) g
    ∙ (ap (λ (x : List ℕ). record r { nets = n; attempts = k; waiting = v; made = x }) h
    ∙ ap (λ (x : List (Option Used)). record r { nets = n; attempts = k; waiting = v; made = w; used = x }) l)))

-- an event that isn't about an occurrence gives it no cause
not_caused : (H : List Event) (k : EventKind) (o : ℕ) → (occurrence_of k ≡ Some o → ⊥) → cause_in o H k ≡ None
not_caused H (GrantTried n answer) o f = by_test (n == o) (λ same. absurd (f (ap Some (eqb-true n o same)))) (λ other. rw other refl)
not_caused H (Denied n) o f = by_test (n == o) (λ same. absurd (f (ap Some (eqb-true n o same)))) (λ other. rw other refl)
not_caused H (Settled t outcome) o f = by_test (t.occ == o) (λ same. absurd (f (ap Some (eqb-true t.occ o same)))) (λ other. rw other refl)
not_caused H (CancelAsked n mode) o f = by_test (n == o) (λ same. absurd (f (ap Some (eqb-true n o same)))) (λ other. rw other refl)
not_caused H _ o f = refl

unasked_before : (H : List Event) (time : ℕ) (k : EventKind) (o : ℕ) → operation (event time k ∷ H) o ≡ None → operation H o ≡ None
unasked_before H time (Asked a) o e = find_none (a.occ == o) e where
  find_none : (b : Bool) → cond b (Some a) (operation H o) ≡ None → operation H o ≡ None
  find_none true e = cc
  find_none false e = e
unasked_before H time _ o e = e

uncaused_step : (width m : ℕ) (H : List Event) (time : ℕ) (k : EventKind) (o : ℕ) → IsLegalWithin width m H → IsAllowedWithin width m H k
    → (operation H o ≡ None → cause H o ≡ None) → operation (event time k ∷ H) o ≡ None → cause (event time k ∷ H) o ≡ None
uncaused_step width m H time k o legal allowed h e =
    let none : operation H o ≡ None = unasked_before H time k o e in
    let away : cause_in o H k ≡ None = not_caused H k o (λ about.
    let asked : is_some (operation H o) ≡ true = about_asked width m H k legal allowed o about in
    let clash : is_some {T = Operation} None ≡ true = subst (λ (a : Option Operation). is_some a ≡ true) none asked in
    cc) in
    rw away (h none)

-- no event gave a cause to an occurrence that wasn't asked for
uncaused : (width m : ℕ) (H : List Event) → IsLegalWithin width m H → (o : ℕ) → operation H o ≡ None → cause H o ≡ None
uncaused width m H legal o none =
    legal_induction width m (λ H. operation H o ≡ None → cause H o ≡ None) (λ e. refl)
    (λ H time k legal allowed h. uncaused_step width m H time k o legal allowed h) H legal none

-- an event that isn't about an occurrence tells nothing that a change of it used
not_used : (H : List Event) (k : EventKind) (o c : ℕ) → (occurrence_of k ≡ Some o → ⊥) → used_in o c H k ≡ None
not_used H (Settled t outcome) o c f = by_test (t.occ == o) (λ same. absurd (f (ap Some (eqb-true t.occ o same)))) (λ other. rw other refl)
not_used H _ o c f = refl

unused_step : (width m : ℕ) (H : List Event) (time : ℕ) (k : EventKind) (o c : ℕ) → IsLegalWithin width m H → IsAllowedWithin width m H k
    → (operation H o ≡ None → used H o c ≡ None) → operation (event time k ∷ H) o ≡ None → used (event time k ∷ H) o c ≡ None
unused_step width m H time k o c legal allowed h e =
    let none : operation H o ≡ None = unasked_before H time k o e in
    let away : used_in o c H k ≡ None = not_used H k o c (λ about.
    let asked : is_some (operation H o) ≡ true = about_asked width m H k legal allowed o about in
    let clash : is_some {T = Operation} None ≡ true = subst (λ (a : Option Operation). is_some a ≡ true) none asked in
    cc) in
    rw away (h none)

-- no change used anything of an occurrence that wasn't asked for
unused : (width m : ℕ) (H : List Event) → IsLegalWithin width m H → (o c : ℕ) → operation H o ≡ None → used H o c ≡ None
unused width m H legal o c none =
    legal_induction width m (λ H. operation H o ≡ None → used H o c ≡ None) (λ e. refl)
    (λ H time k legal allowed h. unused_step width m H time k o c legal allowed h) H legal none

asked_row : (H : List Event) (time : ℕ) (a : Operation) → row (event time (Asked a) ∷ H) a
    ≡ record (row H a) { asked = time; entered = time }
unfolding is_unsettled
asked_row H time a = let own : (a.occ == a.occ) ≡ true = eq-refl a.occ in rw own refl

-- the row of an operation when it is asked for
first : (width m : ℕ) (H : List Event) (time : ℕ) (a : Operation) → IsLegalWithin width m H → IsAllowedWithin width m H (Asked a)
    → row (event time (Asked a) ∷ H) a ≡ described (vnfd H a.instance) (first_row time a)
first width m H time a legal allowed =
    let none : operation H a.occ ≡ None = none_there (operation H a.occ) (λ there.
    let high = ((found_exactly width m H legal a.occ).0 there).1 in omega (arith, high, allowed.number)) in
    let still = unasked_untouched width m H legal a.occ none in
    let calm : cause H a.occ ≡ None = uncaused width m H legal a.occ none in
    let fresh : is_over H a.occ ≡ false = rw still.moves refl in
    let none_made : nets H a ≡ replicate (length a.changes) 0 = nets-none H a still in
    asked_row H time a
    ∙ (with_lists (record (row H a) { asked = time; entered = time }) none_made
    (kept_all (is_over H a.occ) _ fresh ∙ attempts-none H a still)
    (ap (λ (ns : List ℕ). tallies 0 a.changes ns) none_made ∙ waiting-fresh a.changes (few_changes width m H a legal allowed))
    (ap (λ (ns : List ℕ). tallies 1 a.changes ns) none_made ∙ made-fresh a.changes)
    (all_alike (used H a.occ) 0 (length a.changes) None (λ c. unused width m H legal a.occ c none))
    ∙ rw (still.moves, still.answers, still.cancels, still.no_trouble, still.none_open, still.grant, calm) refl)

older_row : (H : List Event) (time : ℕ) (a x : Operation) → (a.occ == x.occ) ≡ false → row (event time (Asked a) ∷ H) x ≡ row H x
unfolding is_unsettled
older_row H time a x other = rw other refl

-- the rows of operations that were asked for before
older : (H : List Event) (time : ℕ) (a : Operation) (xs : List Operation) → IsCounted (λ x. x.occ) xs → length xs < a.occ
    → map (row (event time (Asked a) ∷ H)) xs ≡ map (row H) xs
older H time a [] counted less = refl
older H time a (x ∷ xs) counted less =
    let other : (a.occ == x.occ) ≡ false = by_test (a.occ == x.occ)
    (λ same. let is : a.occ ≡ x.occ = eqb-true a.occ x.occ same in absurd (omega (arith, is, less, counted.0)))
    (λ no. no) in
    ap (λ (r : OccRow). r ∷ map (row (event time (Asked a) ∷ H)) xs) (older_row H time a x other)
    ∙ ap (λ (rs : List OccRow). row H x ∷ rs) (older H time a xs counted.1 (omega (arith, less)))

same_rows : (f g : Operation → OccRow) (xs : List Operation) → ((a : Operation) → IsIn a xs → f a ≡ g a) → map f xs ≡ map g xs
same_rows f g [] e = refl
same_rows f g (x ∷ xs) e =
    ap (λ (r : OccRow). r ∷ map f xs) (e x (inl refl)) ∙ ap (λ (rs : List OccRow). g x ∷ rs) (same_rows f g xs (λ a among. e a (inr among)))

-- an instance that is created is another than those of the operations
newer : (width m : ℕ) (H : List Event) (i : ℕ) (a : Operation) → IsLegalWithin width m H → i ≡ instances_made H + 1 → IsIn a (operations H)
    → (i == a.instance) ≡ false
newer width m H i a legal number among =
    let from = homed width m H legal a among in
    by_test (i == a.instance) (λ same. let is : i ≡ a.instance = eqb-true i a.instance same in absurd (omega (arith, from.1, is, number)))
    (λ other. other)

created_row : (H : List Event) (time i : ℕ) (v : List ℕ) (name text : Option (List ℕ)) (a : Operation) → (i == a.instance) ≡ false
    → row (event time (Created i v name text) ∷ H) a ≡ row H a
unfolding is_unsettled
created_row H time i v name text a other = rw other refl

-- what an event makes of the rows
pub rows-step : (width m : ℕ) (H : List Event) (time : ℕ) (k : EventKind) → width ≤ 4 → IsLegalWithin width m H
    → IsAllowedWithin width m H k
    → rows (event time k ∷ H) ≡ rows_after (vnfds H) time (used_told H k) k (rows H)
unfolding is_unsettled
rows-step width m H time (Asked a) wide legal allowed =
    let new : Operation → OccRow = row (event time (Asked a) ∷ H) in
    let long : length (operations H) < a.occ = omega (arith, allowed.number) in
    reverse-cons (new a) (map new (operations H))
    ∙ (ap (λ (rs : List OccRow). reverse rs ++ new a ∷ []) (older H time a (operations H) (operations_counted width m H legal) long)
    ∙ (ap (λ (r : OccRow). rows H ++ r ∷ []) (first width m H time a legal allowed)
    ∙ ap (λ (v : List ℕ). rows H ++ described v (first_row time a) ∷ [])
    (sym (described_at width m H a.instance legal (live_number width m H a.instance legal allowed.live).0))))
rows-step width m H time (Created i v name text) wide legal allowed =
    ap (λ (rs : List OccRow). reverse rs) (same_rows (row (event time (Created i v name text) ∷ H)) (row H) (operations H)
    (λ a among. created_row H time i v name text a (newer width m H i a legal allowed.number among)))
rows-step width m H time (GrantTried n answer) wide legal allowed =
    about-step width m H time (GrantTried n answer) n refl wide legal allowed
rows-step width m H time (Granted n grant places spots) wide legal allowed =
    about-step width m H time (Granted n grant places spots) n refl wide legal allowed
rows-step width m H time (Denied n) wide legal allowed = about-step width m H time (Denied n) n refl wide legal allowed
rows-step width m H time (Intent t) wide legal allowed = about-step width m H time (Intent t) t.occ refl wide legal allowed
rows-step width m H time (CallFailed t) wide legal allowed = about-step width m H time (CallFailed t) t.occ refl wide legal allowed
rows-step width m H time (Settled t outcome) wide legal allowed =
    about-step width m H time (Settled t outcome) t.occ refl wide legal allowed
rows-step width m H time (Moved n to) wide legal allowed = about-step width m H time (Moved n to) n refl wide legal allowed
rows-step width m H time (CancelAsked n mode) wide legal allowed = about-step width m H time (CancelAsked n mode) n refl wide legal allowed
rows-step width m H time _ wide legal allowed = refl

-- rows that stood for a history stand for it with one event more
pub applied : (width m : ℕ) (H : List Event) (e : Event) (old : List OccRow) (vs : List (List ℕ)) (x : Option Used) → width ≤ 4
    → IsLegalWithin width m H
    → IsAllowedWithin width m H e.kind → StandsFor old H → vs ≡ vnfds H → x ≡ used_told H e.kind
    → StandsFor (rows_after vs e.moment x e.kind old) (e ∷ H)
applied width m H e old vs x wide legal allowed stands are told =
    ap (λ (rs : List OccRow). rows_after vs e.moment x e.kind rs) stands
    ∙ (ap (λ (us : List (List ℕ)). rows_after us e.moment x e.kind (rows H)) are
    ∙ (ap (λ (y : Option Used). rows_after (vnfds H) e.moment y e.kind (rows H)) told
    ∙ sym (rows-step width m H e.moment e.kind wide legal allowed)))

-- an event is about a number from 1
pub low : (width m : ℕ) (H : List Event) (k : EventKind) (n : ℕ) → occurrence_of k ≡ Some n → IsLegalWithin width m H
    → IsAllowedWithin width m H k → 1 ≤ n
low width m H k n e legal allowed = ((found_exactly width m H legal n).0 (about_asked width m H k legal allowed n e)).0

-- the row of an occurrence is found at its place
pub looked : (width m : ℕ) (H : List Event) (rs : List OccRow) (n : ℕ) → IsLegalWithin width m H → StandsFor rs H → 1 ≤ n
    → slice_get rs (n - 1) ≡ occurrence H n
looked width m H rs n legal stands low =
    ap (λ (rs : List OccRow). slice_get rs (n - 1)) stands ∙ placed (λ (a : Operation). a.occ) (row H) (operations H) n
    (operations_counted width m H legal) low

-- no occurrence has number 0
pub none-zero : (width m : ℕ) (H : List Event) → IsLegalWithin width m H → operation H 0 ≡ None
none-zero width m H legal =
    none_there (operation H 0) (λ there. let low = ((found_exactly width m H legal 0).0 there).0 in omega (arith, low))

-- rows that followed an event that asks for no operation
pub followed : (width m : ℕ) (H : List Event) (time : ℕ) (vs : List (List ℕ)) (k : EventKind) (old new : List OccRow)
    → ((a : Operation) → k ≡ Asked a → ⊥)
    → ((n : ℕ) → occurrence_of k ≡ Some n → 1 ≤ n → new ≡ rows_about (occurrence_of k) time None k old)
    → (occurrence_of k ≡ None → new ≡ old)
    → IsLegalWithin width m H → IsAllowedWithin width m H k → new ≡ rows_after vs time None k old
followed width m H time vs (Asked a) old new not g h legal allowed = absurd (not a refl)
followed width m H time vs (GrantTried n answer) old new not g h legal allowed =
    g n refl (low width m H (GrantTried n answer) n refl legal allowed)
followed width m H time vs (Granted n grant places spots) old new not g h legal allowed =
    g n refl (low width m H (Granted n grant places spots) n refl legal allowed)
followed width m H time vs (Denied n) old new not g h legal allowed = g n refl (low width m H (Denied n) n refl legal allowed)
followed width m H time vs (Intent t) old new not g h legal allowed = g t.occ refl (low width m H (Intent t) t.occ refl legal allowed)
followed width m H time vs (CallFailed t) old new not g h legal allowed =
    g t.occ refl (low width m H (CallFailed t) t.occ refl legal allowed)
followed width m H time vs (Settled t outcome) old new not g h legal allowed =
    g t.occ refl (low width m H (Settled t outcome) t.occ refl legal allowed)
followed width m H time vs (Moved n to) old new not g h legal allowed = g n refl (low width m H (Moved n to) n refl legal allowed)
followed width m H time vs (CancelAsked n mode) old new not g h legal allowed =
    g n refl (low width m H (CancelAsked n mode) n refl legal allowed)
followed width m H time vs _ old new not g h legal allowed = h refl

-- a number that isn't 0
pub one_up : (n : ℕ) → (n ≡ 0 → ⊥) → 1 ≤ n
one_up zero f = absurd (f refl)
one_up (suc n) f = omega arith

-- an event that brings nothing
pub not_bringing : (k : EventKind) → ((n : ℕ) (name : List ℕ) (places : List Place) (spots : List ℕ) → k ≡ Granted n name places spots → ⊥)
    → ((n : ℕ) (answer : GrantTry) → k ≡ GrantTried n answer → ⊥) → is_bringing k ≡ false
not_bringing (Granted n name places spots) f g = absurd (f n name places spots refl)
not_bringing (GrantTried n answer) f g = absurd (g n answer refl)
not_bringing _ f g = refl

-- what a try with a location makes of the rows
pub told_rows : (time n : ℕ) (answer : GrantTry) (location : Option (List ℕ)) (old new : List OccRow) → is_later answer ≡ true
    → ((at : List ℕ) → answer ≡ Later at → location ≡ Some at) → ((at : List ℕ) → location ≡ Some at
    → new ≡ update (after_told at) (n - 1) old)
    → new ≡ update (row_after time None (GrantTried n answer)) (n - 1) old
told_rows time n (Later at) location old new later room put = put at (room at refl)
told_rows time n Trouble location old new later room put = cc
told_rows time n NotCovering location old new later room put = cc

-- a try with a location needs room for it
pub needs_location : (n : ℕ) (answer : GrantTry) → is_later answer ≡ true → needs_room (GrantTried n answer) ≡ true
needs_location n (Later at) later = refl
needs_location n Trouble later = cc
needs_location n NotCovering later = cc
