-- What each event makes of the nets and attempts of a row.
use Rattle.std.proofs.Common.{◌≡◌, ◌<◌, ◌+◌, ◌==◌, ◌∙◌, ◌-◌, ℕ, List, [], ◌∷◌, zero, suc, true, false, refl, ap, sym, subst, length, map}
use Rattle.std.proofs.Common.{replicate, set, arith, eqb-true, false-eqb}
use Rattle.std.specs.List.{range_with_len}
use Rattle.lcm_events.specs.declared.attempts.Outcome.{Outcome}
use Rattle.lcm_events.specs.declared.attempts.Outcome.TheVariants.{Done}
use Rattle.lcm_events.specs.declared.attempts.Tag.{Tag}
use Rattle.lcm_events.specs.declared.attempts.Way.TheVariants.{Forward, Undo}
use Rattle.lcm_events.specs.declared.events.Event.{Event}
use Rattle.lcm_events.specs.declared.events.EventKind.TheVariants.{Intent, Settled}
use Rattle.lcm_events.specs.declared.events.Operation.{Operation}
use Rattle.lcm_model.specs.Allowed.{IsAllowedWithin, IsLegalWithin}
use Rattle.lcm_model.specs.Attempts.{attempts, done_count, is_of, is_open, net}
use Rattle.lcm_model.specs.Work.{net_after}
use Rattle.lcm_laws.specs.Asking.{IsUntouched}
use Rattle.lcm_laws.proofs.Histories.{event}
use Rattle.lcm_laws.proofs.Lists.{by_test}
use Rattle.lcm_laws.proofs.SettledLaws.{net-done, net-other_change, net-other_occ}
use Rattle.occ_table.specs.Rows.{numbers}
use Rattle.occ_table.specs.Steps.{nets_after}

pub maps_same : {A : Type 0} → (f g : ℕ → A) (ns : List ℕ) → ((c : ℕ) → f c ≡ g c) → map f ns ≡ map g ns
maps_same f g [] e = refl
maps_same {A} f g (n ∷ ns) e = ap (λ (k : A). k ∷ map f ns) (e n) ∙ ap (λ (ks : List A). g n ∷ ks) (maps_same f g ns e)

apart : (a b : ℕ) → (a ≡ b → ⊥) → (a == b) ≡ false
apart a b f = by_test (a == b) (λ same. absurd (f (eqb-true a b same))) (λ other. other)

above : {A : Type 0} → (f g : ℕ → A) (k n x : ℕ) → x < k → ((c : ℕ) → (x == c) ≡ false → g c ≡ f c)
    → map g (range_with_len k n) ≡ map f (range_with_len k n)
above f g k zero x h e = refl
above {A} f g k (suc n) x h e =
    ap (λ (v : A). v ∷ map g (range_with_len (k + 1) n)) (e k (apart x k (λ is. omega (arith, h, is))))
    ∙ ap (λ (vs : List A). f k ∷ vs) (above f g (k + 1) n x (omega (arith, h)) e)

-- what differs at one number of a range is set at one place
pub differs : {A : Type 0} → (f g : ℕ → A) (k n j x : ℕ) (v : A) → k + j ≡ x → g x ≡ v → ((c : ℕ) → (x == c) ≡ false → g c ≡ f c)
    → map g (range_with_len k n) ≡ set (map f (range_with_len k n)) j v
differs f g k zero j x v at is e = refl
differs {A} f g k (suc n) zero x v at is e =
    let here : x ≡ k = omega (arith, at) in
    ap (λ (w : A). w ∷ map g (range_with_len (k + 1) n)) (sym (ap g here) ∙ is)
    ∙ ap (λ (vs : List A). v ∷ vs) (above f g (k + 1) n x (omega (arith, here)) e)
differs {A} f g k (suc n) (suc j) x v at is e =
    ap (λ (w : A). w ∷ map g (range_with_len (k + 1) n)) (e k (apart x k (λ same. omega (arith, at, same))))
    ∙ ap (λ (vs : List A). f k ∷ vs) (differs f g (k + 1) n j x v (omega (arith, at)) is e)

pub all_alike : {A : Type 0} → (f : ℕ → A) (k n : ℕ) (v : A) → ((c : ℕ) → f c ≡ v) → map f (range_with_len k n) ≡ replicate n v
all_alike f k zero v e = refl
all_alike {A} f k (suc n) v e =
    ap (λ (w : A). w ∷ map f (range_with_len (k + 1) n)) (e k) ∙ ap (λ (vs : List A). v ∷ vs) (all_alike f (k + 1) n v e)

-- how many attempts there were at a change
abbrev pub tried : List Event → ℕ → ℕ → ℕ
tried H o c = length (attempts H o c)

tried-own : (H : List Event) (time : ℕ) (t : Tag) (o c : ℕ) → is_of o c t ≡ true → tried (event time (Intent t) ∷ H) o c ≡ suc (tried H o c)
tried-own H time t o c own = rw own refl

tried-other : (H : List Event) (time : ℕ) (t : Tag) (o c : ℕ) → is_of o c t ≡ false → tried (event time (Intent t) ∷ H) o c ≡ tried H o c
tried-other H time t o c other = rw other refl

pub own_change : (t : Tag) (o : ℕ) → (t.occ == o) ≡ true → is_of o t.change t ≡ true
own_change t o same = rw same (same_self t.change) where
  same_self : (n : ℕ) → (n == n) ≡ true
  same_self n = by_test (n == n) (λ yes. yes) (λ no. absurd (false-eqb n n (sym no) refl))

pub other_change : (t : Tag) (o c : ℕ) → (t.change == c) ≡ false → is_of o c t ≡ false
other_change t o c other = by_test (t.occ == o) (λ a. rw (a, other) refl) (λ b. rw b refl)

pub attempts-begun : (width m : ℕ) (H : List Event) (time : ℕ) (t : Tag) (a : Operation) → (t.occ == a.occ) ≡ true
    → IsAllowedWithin width m H (Intent t)
    → map (tried (event time (Intent t) ∷ H) a.occ) (numbers a) ≡ set (map (tried H a.occ) (numbers a)) t.change t.attempt
attempts-begun width m H time t a same allowed =
    let is : t.occ ≡ a.occ = eqb-true t.occ a.occ same in
    let number : t.attempt ≡ tried H a.occ t.change + 1 = subst (λ (o : ℕ). t.attempt ≡ tried H o t.change + 1) is allowed.number in
    let next : tried (event time (Intent t) ∷ H) a.occ t.change ≡ suc (tried H a.occ t.change) =
    tried-own H time t a.occ t.change (own_change t a.occ same) in
    differs (tried H a.occ) (tried (event time (Intent t) ∷ H) a.occ) 0 (length a.changes) t.change t.change t.attempt (omega arith)
    (omega (arith, number, next))
    (λ c other. tried-other H time t a.occ c (other_change t a.occ c other))

pub attempts-begun_other : (H : List Event) (time : ℕ) (t : Tag) (a : Operation) → (t.occ == a.occ) ≡ false
    → map (tried (event time (Intent t) ∷ H) a.occ) (numbers a) ≡ map (tried H a.occ) (numbers a)
attempts-begun_other H time t a other =
    maps_same (tried (event time (Intent t) ∷ H) a.occ) (tried H a.occ) (numbers a)
    (λ c. let no : is_of a.occ c t ≡ false = rw other refl in tried-other H time t a.occ c no)

pub nets-ended : (width m : ℕ) (H : List Event) (time : ℕ) (t : Tag) (outcome : Outcome) (a : Operation) → (t.occ == a.occ) ≡ true
    → IsLegalWithin width m H
    → is_open H t ≡ true → map (net (event time (Settled t outcome) ∷ H) a.occ) (numbers a)
    ≡ nets_after t outcome (map (net H a.occ) (numbers a))
nets-ended width m H time t (Done name) a same legal opened =
    let is : t.occ ≡ a.occ = eqb-true t.occ a.occ same in
    let made : net (event time (Settled t (Done name)) ∷ H) a.occ t.change ≡ net_after t.way =
    subst (λ (o : ℕ). net (event time (Settled t (Done name)) ∷ H) o t.change ≡ net_after t.way) is
    (net-done width m H time t name legal opened) in
    differs (net H a.occ) (net (event time (Settled t (Done name)) ∷ H) a.occ) 0 (length a.changes) t.change t.change (net_after t.way)
    (omega arith) made
    (λ c other. net-other_change H time t (Done name) a.occ c other)
nets-ended width m H time t _ a same legal opened = refl

pub nets-ended_other : (H : List Event) (time : ℕ) (t : Tag) (outcome : Outcome) (a : Operation) → (t.occ == a.occ) ≡ false
    → map (net (event time (Settled t outcome) ∷ H) a.occ) (numbers a) ≡ map (net H a.occ) (numbers a)
nets-ended_other H time t outcome a other =
    maps_same (net (event time (Settled t outcome) ∷ H) a.occ) (net H a.occ) (numbers a) (λ c. net-other_occ H time t outcome a.occ c other)

pub nets-none : (H : List Event) (a : Operation) → IsUntouched H a.occ → map (net H a.occ) (numbers a) ≡ replicate (length a.changes) 0
nets-none H a still =
    all_alike (net H a.occ) 0 (length a.changes) 0
    (λ c. let made = still.none_done Forward c in let undone = still.none_done Undo c in
    less (done_count Forward H a.occ c) (done_count Undo H a.occ c) made undone) where
      less : (x y : ℕ) → x ≡ 0 → y ≡ 0 → x - y ≡ 0
      less x y e f = omega (arith, e, f)

pub attempts-none : (H : List Event) (a : Operation) → IsUntouched H a.occ
    → map (tried H a.occ) (numbers a) ≡ replicate (length a.changes) 0
attempts-none H a still = all_alike (tried H a.occ) 0 (length a.changes) 0 (λ c. ap (λ (ts : List Tag). length ts) (still.attempts c))
