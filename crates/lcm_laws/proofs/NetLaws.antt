-- Each net is 0 or 1, and fits the open attempt of its change.
use Rattle.std.proofs.Common.{◌≡◌, ◌≤◌, ◌+◌, ◌-◌, ◌==◌, ◌&&◌, ◌||◌, ◌∙◌, ℕ, List, [], ◌∷◌, Bool, true, false, cond, not, Option, None, Some}
use Rattle.std.proofs.Common.{refl, ap, sym, length, filter, arith, eqb-true, subst, suc}
use Rattle.std.specs.List.{list_any}
use Rattle.lcm_events.specs.Same.{same_tag, same_way}
use Rattle.lcm_events.proofs.SameLaws.{eq-refl, same_tag-refl, same_tag-true}
use Rattle.lcm_events.specs.declared.attempts.Outcome.{Outcome}
use Rattle.lcm_events.specs.declared.attempts.Outcome.TheVariants.{Done}
use Rattle.lcm_events.specs.declared.attempts.Tag.{Tag}
use Rattle.lcm_events.specs.declared.attempts.Way.{Way}
use Rattle.lcm_events.specs.declared.attempts.Way.TheVariants.{Forward, Undo}
use Rattle.lcm_events.specs.declared.changes.Change.{Change}
use Rattle.lcm_events.specs.declared.events.Event.{Event}
use Rattle.lcm_events.specs.declared.events.EventKind.{EventKind}
use Rattle.lcm_events.specs.declared.events.EventKind.TheVariants.{Intent, Settled}
use Rattle.lcm_model.specs.Attempts.{done, done_count, intents, is_of, is_open, is_settled, is_unsettled, net, open_attempts, open_tags}
use Rattle.lcm_model.specs.Operations.{change_of}
use Rattle.lcm_model.specs.Work.{IsTurnOf, net_before}
use Rattle.lcm_model.specs.Allowed.{IsAllowedWithin, IsLegalWithin}
use Rattle.lcm_laws.specs.Nets.{IsMadeAtMostOnce}
use Rattle.lcm_laws.proofs.Histories.{event, legal_induction}
use Rattle.lcm_laws.proofs.Lists.{by_test, any_filter, filter_both, filter_same, filter_swap, and_left, and_right, and_true, not-false}

-- the open attempts of a change fit how often it was made and undone
abbrev pub Fits : List Tag → ℕ → ℕ → Type 0
Fits [] made undone = (undone ≤ made) × (made ≤ undone + 1)
Fits (t ∷ []) made undone = made ≡ undone + net_before t.way
Fits (t ∷ u ∷ ts) made undone = ⊥

abbrev pub FitsAfter : List Event → ℕ → ℕ → Type 0
FitsAfter H o c = Fits (open_attempts H o c) (done_count Forward H o c) (done_count Undo H o c)

-- an attempt that ends
abbrev pub another : Tag → Tag → Bool
another t x = not (same_tag x t)

settled_filter : (b c : Bool) → not (b || c) ≡ (not b && not c)
settled_filter true c = refl
settled_filter false c = refl

-- the open attempts after one has ended are the others
pub open_tags-settled : (H : List Event) (time : ℕ) (t : Tag) (out : Outcome)
    → open_tags (event time (Settled t out) ∷ H) ≡ filter (another t) (open_tags H)
unfolding is_unsettled
open_tags-settled H time t out =
    filter_both (another t) (is_unsettled H) (is_unsettled (event time (Settled t out) ∷ H)) (intents H)
    (λ x. settled_filter (same_tag x t) (is_settled H x))

pub open_attempts-settled : (H : List Event) (time : ℕ) (t : Tag) (out : Outcome) (o c : ℕ)
    → open_attempts (event time (Settled t out) ∷ H) o c ≡ filter (another t) (open_attempts H o c)
open_attempts-settled H time t out o c =
    ap (λ (ts : List Tag). filter (is_of o c) ts) (open_tags-settled H time t out) ∙ filter_swap (is_of o c) (another t) (open_tags H)

another-false : (t x : Tag) (p : Tag → Bool) → p t ≡ false → p x ≡ true → another t x ≡ true
another-false t x p fails holds = not-false (same_tag x t) (by_test (same_tag x t)
    (λ same. let is : x ≡ t = same_tag-true x t same in let both : p t ≡ true = subst (λ (y : Tag). p y ≡ true) is holds in cc)
    (λ other. other))

-- the attempts of another change stay open
pub open_attempts-other : (H : List Event) (time : ℕ) (t : Tag) (out : Outcome) (o c : ℕ) → is_of o c t ≡ false
    → open_attempts (event time (Settled t out) ∷ H) o c ≡ open_attempts H o c
open_attempts-other H time t out o c fails =
    open_attempts-settled H time t out o c ∙ filter_same (is_of o c) (another t) (open_tags H)
    (λ x holds. another-false t x (is_of o c) fails holds)

-- nothing of another change is done
pub done_count-other : (way : Way) (H : List Event) (time : ℕ) (t : Tag) (out : Outcome) (o c : ℕ) → is_of o c t ≡ false
    → done_count way (event time (Settled t out) ∷ H) o c ≡ done_count way H o c
done_count-other way H time t (Done name) o c fails = rw fails refl
done_count-other way H time t _ o c fails = refl

counted : (t : Tag) (b : Bool) (ts : List Tag) → length (cond b (t ∷ ts) ts) ≡ cond b (suc (length ts)) (length ts)
counted t true ts = refl
counted t false ts = refl

-- one more of its change is done
pub done_count-done : (way : Way) (H : List Event) (time : ℕ) (t : Tag) (name : List ℕ) (o c : ℕ) → is_of o c t ≡ true
    → done_count way (event time (Settled t (Done name)) ∷ H) o c ≡ cond (same_way way t.way) (suc (done_count way H o c))
    (done_count way H o c)
done_count-done way H time t name o c holds =
    rw holds (counted t (same_way way t.way) (filter (λ t. is_of o c t && same_way way t.way) (done H)))

fits_done : (w : Way) (made undone made' undone' : ℕ) → made ≡ undone + net_before w
    → made' ≡ cond (same_way Forward w) (suc made) made → undone' ≡ cond (same_way Undo w) (suc undone) undone → Fits [] made' undone'
fits_done Forward made undone made' undone' h e f = (omega (arith, h, e, f), omega (arith, h, e, f))
fits_done Undo made undone made' undone' h e f = (omega (arith, h, e, f), omega (arith, h, e, f))

fits_still : (w : Way) (made undone : ℕ) → made ≡ undone + net_before w → Fits [] made undone
fits_still Forward made undone h = (omega (arith, h), omega (arith, h))
fits_still Undo made undone h = (omega (arith, h), omega (arith, h))

-- how a change stands once its open attempt has ended
fits_ended : (H : List Event) (time : ℕ) (t : Tag) (out : Outcome) (o c : ℕ) → is_of o c t ≡ true
    → done_count Forward H o c ≡ done_count Undo H o c + net_before t.way
    → Fits [] (done_count Forward (event time (Settled t out) ∷ H) o c) (done_count Undo (event time (Settled t out) ∷ H) o c)
fits_ended H time t (Done name) o c holds h =
    fits_done t.way (done_count Forward H o c) (done_count Undo H o c) _ _ h
    (done_count-done Forward H time t name o c holds) (done_count-done Undo H time t name o c holds)
fits_ended H time t _ o c holds h = fits_still t.way (done_count Forward H o c) (done_count Undo H o c) h

-- an open attempt is the one of its change
pub sole : (ts : List Tag) (t : Tag) (made undone : ℕ) → Fits ts made undone → list_any (same_tag t) ts ≡ true
    → (filter (another t) ts ≡ []) × (made ≡ undone + net_before t.way)
sole [] t made undone h e = cc
sole (x ∷ []) t made undone h e = by_test (same_tag t x)
    (λ same.
    let is : t ≡ x = same_tag-true t x same in
    let back : same_tag x t ≡ true = subst (λ (y : Tag). same_tag y t ≡ true) is (same_tag-refl t) in
    (rw back refl, subst (λ (y : Tag). made ≡ undone + net_before y.way) (sym is) h))
    (λ other. let fails : false ≡ true = rw other at e in cc)
sole (x ∷ y ∷ ts) t made undone h e = absurd h

pub is_of-own : (t : Tag) → is_of t.occ t.change t ≡ true
is_of-own t = and_true (t.occ == t.occ) (t.change == t.change) (eq-refl t.occ) (eq-refl t.change)

-- an open attempt is among those of its change
pub open_own : (H : List Event) (t : Tag) → is_open H t ≡ true → list_any (same_tag t) (open_attempts H t.occ t.change) ≡ true
open_own H t h =
    any_filter (same_tag t) (is_of t.occ t.change) (open_tags H)
    (λ x same. let is : t ≡ x = same_tag-true t x same in subst (λ (y : Tag). is_of t.occ t.change y ≡ true) is (is_of-own t)) h

pub is_of-occ : (o c : ℕ) (t : Tag) → is_of o c t ≡ true → t.occ ≡ o
is_of-occ o c t h = eqb-true t.occ o (and_left (t.occ == o) (t.change == c) h)

pub is_of-change : (o c : ℕ) (t : Tag) → is_of o c t ≡ true → t.change ≡ c
is_of-change o c t h = eqb-true t.change c (and_right (t.occ == o) (t.change == c) h)

-- what is said of the change of a tag, said of its numbers
pub at_own : (P : ℕ → ℕ → Type 0) (o c : ℕ) (t : Tag) → is_of o c t ≡ true → P t.occ t.change → P o c
at_own P o c t holds h =
    let at_o : P o t.change = subst (λ (n : ℕ). P n t.change) (is_of-occ o c t holds) h in
    subst (λ (n : ℕ). P o n) (is_of-change o c t holds) at_o

fits_settled : (H : List Event) (time : ℕ) (t : Tag) (out : Outcome) (o c : ℕ) → is_open H t ≡ true → FitsAfter H o c
    → FitsAfter (event time (Settled t out) ∷ H) o c
fits_settled H time t out o c opened h = by_test (is_of o c t)
    (λ holds.
    let among : list_any (same_tag t) (open_attempts H o c) ≡ true =
    at_own (λ o c. list_any (same_tag t) (open_attempts H o c) ≡ true) o c t holds (open_own H t opened) in
    let only : (filter (another t) (open_attempts H o c) ≡ []) × (done_count Forward H o c ≡ done_count Undo H o c + net_before t.way) =
    sole (open_attempts H o c) t (done_count Forward H o c) (done_count Undo H o c) h among in
    subst (λ (ts : List Tag). Fits ts (done_count Forward (event time (Settled t out) ∷ H) o c)
    (done_count Undo (event time (Settled t out) ∷ H) o c))
    (sym (open_attempts-settled H time t out o c ∙ only.0))
    (fits_ended H time t out o c holds only.1))
    (λ fails. rw (
      open_attempts-other H time t out o c fails,
      done_count-other Forward H time t out o c fails,
      done_count-other Undo H time t out o c fails,
    ) h)

turn_net : (H : List Event) (t : Tag) (x : Option Change) → IsTurnOf H t x → net H t.occ t.change ≡ net_before t.way
turn_net H t None h = absurd h
turn_net H t (Some x) h = h.0

began : (w : Way) (made undone : ℕ) → undone ≤ made → made - undone ≡ net_before w → made ≡ undone + net_before w
began Forward made undone h e = omega (arith, h, e)
began Undo made undone h e = omega (arith, h, e)

fits_begun : (t : Tag) (b : Bool) (made undone : ℕ) → Fits [] made undone → made - undone ≡ net_before t.way
    → Fits (cond b (t ∷ []) []) made undone
fits_begun t true made undone h e = began t.way made undone h.0 e
fits_begun t false made undone h e = h

filter_cond : {A : Type 0} → (p : A → Bool) (x : A) (b : Bool) (xs : List A) → p x ≡ true → filter p xs ≡ []
    → filter p (cond b (x ∷ xs) xs) ≡ cond b (x ∷ []) []
filter_cond p x true xs e none = rw (e, none) refl
filter_cond p x false xs e none = none

pub filter_cond_other : {A : Type 0} → (p : A → Bool) (x : A) (b : Bool) (xs : List A) → p x ≡ false
    → filter p (cond b (x ∷ xs) xs) ≡ filter p xs
filter_cond_other p x true xs e = rw e refl
filter_cond_other p x false xs e = refl

fits_intent : (width m : ℕ) (H : List Event) (time : ℕ) (t : Tag) (o c : ℕ) → IsAllowedWithin width m H (Intent t) → FitsAfter H o c
    → FitsAfter (event time (Intent t) ∷ H) o c
unfolding is_unsettled
fits_intent width m H time t o c allowed h = by_test (is_of o c t)
    (λ holds.
    let none : open_attempts H o c ≡ [] = at_own (λ o c. open_attempts H o c ≡ []) o c t holds allowed.none_open in
    let before : net H o c ≡ net_before t.way = at_own (λ o c. net H o c ≡ net_before t.way) o c t holds
    (turn_net H t (change_of H t) allowed.turn) in
    let empty : Fits [] (done_count Forward H o c) (done_count Undo H o c) =
    subst (λ (ts : List Tag). Fits ts (done_count Forward H o c) (done_count Undo H o c)) none h in
    subst (λ (ts : List Tag). Fits ts (done_count Forward H o c) (done_count Undo H o c))
    (sym (filter_cond (is_of o c) t (is_unsettled H t) (open_tags H) holds none))
    (fits_begun t (is_unsettled H t) (done_count Forward H o c) (done_count Undo H o c) empty before))
    (λ fails.
    subst (λ (ts : List Tag). Fits ts (done_count Forward H o c) (done_count Undo H o c))
    (sym (filter_cond_other (is_of o c) t (is_unsettled H t) (open_tags H) fails)) h)

fits_step : (width m : ℕ) (H : List Event) (time : ℕ) (k : EventKind) (o c : ℕ) → IsAllowedWithin width m H k → FitsAfter H o c
    → FitsAfter (event time k ∷ H) o c
unfolding is_unsettled
fits_step width m H time (Intent t) o c allowed h = fits_intent width m H time t o c allowed h
fits_step width m H time (Settled t out) o c allowed h = fits_settled H time t out o c allowed h
fits_step width m H time _ o c allowed h = h

-- the open attempts of each change fit its counts
pub fits : (width m : ℕ) (H : List Event) → IsLegalWithin width m H → (o c : ℕ) → FitsAfter H o c
fits width m H legal o c =
    legal_induction width m (λ H. FitsAfter H o c) (omega arith, omega arith)
    (λ H t k legal allowed h. fits_step width m H t k o c allowed h) H legal

fits_one : (w : Way) (made undone : ℕ) → made ≡ undone + net_before w → (undone ≤ made) × (made ≤ undone + 1)
fits_one w made undone h = fits_still w made undone h

fits_bounds : (ts : List Tag) (made undone : ℕ) → Fits ts made undone → (undone ≤ made) × (made ≤ undone + 1)
fits_bounds [] made undone h = h
fits_bounds (t ∷ []) made undone h = fits_one t.way made undone h
fits_bounds (t ∷ u ∷ ts) made undone h = absurd h

-- each net is 0 or 1
pub made_at_most_once : (width m : ℕ) (H : List Event) → IsLegalWithin width m H → (o c : ℕ) → IsMadeAtMostOnce H o c
made_at_most_once width m H legal o c =
    let bounds : (done_count Undo H o c ≤ done_count Forward H o c) × (done_count Forward H o c ≤ done_count Undo H o c + 1) =
    fits_bounds (open_attempts H o c) (done_count Forward H o c) (done_count Undo H o c) (fits width m H legal o c) in
    record { net = less (done_count Forward H o c) (done_count Undo H o c) bounds.1; undone = bounds.0 } where
      less : (a b : ℕ) → a ≤ b + 1 → a - b ≤ 1
      less a b h = omega (arith, h)

fits_few : (ts : List Tag) (made undone : ℕ) → Fits ts made undone → length ts ≤ 1
fits_few [] made undone h = omega arith
fits_few (t ∷ []) made undone h = omega arith
fits_few (t ∷ u ∷ ts) made undone h = absurd h

-- a change has at most one open attempt
pub one_open : (width m : ℕ) (H : List Event) → IsLegalWithin width m H → (o c : ℕ) → length (open_attempts H o c) ≤ 1
one_open width m H legal o c = fits_few (open_attempts H o c) (done_count Forward H o c) (done_count Undo H o c) (fits width m H legal o c)

difference : (a b n : ℕ) → a ≡ b + n → a - b ≡ n
difference a b n h = omega (arith, h)

-- an open attempt fits the net of its change
pub open_fits : (width m : ℕ) (H : List Event) → IsLegalWithin width m H → (t : Tag) → is_open H t ≡ true
    → net H t.occ t.change ≡ net_before t.way
open_fits width m H legal t opened =
    difference (done_count Forward H t.occ t.change) (done_count Undo H t.occ t.change) (net_before t.way)
    (sole (open_attempts H t.occ t.change) t _ _ (fits width m H legal t.occ t.change) (open_own H t opened)).1
