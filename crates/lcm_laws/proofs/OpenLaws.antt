-- The open attempts of an occurrence, event by event.
use Rattle.std.proofs.Common.{◌≡◌, ◌≤◌, ◌<◌, ◌==◌, ◌∙◌, ℕ, List, [], ◌∷◌, Bool, true, false, cond, None, refl, ap, sym, subst, length}
use Rattle.std.proofs.Common.{filter, arith, eqb-true, if◌then◌else◌}
use Rattle.std.specs.List.{list_any}
use Rattle.lcm_events.specs.Same.{same_tag}
use Rattle.lcm_events.proofs.SameLaws.{same_tag-true}
use Rattle.lcm_events.specs.declared.attempts.Outcome.{Outcome}
use Rattle.lcm_events.specs.declared.attempts.Tag.{Tag}
use Rattle.lcm_events.specs.declared.events.Event.{Event}
use Rattle.lcm_events.specs.declared.events.EventKind.{EventKind}
use Rattle.lcm_events.specs.declared.events.EventKind.TheVariants.{Intent, Settled}
use Rattle.lcm_model.specs.Attempts.{intent_in, intents, is_of_occurrence, is_open, is_settled, is_unsettled, open_of, open_tags}
use Rattle.lcm_model.specs.Attempts.{settled_in}
use Rattle.lcm_model.specs.Allowed.{IsAllowedWithin, IsLegalWithin}
use Rattle.lcm_laws.proofs.Histories.{event, legal_induction}
use Rattle.lcm_laws.proofs.Lists.{by_test, filter_swap, not-true}
use Rattle.lcm_laws.proofs.FreshLaws.{fresh_unsettled}
use Rattle.lcm_laws.proofs.NetLaws.{another, open_tags-settled}

passing : (p : Tag → Bool) (t : Tag) (ts : List Tag) → list_any (same_tag t) (filter p ts) ≡ true → p t ≡ true
passing p t [] e = cc
passing p t (x ∷ ts) e = by_test (p x)
    (λ passes.
    let here : list_any (same_tag t) (x ∷ filter p ts) ≡ true = subst
    (λ (b : Bool). list_any (same_tag t) (cond b (x ∷ filter p ts) (filter p ts)) ≡ true) passes e in
    by_test (same_tag t x)
    (λ same. let is : t ≡ x = same_tag-true t x same in rw is passes)
    (λ other. passing p t ts (rw other at here)))
    (λ fails. passing p t ts (subst (λ (b : Bool). list_any (same_tag t) (cond b (x ∷ filter p ts) (filter p ts)) ≡ true) fails e))

-- an open attempt hasn't ended
pub open_unsettled : (H : List Event) (t : Tag) → is_open H t ≡ true → is_settled H t ≡ false
unfolding is_unsettled
open_unsettled H t opened = not-true (is_settled H t) (passing (is_unsettled H) t (intents H) opened)

-- an attempt that begins is open
pub open_of-begun : (width m : ℕ) (H : List Event) (time : ℕ) (t : Tag) → IsLegalWithin width m H → IsAllowedWithin width m H (Intent t)
    → (o : ℕ) → open_of (event time (Intent t) ∷ H) o ≡ (if t.occ == o then t ∷ open_of H o else open_of H o)
unfolding is_unsettled
open_of-begun width m H time t legal allowed o =
    let fresh : is_unsettled H t ≡ true = fresh_unsettled width m H legal t allowed.number in
    rw fresh refl

-- an attempt that ended isn't open
pub open_of-ended : (H : List Event) (time : ℕ) (t : Tag) (outcome : Outcome) (o : ℕ)
    → open_of (event time (Settled t outcome) ∷ H) o ≡ filter (another t) (open_of H o)
open_of-ended H time t outcome o =
    ap (λ (ts : List Tag). filter (is_of_occurrence o) ts) (open_tags-settled H time t outcome)
    ∙ filter_swap (is_of_occurrence o) (another t) (open_tags H)

-- other events leave the open attempts
pub open_of-other : (H : List Event) (time : ℕ) (k : EventKind) → intent_in k ≡ None → settled_in k ≡ None
    → (o : ℕ) → open_of (event time k ∷ H) o ≡ open_of H o
unfolding is_unsettled
open_of-other H time (Intent t) e f o = cc
open_of-other H time (Settled t outcome) e f o = cc
open_of-other H time _ e f o = refl

fewer : {A : Type 0} → (p : A → Bool) (xs : List A) → length (filter p xs) ≤ length xs
fewer p [] = omega arith
fewer p (x ∷ xs) = by_test (p x)
    (λ passes. let rest = fewer p xs in rw passes (omega (arith, rest)))
    (λ fails. let rest = fewer p xs in rw fails (omega (arith, rest)))

begun_few : (b : Bool) (t : Tag) (ts : List Tag) (n : ℕ) → (b ≡ true → length ts < n) → length ts ≤ n
    → length (if b then t ∷ ts else ts) ≤ n
begun_few true t ts n room h = let more = room refl in omega (arith, more)
begun_few false t ts n room h = h

window_step : (width m : ℕ) (H : List Event) (time : ℕ) (k : EventKind) (o : ℕ) → IsLegalWithin width m H → IsAllowedWithin width m H k
    → length (open_of H o) ≤ width → length (open_of (event time k ∷ H) o) ≤ width
unfolding is_unsettled
window_step width m H time (Intent t) o legal allowed h =
    let is = open_of-begun width m H time t legal allowed o in
    subst (λ (ts : List Tag). length ts ≤ width) (sym is)
    (begun_few (t.occ == o) t (open_of H o) width
    (λ same. subst (λ (n : ℕ). length (open_of H n) < width) (eqb-true t.occ o same) allowed.room) h)
window_step width m H time (Settled t outcome) o legal allowed h =
    let less = fewer (another t) (open_of H o) in
    let is = ap (λ (ts : List Tag). length ts) (open_of-ended H time t outcome o) in
    omega (arith, is, less, h)
window_step width m H time _ o legal allowed h = h

-- no more attempts of an occurrence are open than may be
pub open_few : (width m : ℕ) (H : List Event) → IsLegalWithin width m H → (o : ℕ) → length (open_of H o) ≤ width
open_few width m H legal o =
    legal_induction width m (λ H. length (open_of H o) ≤ width) (omega arith)
    (λ H time k legal allowed h. window_step width m H time k o legal allowed h) H legal
