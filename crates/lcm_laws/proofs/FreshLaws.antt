-- The tag of a new attempt was never used.
use Rattle.std.proofs.Common.{◌≡◌, ◌≤◌, ◌+◌, ◌||◌, ℕ, List, ◌∷◌, Bool, true, false, cond, refl, sym, subst, length, arith}
use Rattle.std.specs.List.{list_any}
use Rattle.lcm_events.specs.Same.{same_tag}
use Rattle.lcm_events.proofs.SameLaws.{same_tag-refl, same_tag-true}
use Rattle.lcm_events.specs.declared.attempts.Tag.{Tag}
use Rattle.lcm_events.specs.declared.events.Event.{Event}
use Rattle.lcm_events.specs.declared.events.EventKind.{EventKind}
use Rattle.lcm_events.specs.declared.events.EventKind.TheVariants.{CallFailed, Intent, Settled}
use Rattle.lcm_model.specs.Attempts.{attempts, intents, is_of, is_open, is_settled, is_unsettled, open_tags}
use Rattle.lcm_model.specs.Since.{has_call_failed}
use Rattle.lcm_model.specs.Allowed.{IsAllowedWithin, IsLegalWithin}
use Rattle.lcm_laws.proofs.Histories.{event, legal_induction}
use Rattle.lcm_laws.proofs.Lists.{any_of_filter, by_test, not-false}
use Rattle.lcm_laws.proofs.NetLaws.{is_of-own}

-- the attempt was begun
abbrev pub Known : List Event → Tag → Type 0
Known H t = list_any (same_tag t) (intents H) ≡ true

opened_known : (H : List Event) (t : Tag) → is_open H t ≡ true → Known H t
opened_known H t h = any_of_filter (same_tag t) (is_unsettled H) (intents H) h

or_later : (a b : Bool) → b ≡ true → (a || b) ≡ true
or_later true b e = refl
or_later false b e = e

one_of : {P : Type 0} → (t u : Tag) (b : Bool) → (same_tag t u || b) ≡ true → (t ≡ u → P) → (b ≡ true → P) → P
one_of t u b e f g = by_test (same_tag t u)
    (λ same. f (same_tag-true t u same))
    (λ other. g (subst (λ (x : Bool). (x || b) ≡ true) other e))

abbrev SettledKnown : List Event → Tag → Type 0
SettledKnown H t = is_settled H t ≡ true → Known H t

settled_step : (width m : ℕ) (H : List Event) (time : ℕ) (k : EventKind) (t : Tag) → IsAllowedWithin width m H k → SettledKnown H t
    → SettledKnown (event time k ∷ H) t
settled_step width m H time (Settled u out) t allowed h e =
    one_of t u (is_settled H t) e (λ is. subst (λ (x : Tag). Known H x) (sym is) (opened_known H u allowed)) h
settled_step width m H time (Intent u) t allowed h e = or_later (same_tag t u) (list_any (same_tag t) (intents H)) (h e)
settled_step width m H time _ t allowed h e = h e

-- what has ended was begun
pub settled_known : (width m : ℕ) (H : List Event) → IsLegalWithin width m H → (t : Tag) → is_settled H t ≡ true → Known H t
settled_known width m H legal t =
    legal_induction width m (λ H. SettledKnown H t) (λ e. e) (λ H time k legal allowed h. settled_step width m H time k t allowed h) H legal

abbrev FailedKnown : List Event → Tag → Type 0
FailedKnown H t = has_call_failed H t ≡ true → Known H t

failed_step : (width m : ℕ) (H : List Event) (time : ℕ) (k : EventKind) (t : Tag) → IsAllowedWithin width m H k → FailedKnown H t
    → FailedKnown (event time k ∷ H) t
failed_step width m H time (CallFailed u) t allowed h e =
    one_of t u (has_call_failed H t) e (λ is. subst (λ (x : Tag). Known H x) (sym is) (opened_known H u allowed.0)) h
failed_step width m H time (Intent u) t allowed h e = or_later (same_tag t u) (list_any (same_tag t) (intents H)) (h e)
failed_step width m H time _ t allowed h e = h e

-- a call that failed was of an attempt that was begun
pub failed_known : (width m : ℕ) (H : List Event) → IsLegalWithin width m H → (t : Tag) → has_call_failed H t ≡ true → Known H t
failed_known width m H legal t =
    legal_induction width m (λ H. FailedKnown H t) (λ e. e) (λ H time k legal allowed h. failed_step width m H time k t allowed h) H legal

abbrev NumberedTag : List Event → Tag → Type 0
NumberedTag H t = Known H t → t.attempt ≤ length (attempts H t.occ t.change)

more_attempts : (u : Tag) (b : Bool) (ts : List Tag) (n : ℕ) → n ≤ length ts → n ≤ length (cond b (u ∷ ts) ts)
more_attempts u true ts n h = omega (arith, h)
more_attempts u false ts n h = h

own_attempt : (width m : ℕ) (H : List Event) (time : ℕ) (u : Tag) → IsAllowedWithin width m H (Intent u)
    → u.attempt ≤ length (attempts (event time (Intent u) ∷ H) u.occ u.change)
own_attempt width m H time u allowed = let own : is_of u.occ u.change u ≡ true = is_of-own u in let n = allowed.number in
    rw own (omega (arith, n))

numbered_step : (width m : ℕ) (H : List Event) (time : ℕ) (k : EventKind) (t : Tag) → IsAllowedWithin width m H k → NumberedTag H t
    → NumberedTag (event time k ∷ H) t
numbered_step width m H time (Intent u) t allowed h e =
    one_of t u (list_any (same_tag t) (intents H)) e
    (λ is. subst (λ (x : Tag). x.attempt ≤ length (attempts (event time (Intent u) ∷ H) x.occ x.change)) (sym is)
    (own_attempt width m H time u allowed))
    (λ before. more_attempts u (is_of t.occ t.change u) (attempts H t.occ t.change) t.attempt (h before))
numbered_step width m H time _ t allowed h e = h e

-- attempts are numbered from 1 in each change
pub known_number : (width m : ℕ) (H : List Event) → IsLegalWithin width m H → (t : Tag) → Known H t
    → t.attempt ≤ length (attempts H t.occ t.change)
known_number width m H legal t =
    legal_induction width m (λ H. NumberedTag H t) (λ e. cc) (λ H time k legal allowed h. numbered_step width m H time k t allowed h) H
    legal

-- a tag with the next number has neither ended nor failed
unknown : (width m : ℕ) (H : List Event) → IsLegalWithin width m H → (t : Tag) → t.attempt ≡ length (attempts H t.occ t.change) + 1
    → Known H t → ⊥
unknown width m H legal t e known = let n = known_number width m H legal t known in absurd (omega (arith, e, n))

pub fresh_unsettled : (width m : ℕ) (H : List Event) → IsLegalWithin width m H → (t : Tag)
    → t.attempt ≡ length (attempts H t.occ t.change) + 1 → is_unsettled H t ≡ true
unfolding is_unsettled
fresh_unsettled width m H legal t e =
    not-false (is_settled H t) (by_test (is_settled H t) (λ is. absurd (unknown width m H legal t e (settled_known width m H legal t is)))
    (λ other. other))

pub fresh_unfailed : (width m : ℕ) (H : List Event) → IsLegalWithin width m H → (t : Tag)
    → t.attempt ≡ length (attempts H t.occ t.change) + 1 → has_call_failed H t ≡ false
fresh_unfailed width m H legal t e =
    by_test (has_call_failed H t) (λ is. absurd (unknown width m H legal t e (failed_known width m H legal t is))) (λ other. other)

-- an attempt that begins with the next number is open
pub fresh_open : (width m : ℕ) (H : List Event) (time : ℕ) → IsLegalWithin width m H → (t : Tag)
    → t.attempt ≡ length (attempts H t.occ t.change) + 1
    → is_open (event time (Intent t) ∷ H) t ≡ true
unfolding is_unsettled
fresh_open width m H time legal t e =
    opens (is_unsettled H t) (fresh_unsettled width m H legal t e) where
      opens : (b : Bool) → b ≡ true → list_any (same_tag t) (cond b (t ∷ open_tags H) (open_tags H)) ≡ true
      opens true e = let own : same_tag t t ≡ true = same_tag-refl t in rw own refl
      opens false e = cc
