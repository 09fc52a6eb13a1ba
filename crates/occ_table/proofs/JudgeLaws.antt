-- What is allowed of an occurrence, by its row.
use Rattle.std.proofs.Common.{◌≡◌, ◌||◌, ◌&&◌, ◌∙◌, ◌↔◌, ℕ, List, [], ◌∷◌, Bool, true, false, not, Option, None, Some, is_some, refl, ap}
use Rattle.std.proofs.Common.{sym, subst, map, option_map, eq-eqb, find, ◌==◌, inl, inr}
use Rattle.std.specs.List.{list_any}
use Rattle.lcm_events.specs.Same.{same_tag}
use Rattle.lcm_events.proofs.SameLaws.{same_tag-true}
use Rattle.lcm_events.specs.declared.attempts.Tag.{Tag}
use Rattle.lcm_events.specs.declared.events.Event.{Event}
use Rattle.lcm_events.specs.declared.events.Operation.{Operation}
use Rattle.lcm_model.specs.Allowed.{IsLegalWithin}
use Rattle.lcm_model.specs.Attempts.{is_of_occurrence, is_open, open_of, open_tags}
use Rattle.lcm_model.specs.Moves.{is_active, state}
use Rattle.lcm_model.specs.Operations.{operation, operations}
use Rattle.lcm_model.specs.Since.{has_call_failed}
use Rattle.lcm_model.specs.Words.{IsIn}
use Rattle.lcm_laws.proofs.AboutLaws.{unasked_untouched}
use Rattle.lcm_laws.proofs.Lists.{by_test, and_left, and_right, and_true, any_filter, any_of_filter, not-false, not-true}
use Rattle.lcm_laws.proofs.SettledLaws.{found_number}
use Rattle.occ_table.specs.Rows.{occurrence, pending_of, pendings, row}
use Rattle.occ_table.specs.Steps.{has_failed_among, has_open_among}
use Rattle.occ_table.specs.declared.pending.Pending.{Pending}
use Rattle.occ_table.specs.declared.rows.OccRow.{OccRow}
use Rattle.occ_table.proofs.PendingSteps.{any_reverse, known_failed}

from_map : {A B : Type 0} → (f : A → B) (x : Option A) (y : B) → option_map f x ≡ Some y → (a : A) × (x ≡ Some a) × (f a ≡ y)
from_map f None y e = cc
from_map f (Some a) y e = (a, refl, cc)

pub none_of : {A B : Type 0} → (f : A → B) (x : Option A) → option_map f x ≡ None → x ≡ None
none_of f None e = refl
none_of f (Some a) e = cc

-- what is found is in the list
pub found_in : {A : Type 0} → (f : A → ℕ) (xs : List A) (n : ℕ) (a : A) → find (λ x. f x == n) xs ≡ Some a → IsIn a xs
found_in f [] n a e = cc
found_in {A} f (x ∷ xs) n a e = by_test (f x == n)
    (λ same. let is : Some x ≡ Some a = sym (rw same refl) ∙ e in inl (some_same is))
    (λ other. let rest : find (λ x. f x == n) xs ≡ Some a = sym (rw other refl) ∙ e in inr (found_in f xs n a rest)) where
      some_same : {x y : A} → Some x ≡ Some y → x ≡ y
      some_same e = cc

any_map : {A B : Type 0} → (p : B → Bool) (f : A → B) (xs : List A) → list_any p (map f xs) ≡ list_any (λ x. p (f x)) xs
any_map p f [] = refl
any_map p f (x ∷ xs) = ap (λ (b : Bool). p (f x) || b) (any_map p f xs)

same_from_both : (a b : Bool) → (a ≡ true → b ≡ true) → (b ≡ true → a ≡ true) → a ≡ b
same_from_both true b f g = sym (f refl)
same_from_both false true f g = g refl
same_from_both false false f g = refl

-- an attempt is open where it is among the open ones of its occurrence
open_own : (H : List Event) (t : Tag) → list_any (same_tag t) (open_of H t.occ) ≡ is_open H t
open_own H t =
    same_from_both _ _ (any_of_filter (same_tag t) (is_of_occurrence t.occ) (open_tags H))
    (any_filter (same_tag t) (is_of_occurrence t.occ) (open_tags H)
    (λ x same. let is : t ≡ x = same_tag-true t x same in subst (λ (y : Tag). is_of_occurrence t.occ y ≡ true) is
    (eq-eqb t.occ t.occ refl)))

open_pending : (H : List Event) (t : Tag) → has_open_among t (pendings H t.occ) ≡ is_open H t
open_pending H t =
    any_reverse (λ (p : Pending). same_tag t p.tag) (map (pending_of H) (open_of H t.occ))
    ∙ (any_map (λ (p : Pending). same_tag t p.tag) (pending_of H) (open_of H t.occ) ∙ open_own H t)

-- the row of an occurrence that is found
pub found_row : (H : List Event) (n : ℕ) (r : OccRow) → occurrence H n ≡ Some r
    → (a : Operation) × (operation H n ≡ Some a) × (a.occ ≡ n) × (row H a ≡ r)
found_row H n r e =
    let mine = from_map (row H) (operation H n) r e in
    (mine.0, mine.1, found_number (λ x. x.occ) (operations H) n mine.0 mine.1, mine.2)

pub its_pendings : (H : List Event) (n : ℕ) (r : OccRow) → occurrence H n ≡ Some r → pendings H n ≡ r.pending
its_pendings H n r e =
    let mine = found_row H n r e in
    sym (ap (λ (o : ℕ). pendings H o) mine.2) ∙ ap (λ (x : OccRow). x.pending) mine.3

open_row : (H : List Event) (t : Tag) (r : OccRow) → occurrence H t.occ ≡ Some r → has_open_among t r.pending ≡ is_open H t
open_row H t r e = sym (ap (λ (ps : List Pending). has_open_among t ps) (its_pendings H t.occ r e)) ∙ open_pending H t

open_none : (width m : ℕ) (H : List Event) (t : Tag) → IsLegalWithin width m H → occurrence H t.occ ≡ None → is_open H t ≡ false
open_none width m H t legal e =
    let still = unasked_untouched width m H legal t.occ (none_of (row H) (operation H t.occ) e) in
    sym (open_own H t) ∙ ap (λ (ts : List Tag). list_any (same_tag t) ts) still.none_open

pub settle_there : (H : List Event) (t : Tag) (r : OccRow) (answer : Bool) → occurrence H t.occ ≡ Some r
    → answer ≡ has_open_among t r.pending
    → (answer ≡ true) ↔ (is_open H t ≡ true)
settle_there H t r answer e is =
    let same : answer ≡ is_open H t = is ∙ open_row H t r e in
    (λ h. sym same ∙ h, λ h. same ∙ h)

pub settle_none : (width m : ℕ) (H : List Event) (t : Tag) → IsLegalWithin width m H → occurrence H t.occ ≡ None
    → (false ≡ true) ↔ (is_open H t ≡ true)
settle_none width m H t legal e = (λ h. cc, λ h. sym (open_none width m H t legal e) ∙ h)

failed_row : (H : List Event) (t : Tag) (r : OccRow) → occurrence H t.occ ≡ Some r → is_open H t ≡ true
    → has_call_failed H t ≡ has_failed_among t r.pending
failed_row H t r e opened =
    known_failed H t t.occ opened (eq-eqb t.occ t.occ refl) ∙ ap (λ (ps : List Pending). has_failed_among t ps) (its_pendings H t.occ r e)

fail_there : (H : List Event) (t : Tag) (r : OccRow) (begun failed : Bool) → occurrence H t.occ ≡ Some r
    → begun ≡ has_open_among t r.pending
    → failed ≡ has_failed_among t r.pending → ((begun && not failed) ≡ true) ↔ (is_open H t ≡ true) × (has_call_failed H t ≡ false)
fail_there H t r begun failed e is was = (
  λ h.
      let opened : is_open H t ≡ true = sym (is ∙ open_row H t r e) ∙ and_left begun (not failed) h in
      (opened, (failed_row H t r e opened ∙ sym was) ∙ not-true failed (and_right begun (not failed) h)),
  λ h. and_true begun (not failed) ((is ∙ open_row H t r e) ∙ h.0) (not-false failed ((was ∙ sym (failed_row H t r e h.0)) ∙ h.1)),
)

pub fail_none : (width m : ℕ) (H : List Event) (t : Tag) → IsLegalWithin width m H → occurrence H t.occ ≡ None
    → (false ≡ true) ↔ (is_open H t ≡ true) × (has_call_failed H t ≡ false)
fail_none width m H t legal e = (λ h. cc, λ h. sym (open_none width m H t legal e) ∙ h.0)

pub cancel_there : (H : List Event) (n : ℕ) (r : OccRow) (answer : Bool) → occurrence H n ≡ Some r → answer ≡ is_active r.state
    → (answer ≡ true) ↔ (is_some (operation H n) ≡ true) × (is_active (state H n) ≡ true)
cancel_there H n r answer e is =
    let mine = found_row H n r e in
    let at : r.state ≡ state H n = sym (ap (λ (x : OccRow). x.state) mine.3) ∙ ap (λ (o : ℕ). state H o) mine.2 in (
      λ h. (ap (λ (x : Option Operation). is_some x) mine.1, sym (is ∙ ap is_active at) ∙ h),
      λ h. (is ∙ ap is_active at) ∙ h.1,
    )

pub cancel_none : (H : List Event) (n : ℕ) → occurrence H n ≡ None
    → (false ≡ true) ↔ (is_some (operation H n) ≡ true) × (is_active (state H n) ≡ true)
cancel_none H n e =
    let none : operation H n ≡ None = none_of (row H) (operation H n) e in
    (λ h. cc, λ h. sym (ap (λ (x : Option Operation). is_some x) none) ∙ h.0)

pub fail_row : (H : List Event) (t : Tag) (r : OccRow) (answer : Bool) → occurrence H t.occ ≡ Some r
    → answer ≡ (has_open_among t r.pending && not (has_failed_among t r.pending))
    → (answer ≡ true) ↔ (is_open H t ≡ true) × (has_call_failed H t ≡ false)
fail_row H t r answer e is =
    let both = fail_there H t r (has_open_among t r.pending) (has_failed_among t r.pending) e refl refl in
    (λ h. both.0 (sym is ∙ h), λ h. is ∙ both.1 h)
