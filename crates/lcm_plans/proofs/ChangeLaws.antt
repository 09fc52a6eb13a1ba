-- Two lists of changes are equal where their entries are the same.
use Rattle.std.proofs.Common.{◌≡◌, List, [], ◌∷◌, refl, Bool, true, false, sym, ◌∙◌, subst, arith, length, ◌&&◌}
use Rattle.std.specs.Cmp.Lexicographic.{pointwise}
use Rattle.std.specs.Prelude.{IsTrue, ◌↔◌}
use Rattle.lcm_events.proofs.SameLaws.{same_change-refl, same_change-true}
use Rattle.lcm_events.specs.Same.{same_change}
use Rattle.lcm_events.specs.declared.changes.Change.{Change}
use Rattle.lcm_model.proofs.ListLaws.{and_back, and_both, and_front}

true_not_false : true ≡ false → ⊥
true_not_false e = cc

and_false : (a b : Bool) → b ≡ false → (a && b) ≡ false
and_false true b e = e
and_false false b e = refl

-- lists of other lengths aren't the same
pub other_length : (a b : List Change) → (length a ≡ length b → ⊥) → pointwise same_change a b ≡ false
other_length [] [] h = absurd (h refl)
other_length [] (y ∷ b) h = refl
other_length (x ∷ a) [] h = refl
other_length (x ∷ a) (y ∷ b) h = and_false (same_change x y) (pointwise same_change a b) (other_length a b (λ e. h (omega (arith, e))))

cons_same : (x y : Change) (xs ys : List Change) → x ≡ y → xs ≡ ys → x ∷ xs ≡ y ∷ ys
cons_same x y xs ys e f = cc

same_entries : (a b : List Change) → pointwise same_change a b ≡ true → a ≡ b
same_entries [] [] h = refl
same_entries [] (y ∷ b) h = absurd (true_not_false (sym h))
same_entries (x ∷ a) [] h = absurd (true_not_false (sym h))
same_entries (x ∷ a) (y ∷ b) h =
    cons_same x y a b (same_change-true x y (and_front (same_change x y) (pointwise same_change a b) h))
    (same_entries a b (and_back (same_change x y) (pointwise same_change a b) h))

same_itself : (a : List Change) → pointwise same_change a a ≡ true
same_itself [] = refl
same_itself (x ∷ a) = and_both (same_change x x) (pointwise same_change a a) (same_change-refl x) (same_itself a)

-- an answer that says whether the entries are the same says whether the lists are equal
pub same_changes : (r : Bool) (a b : List Change) → r ≡ pointwise same_change a b → IsTrue r ↔ (a ≡ b)
same_changes true a b e = (λ h. same_entries a b (sym e), λ f. refl)
same_changes false a b e = (
  λ h. absurd (true_not_false (sym h)),
  λ f. absurd (true_not_false (sym (subst (λ (ys : List Change). pointwise same_change a ys ≡ true) f (same_itself a)) ∙ sym e)),
)
