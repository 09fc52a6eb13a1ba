-- What an identifier that was read names.
use Rattle.std.proofs.Common.{◌≡◌, ◌≢◌, ◌==◌, ◌∙◌, ℕ, Bool, true, false, List, [], ◌∷◌, Option, Some, None, ap, refl, sym, inl, inr, ◌⊎◌}
use Rattle.std.proofs.Common.{IfSome}
use Rattle.std.specs.Prelude.{Decides, find, unwrap_or}
use Rattle.std.specs.List.{AllByRecursion}
use Rattle.std.specs.Str.{bytes_eq}
use Rattle.std.proofs.lemmas.Bool.Decides.{eqb_tells}
use Rattle.std.proofs.lemmas.Option.{none-some}
use Rattle.std.proofs.lemmas.Slice.Eq.{bytes_eq-Decides}
use Rattle.vnfm_base.specs.Ident.{IsIdentNumber, ident, ident_text}
use Rattle.vnfm_base.specs.declared.identifier.Kind.{Kind}

-- tests that agree on each entry find the same one
pub find_same : {A : Type 0} (p q : A → Bool) (xs : List A) → AllByRecursion (λ x. p x ≡ q x) xs → find p xs ≡ find q xs
find_same p q [] h = refl
find_same p q (x ∷ xs) h = rw (h.0, find_same p q xs h.1) refl

-- nothing is found where no entry passes
pub find_none : {A : Type 0} (p : A → Bool) (xs : List A) → AllByRecursion (λ x. p x ≡ false) xs → find p xs ≡ None
find_none p [] h = refl
find_none p (x ∷ xs) h = rw h.0 (find_none p xs h.1)

of_not : (b : Bool) → (b ≡ true → ⊥) → b ≡ false
of_not true h = absurd (h refl)
of_not false h = refl

-- the identifier of this kind is read: of numbers that identifiers carry it is that of this one, where it was found, and of no other
pub record IsReading (kind : Kind) (m : ℕ) (id : List ℕ) (found : Option ℕ) : Type 0 where
  pub has : IfSome found (λ n. IsIdentNumber n × (id ≡ ident_text (ident m kind n)))
  pub only : (n : ℕ) → IsIdentNumber n → id ≡ ident_text (ident m kind n) → found ≡ Some n

-- what has a number of the kind has the identifier that was read exactly where that is its number
pub agrees : (kind : Kind) (m n k : ℕ) (id : List ℕ) → IsReading kind m id (Some n) → IsIdentNumber k
    → bytes_eq (ident_text (ident m kind k)) id ≡ (k == n)
agrees kind m n k id reading small = of (eqb_tells k n) (bytes_eq-Decides (ident_text (ident m kind k)) id) where
  of : (((k == n) ≡ true) × (k ≡ n)) ⊎ (((k == n) ≡ false) × (k ≢ n))
      → Decides (bytes_eq (ident_text (ident m kind k)) id) (ident_text (ident m kind k) ≡ id)
      → bytes_eq (ident_text (ident m kind k)) id ≡ (k == n)
  of (inl (same, is)) d = d.1 (ap (λ j. ident_text (ident m kind j)) is ∙ sym reading.has.1) ∙ sym same
  of (inr (other, isnt)) d = of_not _ (λ e. isnt (sym (ap (λ found. unwrap_or found 0) (reading.only k small (sym (d.0 e)))))) ∙ sym other

-- nothing has an identifier that names none
pub differs : (kind : Kind) (m k : ℕ) (id : List ℕ) → IsReading kind m id None → IsIdentNumber k
    → bytes_eq (ident_text (ident m kind k)) id ≡ false
differs kind m k id reading small = of_not _ (λ e. none-some k (reading.only k small
    (sym ((bytes_eq-Decides (ident_text (ident m kind k)) id).0 e))))
