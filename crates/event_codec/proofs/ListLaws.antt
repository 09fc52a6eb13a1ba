-- How the entries that were read stand in front of those that are still to be read.
use Rattle.std.proofs.Common.{◌≡◌, ℕ, suc, ◌+◌, ◌-◌, ◌<◌, List, [], ◌∷◌, ◌++◌, Option, Some, None, Err, refl, sym, ◌∙◌, ap, append_assoc}
use Rattle.std.proofs.Common.{append-nil, arith}
use Rattle.event_codec.specs.Combinators.{Reader, bind, entries}
use Rattle.event_codec.specs.Gives.{Gives, with_front}
use Rattle.event_codec.specs.declared.fault.DecodeFault.{DecodeFault}
use Rattle.event_codec.specs.declared.fault.DecodeFault.TheVariants.{NotEvent, Memory}

-- no entry in front changes nothing
pub with_front-nil : {A : Type 0} (o : Option (List A × List ℕ)) → with_front [] o ≡ o
with_front-nil None = refl
with_front-nil (Some x) = refl

-- one entry more is read and stands in front
pub with_front-step : {A : Type 0} (at : Reader A) (front : List A) (x : A) (n k : ℕ) (input rest : List ℕ) → n ≡ suc k
    → at input ≡ Some (x, rest)
    → with_front front (entries at n input) ≡ with_front (front ++ x ∷ []) (entries at k rest)
with_front-step {A} at front x n k input rest e is =
    ap (λ m. with_front front (entries at m input)) e
    ∙ (ap (λ (o : Option (A × List ℕ)). with_front front (bind o (λ (u : A × List ℕ).
    bind (entries at k u.1) (λ (xs : List A × List ℕ). Some (u.0 ∷ xs.0, xs.1))))) is
    ∙ onward (entries at k rest)) where
      onward : (o : Option (List A × List ℕ)) → with_front front (bind o (λ (xs : List A × List ℕ). Some (x ∷ xs.0, xs.1)))
          ≡ with_front (front ++ x ∷ []) o
      onward None = refl
      onward (Some xs) = ap (λ t. Some (t, xs.1)) (sym (append_assoc front (x ∷ []) xs.0))

-- where no entry is read, there is none
pub with_front-none : {A : Type 0} (at : Reader A) (front : List A) (n k : ℕ) (input : List ℕ) → n ≡ suc k → at input ≡ None
    → with_front front (entries at n input) ≡ None
with_front-none {A} at front n k input e is =
    ap (λ m. with_front front (entries at m input)) e
    ∙ ap (λ (o : Option (A × List ℕ)). with_front front (bind o (λ (u : A × List ℕ).
    bind (entries at k u.1) (λ (xs : List A × List ℕ). Some (u.0 ∷ xs.0, xs.1))))) is

-- nothing is left to be read
pub with_front-end : {A : Type 0} (at : Reader A) (front : List A) (n : ℕ) (input : List ℕ) → n ≡ 0
    → with_front front (entries at n input) ≡ Some (front, input)
with_front-end at front n input e =
    ap (λ m. with_front front (entries at m input)) e ∙ ap (λ t. Some (t, input)) (append-nil front)

-- what fails as a part fails so as a whole
pub gives-none : {A B : Type 0} (fault : DecodeFault) (rest : List ℕ) (o : Option (A × List ℕ)) (p : Option (B × List ℕ))
    → Gives rest (Err fault) o → (o ≡ None → p ≡ None) → Gives rest (Err fault) p
gives-none NotEvent rest o p h onward = onward h
gives-none Memory rest o p h onward = tt

-- one turn of the loop
pub entry-more : {A : Type 0} (at : Reader A) (items more : List A) (x : A) (count counter : ℕ) (input rest : List ℕ)
    (whole : Option (List A × List ℕ))
    → counter < count → at input ≡ Some (x, rest) → more ≡ items ++ x ∷ [] → with_front items (entries at (count - counter) input) ≡ whole
    → with_front more (entries at (count - (counter + 1)) rest) ≡ whole
entry-more {A} at items more x count counter input rest whole within is kept before =
    let k = count - (counter + 1) in
    ap (λ (t : List A). with_front t (entries at k rest)) kept
    ∙ (sym (with_front-step at items x (count - counter) k input rest (omega arith) is) ∙ before)
