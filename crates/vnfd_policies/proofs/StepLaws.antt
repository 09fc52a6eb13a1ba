-- Steps that are the same, however often each stands, are refused alike.
use Rattle.std.proofs.Common.{◌≡◌, ◌&&◌, ◌||◌, ◌++◌, ℕ, List, [], ◌∷◌, length, map, Bool, true, false, cond, Option, Some, None, nat_eq}
use Rattle.std.proofs.Common.{codes, refl, ap, sym, ◌∙◌, suc, subst, Bor}
use Rattle.std.proofs.lemmas.Slice.Eq.{bytes_eq-Decides}
use Rattle.std.specs.List.{list_all, list_any}
use Rattle.std.specs.Prelude.{is_some}
use Rattle.std.specs.Str.{bytes_eq}
use Rattle.serde_json.specs.Data.{Data, null, boolean, number, string, array, object}
use Rattle.serde_json.specs.View.{view}
use Rattle.serde_json.specs.declared.value.Value.{Value}
use Rattle.vnfd_document.specs.Json.{Named}
use Rattle.vnfd_document.specs.Members.{needed}
use Rattle.vnfd_document.specs.declared.fault.VnfdFault.{VnfdFault}
use Rattle.vnfd_document.specs.declared.fault.VnfdFault.TheVariants.{Lacks, Wrong}
use Rattle.vnfd_policies.specs.Deltas.{AreSameSteps, are_same_text, deltas_for, deltas_refusal, step_delta}

-- a list of values has an entry for each
pub count_seen : (names : List (Bor Value)) → length (map (λ v. view v.now) names) ≡ length names
count_seen [] = refl
count_seen (name ∷ names) = ap suc (count_seen names)

-- what holds of all and of one more
pub added : (test : Data → Bool) (xs : List Data) (y : Data) → list_all test (xs ++ y ∷ []) ≡ (list_all test xs && test y)
added test [] y = one (test y) where
  one : (b : Bool) → (b && true) ≡ b
  one true = refl
  one false = refl
added test (x ∷ xs) y = ap (λ (b : Bool). test x && b) (added test xs y) ∙ sym (and_assoc (test x) (list_all test xs) (test y)) where
  and_assoc : (a b c : Bool) → ((a && b) && c) ≡ (a && (b && c))
  and_assoc true b c = refl
  and_assoc false b c = refl

-- values that are the same text are the same
same_text : (a b : Data) → are_same_text a b ≡ true → a ≡ b
same_text (string s) (string t) h = ap string ((bytes_eq-Decides s t).0 h)
same_text (string s) null h = let no : ⊥ = cc in absurd no
same_text (string s) (boolean b) h = let no : ⊥ = cc in absurd no
same_text (string s) (number n) h = let no : ⊥ = cc in absurd no
same_text (string s) (array ds) h = let no : ⊥ = cc in absurd no
same_text (string s) (object ms) h = let no : ⊥ = cc in absurd no
same_text null b h = let no : ⊥ = cc in absurd no
same_text (boolean x) b h = let no : ⊥ = cc in absurd no
same_text (number n) b h = let no : ⊥ = cc in absurd no
same_text (array ds) b h = let no : ⊥ = cc in absurd no
same_text (object ms) b h = let no : ⊥ = cc in absurd no

twice : (a b : Bool) → (a && b) ≡ ((a && b) && a)
twice true true = refl
twice true false = refl
twice false b = refl

further : (a b c : Bool) → b ≡ (b && c) → (a && b) ≡ ((a && b) && c)
further true b c h = h
further false b c h = refl

absorbed_if : (test : Data → Bool) (x y : Data) (b : Bool) (ys : List Data) → are_same_text y x ≡ b
    → (b || list_any (are_same_text y) ys) ≡ true
    → (list_any (are_same_text y) ys ≡ true → list_all test ys ≡ (list_all test ys && test y))
    → (test x && list_all test ys) ≡ ((test x && list_all test ys) && test y)
absorbed_if test x y true ys same h rest =
    subst (λ (z : Data). (test x && list_all test ys) ≡ ((test x && list_all test ys) && test z)) (sym (same_text y x same))
    (twice (test x) (list_all test ys))
absorbed_if test x y false ys same h rest = further (test x) (list_all test ys) (test y) (rest h)

-- what is there already adds nothing
pub absorbed : (test : Data → Bool) (xs : List Data) (y : Data) → list_any (are_same_text y) xs ≡ true
    → list_all test xs ≡ (list_all test xs && test y)
absorbed test [] y h = let no : ⊥ = cc in absurd no
absorbed test (x ∷ xs) y h = absorbed_if test x y (are_same_text y x) xs refl h (absorbed test xs y)

-- no steps are no steps
pub no_steps : AreSameSteps [] []
no_steps = record { all = λ test. refl; none = refl }

-- the deltas of a policy are refused alike
pub same_refusal : (xs ys : List Data) → AreSameSteps xs ys → (deltas : Option Data) → deltas_refusal xs deltas ≡ deltas_refusal ys deltas
same_refusal xs ys same None = ap (λ (b : Bool). cond b None (Some (Lacks (codes "deltas")))) same.none
same_refusal xs ys same (Some d) =
    let one = λ (b c : Bool). cond b None (cond (is_some (cond c (Some d) None)) None (Some (Wrong (codes "deltas")))) in
    ap (λ (b : Bool). one b (list_all (λ s. is_some (step_delta d s)) xs)) same.none
    ∙ ap (one (nat_eq (length ys) 0)) (same.all (λ s. is_some (step_delta d s)))
