-- What a list of alternatives admits, by its length and its entries, in whatever order they stand.
use Rattle.std.proofs.Common.{◌≡◌, ℕ, List, [], ◌∷◌, refl, Bool, false, length, ◌==◌, ap, sym, ◌∙◌, arith, suc}
use Rattle.std.proofs.lemmas.Bool.Decides.{nat_tests}
use Rattle.std.proofs.lemmas.List.Sorted.{length_permutation, list_any-IsPermutation}
use Rattle.std.specs.List.{list_any}
use Rattle.std.specs.List.Sorted.{IsPermutation}
use Rattle.std.specs.Prelude.{◌||◌, ◌&&◌}
use Rattle.lcm_events.specs.Same.{same_name, same_state}
use Rattle.lcm_events.specs.declared.filters.Filter.{Filter}
use Rattle.lcm_model.specs.Notices.{NoticeFacts, admits, admits_given, admits_if_given, instance_text, is_type_of}
use Rattle.lcm_model.specs.Notices.{matches, notice_number}
use Rattle.subscription_filter.specs.Parts.{texts_admit, words_admit}

not_empty : (n : ℕ) → (suc n == 0) ≡ false
not_empty n = grind (arith, nat_tests)

-- an empty list asks nothing, another that one of its entries passes
pub admits_by : {A : Type 0} → (xs : List A) (p : A → Bool) → admits xs p ≡ ((length xs == 0) || list_any p xs)
admits_by [] p = refl
admits_by (x ∷ xs) p = sym (ap (λ b. b || list_any p (x ∷ xs)) (not_empty (length xs)))

none_passes : {A : Type 0} → (xs : List A) → list_any (λ x. false) xs ≡ false
none_passes [] = refl
none_passes (x ∷ xs) = none_passes xs

-- what passes nowhere is admitted by an empty list alone
pub admits_none : {A : Type 0} → (xs : List A) → admits xs (λ x. false) ≡ (length xs == 0)
admits_none [] = refl
admits_none (x ∷ xs) = none_passes xs ∙ sym (not_empty (length xs))

-- the order of a list doesn't matter
pub admits_permuted : {A : Type 0} → (xs ys : List A) (p : A → Bool) → IsPermutation xs ys → admits ys p ≡ admits xs p
admits_permuted xs ys p same =
    admits_by ys p ∙ (ap (λ n. (n == 0) || list_any p ys) (length_permutation xs ys same)
    ∙ (ap (λ b. (length xs == 0) || b) (sym (list_any-IsPermutation p xs ys same)) ∙ sym (admits_by xs p)))

in_any_order : (v i n k o s : Bool) → (v && i && n && k && o && s) ≡ ((k && s && o) && (i && v && n))
in_any_order v i n k o s = grind arith

-- a filter lets through what both its halves let through
pub halves_admit : (m : ℕ) (f : Filter) (n : NoticeFacts) → matches m f n ≡ (words_admit f n && texts_admit m f n)
halves_admit m f n =
    in_any_order (admits f.vnfds (same_name n.vnfd)) (admits f.instances (same_name (instance_text m n.instance)))
    (admits_given f.names same_name n.name) (admits f.notices (λ k. notice_number n.which == notice_number k))
    (admits_if_given f.operations is_type_of n.op) (admits_if_given f.states same_state n.state)
