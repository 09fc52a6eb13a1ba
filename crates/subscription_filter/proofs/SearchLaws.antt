-- A search among sorted names finds what is among them.
use Rattle.std.proofs.Common.{◌≡◌, ℕ, List, [], sym, ap, ◌∙◌, length, get_or, arith, ltb, ltb-true, ltb-false}
use Rattle.std.proofs.lemmas.List.Folds.{list_any_at, list_any_none}
use Rattle.std.proofs.lemmas.List.Sorted.{searchable_from_sorted}
use Rattle.std.specs.Cmp.Lexicographic.{nat_list_cmp_total, nat_list_eq_equiv, slice_cmp, texts_ties}
use Rattle.std.specs.List.{list_any}
use Rattle.std.specs.List.Sorted.{IsBinarySearchResult, IsSearchInRange, IsSorted}
use Rattle.std.specs.Ordering.{is_eq, nat_cmp}
use Rattle.std.specs.Prelude.{Err, Ok, Result, is_ok}
use Rattle.lcm_events.specs.Same.{same_name}
use Rattle.lcm_laws.proofs.Lists.{by_test}

-- names are the same where their order is even
same_by_order : (x y : List ℕ) → same_name x y ≡ is_eq (slice_cmp nat_cmp y x)
same_by_order x y = nat_list_eq_equiv.symm x y ∙ texts_ties y x

pub searched_names : (ns : List (List ℕ)) (x : List ℕ) (r : Result ℕ ℕ) → IsSorted (slice_cmp nat_cmp) ns
    → IsSearchInRange r (length ns) → IsBinarySearchResult (λ y. slice_cmp nat_cmp y x) ns r
    → is_ok r ≡ list_any (same_name x) ns
searched_names ns x (Ok i) sorted within found =
    sym (list_any_at (same_name x) ns i [] within (same_by_order x (get_or ns i []) ∙ ap is_eq (found [])))
searched_names ns x (Err i) sorted within found =
    let parted = found (searchable_from_sorted nat_list_cmp_total (λ n. n) ns x sorted) in
    sym (list_any_none (same_name x) ns (λ k d small. by_test (ltb k i)
    (λ before. same_by_order x (get_or ns k d) ∙ ap is_eq (parted.0 k d (omega arith) (ltb-true k i before)))
    (λ behind. same_by_order x (get_or ns k d) ∙ ap is_eq (parted.1 k d (ltb-false k i behind) small))))
