use Rattle.std.proofs.Common.{List, rules, of_calls, subst, sym, ap, ℕ, ◌∙◌}
use Rattle.std.proofs.lemmas.Fn.{always_returns_same}
use Rattle.std.specs.Cmp.Lexicographic.{slice_cmp}
use Rattle.std.specs.List.{list_any}
use Rattle.std.specs.List.Sorted.{IsSorted}
use Rattle.std.specs.Ordering.{nat_cmp}
use Rattle.lcm_events.specs.Same.{same_name}
use Rattle.subscription_filter.proofs.SearchLaws.{searched_names}
use Rattle.subscription_filter.proofs.sorted.SortedNames.has.Goals as goal

pub returns : goal.returns
returns c =
    let text = c.args.text.now in
    let are = c.deref.ensures.value in
    c.is_ok.ensures.value ∙ (searched_names c.deref.result.now text c.binary_search_by.result
    (subst (λ (ns : List (List ℕ)). IsSorted (slice_cmp nat_cmp) ns) (sym are) c.self.invariant)
    c.binary_search_by.ensures.bound
    (c.binary_search_by.ensures.position (λ y. slice_cmp nat_cmp y text)
    (always_returns_same _ _ _ (λ a r f k. search (rules, of_calls))))
    ∙ ap (λ (ns : List (List ℕ)). list_any (same_name text) ns) (are ∙ c.self.view_is))
