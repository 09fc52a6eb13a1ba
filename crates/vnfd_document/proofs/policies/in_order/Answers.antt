-- The sort is stable, and its keys are the names.
use Rattle.std.proofs.Common.{rules, ◌≡◌}
use Rattle.std.proofs.lemmas.List.Sorted.{answers_always}
use Rattle.vnfd_document.proofs.OrderLemmas.{sorted_by_name}
use Rattle.vnfd_document.proofs.policies.in_order.Goals as goal

pub returns : goal.returns
returns c =
    let keys = answers_always _ (λ a r. r ≡ a.0.now.name) _ (λ f a r q k. search rules) in
    sorted_by_name _ _ (c.in_ok-sort_by_key.ensures.sorted (λ e. e.name) keys) (c.in_ok-sort_by_key.ensures.stable (λ e. e.name) keys)
