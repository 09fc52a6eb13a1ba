use Rattle.std.proofs.Common.{lit<, rules, tests, ap, ◌∙◌, ◌==◌}
use Rattle.std.specs.List.{list_any, slice_split}
use Rattle.std.proofs.lemmas.Iterator.Search.{any_from_yields_List}
use Rattle.std.proofs.lemmas.Iterator.Splits.{YieldsList-from_str_split}
use Rattle.lcm_routes.specs.Targets.{is_filter}
use Rattle.lcm_routes.proofs.targets.asks_filter.Goals as goal

pub returns : goal.returns
returns c =
    let parts = YieldsList-from_str_split 38 c.query_of.result.now
    (lit< tt) c.split.ensures.text c.split.ensures.has_more c.split.ensures.pattern in
    any_from_yields_List is_filter _ _ _ c.any.ensures.ran parts (λ x b q k. search (rules, tests))
    ∙ ap (λ query. list_any is_filter (slice_split (λ b. b == 38) query)) c.query_of.ensures
