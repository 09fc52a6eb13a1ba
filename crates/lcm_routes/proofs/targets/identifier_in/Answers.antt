use Rattle.std.proofs.Common.{lit<, ap, ◌∙◌}
use Rattle.std.proofs.lemmas.Iterator.Consumers.{nth_from_yields_List}
use Rattle.std.proofs.lemmas.Iterator.Splits.{YieldsList-from_str_split}
use Rattle.lcm_routes.proofs.TargetLemmas.{unwrap_or-now}
use Rattle.lcm_routes.proofs.targets.identifier_in.Goals as goal

pub returns : goal.returns
returns c =
    let parts = YieldsList-from_str_split 47 c.args.path.now (lit< tt) c.split.ensures.text c.split.ensures.has_more c.split.ensures.pattern
    in
    ap (λ t. t.now) c.unwrap_or.ensures ∙ unwrap_or-now _ _ _ (nth_from_yields_List _ _ 4 c.nth.ensures.ran parts)
