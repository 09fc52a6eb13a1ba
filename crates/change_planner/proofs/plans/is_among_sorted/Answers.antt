use Rattle.std.proofs.Common.{◌∙◌}
use Rattle.change_planner.proofs.SearchLaws.{searched_among}
use Rattle.change_planner.proofs.plans.is_among_sorted.Goals as goal

pub returns : goal.returns
returns c = c.is_ok.ensures.value ∙ searched_among c.args.numbers.now c.args.number c.binary_search.result c.requires
    c.binary_search.ensures.position
