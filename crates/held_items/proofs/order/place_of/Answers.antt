use Rattle.std.proofs.Common.{rules, of_calls}
use Rattle.std.proofs.lemmas.Fn.{always_returns_same}
use Rattle.lcm_model.specs.Descriptors.{is_def_before}
use Rattle.held_items.proofs.order.place_of.Goals as goal

pub returns-clause-place : goal.returns-clause-place
returns-clause-place c = c.partition_point.ensures.partitioned (λ y. is_def_before y.def c.args.def)
    (always_returns_same _ _ _ (λ a r f k. search (rules, of_calls)))
