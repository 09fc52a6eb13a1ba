use Rattle.std.proofs.Common.{rules, of_calls, nat_lt}
use Rattle.std.proofs.lemmas.Fn.{always_returns_same}
use Rattle.instance_table.proofs.going.place_of.Goals as goal

pub returns-clause-place : goal.returns-clause-place
returns-clause-place c = c.partition_point.ensures.partitioned (λ g. nat_lt g.occ c.args.occ)
    (always_returns_same _ _ _ (λ a r f k. search (rules, of_calls)))
