use Rattle.std.proofs.Common.{rules, of_calls, nat_lt}
use Rattle.std.proofs.lemmas.Fn.{always_returns_same}
use Rattle.instance_table.proofs.instances.instance_place.Goals as goal

pub returns-clause-place : goal.returns-clause-place
returns-clause-place c = c.partition_point.ensures.partitioned (λ r. nat_lt r.number c.args.number)
    (always_returns_same _ _ _ (λ a r f k. search (rules, of_calls)))
