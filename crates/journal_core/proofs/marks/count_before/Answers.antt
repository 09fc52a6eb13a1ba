use Rattle.std.proofs.Common.{rules, of_calls, nat_lt}
use Rattle.std.proofs.lemmas.Fn.{always_returns_same}
use Rattle.journal_core.specs.declared.marks.Mark.{Mark}
use Rattle.journal_core.proofs.marks.count_before.Goals as goal

pub returns-clause-place : goal.returns-clause-place
returns-clause-place c = c.partition_point.ensures.partitioned (λ (m : Mark). nat_lt m.before c.args.n)
    (always_returns_same _ _ _ (λ a r f k. search (rules, of_calls)))
