use Rattle.std.proofs.Common.{rules, arith}
use Rattle.std.proofs.lemmas.Grind.{elements}
use Rattle.rollback_plan.proofs.NetLaws.{last-in_history}
use Rattle.rollback_plan.proofs.next_undo.Goals as goal

pub returns-clause-known : goal.returns-clause-known
returns-clause-known c = search rules

pub returns-clause-made : goal.returns-clause-made
returns-clause-made c = grind (arith, elements)

pub returns-clause-greatest : goal.returns-clause-greatest
returns-clause-greatest c = grind (arith, elements)

pub returns-clause-none : goal.returns-clause-none
returns-clause-none c = grind (arith, elements)

pub returns-clause-in_history : goal.returns-clause-in_history
returns-clause-in_history c =
    last-in_history c.args.changes.now c.args.nets.now c.rposition.result (returns-clause-known c) (returns-clause-made c)
    (returns-clause-greatest c) (returns-clause-none c)
