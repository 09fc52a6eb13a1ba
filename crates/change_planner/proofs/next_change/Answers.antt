use Rattle.std.proofs.Common.{rules, arith}
use Rattle.std.proofs.lemmas.Grind.{elements}
use Rattle.change_planner.proofs.NetLaws.{first-in_history}
use Rattle.change_planner.proofs.next_change.Goals as goal

pub returns-clause-known : goal.returns-clause-known
returns-clause-known c = search rules

pub returns-clause-open : goal.returns-clause-open
returns-clause-open c = grind (arith, elements)

pub returns-clause-least : goal.returns-clause-least
returns-clause-least c = grind (arith, elements)

pub returns-clause-none : goal.returns-clause-none
returns-clause-none c = grind (arith, elements)

pub returns-clause-in_history : goal.returns-clause-in_history
returns-clause-in_history c =
    first-in_history c.args.changes.now c.args.nets.now c.position.result (returns-clause-known c) (returns-clause-open c)
    (returns-clause-least c) (returns-clause-none c)
