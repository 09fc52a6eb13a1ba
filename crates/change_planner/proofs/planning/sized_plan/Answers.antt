use Rattle.std.proofs.Common.{inr, length, subst, sym, ◌≤◌, ◌∙◌, List}
use Rattle.lcm_events.specs.declared.changes.Change.{Change}
use Rattle.change_planner.proofs.SizeLaws.{counted, not_too_many, plan_from, plan_small, too_many}
use Rattle.change_planner.proofs.planning.sized_plan.Goals as goal

pub returns-then-too_many-clause-refused : goal.returns-then-too_many-clause-refused
returns-then-too_many-clause-refused c =
    let p = c.args.case.now in
    inr (too_many p.vnfd.now p.holding.now p.ask.now p.to.now _ _ c.is_too_many-too_many.result
    (counted p.vnfd.now p.holding.now p.ask.now p.to.now c.args.rolls.now c.as_slice-items.result.now c.args.links.now c.count_made.result
    c.requires.can c.requires.rolls c.requires.links c.as_slice-items.ensures c.count_made.ensures.value)
    c.is_too_many-too_many.ensures c.if-too_many.true)

pub returns-in-Ok-clause-planned : goal.returns-in-Ok-clause-planned
returns-in-Ok-clause-planned c =
    let p = c.args.case.now in
    c.in-Ok.ensures ∙ plan_from p.vnfd.now p.holding.now p.ask.now p.to.now c.args.rolls.now c.as_slice-items.result.now c.requires.can
    c.requires.rolls c.as_slice-items.ensures

pub returns-in-Ok-clause-fits : goal.returns-in-Ok-clause-fits
returns-in-Ok-clause-fits c =
    let p = c.args.case.now in
    not_too_many p.vnfd.now p.holding.now p.ask.now p.to.now _ _ c.is_too_many-too_many.result
    (counted p.vnfd.now p.holding.now p.ask.now p.to.now c.args.rolls.now c.as_slice-items.result.now c.args.links.now c.count_made.result
    c.requires.can c.requires.rolls c.requires.links c.as_slice-items.ensures c.count_made.ensures.value)
    c.is_too_many-too_many.ensures c.if-too_many.false

pub returns-in-Ok-clause-small : goal.returns-in-Ok-clause-small
returns-in-Ok-clause-small c =
    let p = c.args.case.now in
    subst (λ (xs : List Change). length xs ≤ 5000) (sym (returns-in-Ok-clause-planned c))
    (plan_small p.vnfd.now p.holding.now p.ask.now p.to.now c.requires.can (returns-in-Ok-clause-fits c))
