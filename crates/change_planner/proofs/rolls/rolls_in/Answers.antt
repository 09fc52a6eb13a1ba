use Rattle.std.proofs.Common.{List, length, subst, sym, true, ◌≡◌, ◌≤◌}
use Rattle.std.proofs.lemmas.Grind.{common_steps}
use Rattle.std.proofs.Common.{arith}
use Rattle.change_planner.proofs.RollLaws.{all_more, map_range_on}
use Rattle.change_planner.proofs.SizeLaws.{rolls_few, rolls_rise}
use Rattle.change_planner.specs.Rolls.{are_rising, case_in, is_small, roll_of}
use Rattle.change_planner.specs.declared.rolls.Roll.{Roll}
use Rattle.change_planner.proofs.rolls.rolls_in.Goals as goal

pub loop-vdu-preserved : goal.loop-vdu-preserved
loop-vdu-preserved c = record {
  rolls = rw c.in_ok-push.ensures.items (map_range_on (roll_of (case_in c.args.case.now)) _ _ _ _ _ c.loop-vdu-test.true
      c.in_ok-roll_in.ensures.roll c.loop-vdu.invariant.rolls);
  small = rw c.in_ok-push.ensures.items (all_more is_small c.loop-vdu.rolls.items c.in_ok-roll_in.field-0 c.loop-vdu.invariant.small
      c.in_ok-roll_in.ensures.small);
}

pub returns-clause-rolls : goal.returns-clause-rolls
returns-clause-rolls c = grind (arith, common_steps)

pub returns-clause-few : goal.returns-clause-few
returns-clause-few c =
    let case = c.args.case.now in
    subst (λ (rs : List Roll). length rs ≤ 64) (sym (returns-clause-rolls c))
    (rolls_few case.vnfd.now case.holding.now case.ask.now case.to.now c.requires.valid)

pub returns-clause-rising : goal.returns-clause-rising
returns-clause-rising c =
    let case = c.args.case.now in
    subst (λ (rs : List Roll). are_rising rs ≡ true) (sym (returns-clause-rolls c))
    (rolls_rise case.vnfd.now case.holding.now case.ask.now case.to.now)
