-- The walk begins at the first change that isn't made, and ends in its phase.
use Rattle.std.proofs.Common.{arith, refl, ◌∙◌}
use Rattle.lcm_events.specs.declared.attempts.Way.TheVariants.{Forward}
use Rattle.change_planner.proofs.FreeLaws.{Leads, chosen_in_history, none_left, walk_ended, walk_found, walk_left}
use Rattle.change_planner.proofs.next_free.Goals as goal
use Rattle.change_planner.proofs.next_free.Goals.{In_ok-lead}

leads : (c : In_ok-lead) → Leads Forward c.args.changes.now c.args.nets.now c.in_ok-lead.lead
leads c = record {
  known = omega (arith, c.in_ok-lead.ensures.known, c.requires.nets);
  waiting = c.in_ok-lead.ensures.unmade;
  ahead = λ j less within. c.in_ok-lead.ensures.ahead j less;
}

pub returns-in_err-lead-clause-least : goal.returns-in_err-lead-clause-least
returns-in_err-lead-clause-least c =
    c.from_residual.ensures
    ∙ none_left Forward _ _ c.args.busy.now (λ j less. c.in_err-lead.ensures.none refl j (omega (arith, less, c.requires.nets)))

pub returns-in_err-lead-clause-in_history : goal.returns-in_err-lead-clause-in_history
returns-in_err-lead-clause-in_history c = λ H o of. chosen_in_history Forward H o _ _ _ _ of (returns-in_err-lead-clause-least c)

pub returns-then-changes-number-clause-least : goal.returns-then-changes-number-clause-least
returns-then-changes-number-clause-least c =
    walk_left Forward _ _ _ _ _ c.requires (leads (goal.at.returns-then-changes-number-clause-least c).In_ok-lead) _ c.loop-number-test.true
    c.loop-number.auto.number c.if-changes-number.true c.loop-number.invariant

pub returns-then-changes-number-clause-in_history : goal.returns-then-changes-number-clause-in_history
returns-then-changes-number-clause-in_history c = λ H o of. chosen_in_history Forward H o _ _ _ _ of
    (returns-then-changes-number-clause-least c)

pub returns-then-not-busy-number-clause-least : goal.returns-then-not-busy-number-clause-least
returns-then-not-busy-number-clause-least c =
    walk_found Forward _ _ _ _ _ c.requires (leads (goal.at.returns-then-not-busy-number-clause-least c).In_ok-lead) _
    c.loop-number-test.true c.if-changes-number.false c.if-nets-number-eq0.true c.if-not-busy-number.true c.loop-number.invariant

pub returns-then-not-busy-number-clause-in_history : goal.returns-then-not-busy-number-clause-in_history
returns-then-not-busy-number-clause-in_history c = λ H o of. chosen_in_history Forward H o _ _ _ _ of
    (returns-then-not-busy-number-clause-least c)

pub returns-clause-least : goal.returns-clause-least
returns-clause-least c =
    walk_ended Forward _ _ _ _ c.requires (leads (goal.at.returns-clause-least c).In_ok-lead)
    (λ j from less. c.loop-number.invariant j from (omega (arith, less)))

pub returns-clause-in_history : goal.returns-clause-in_history
returns-clause-in_history c = λ H o of. chosen_in_history Forward H o _ _ _ _ of (returns-clause-least c)
