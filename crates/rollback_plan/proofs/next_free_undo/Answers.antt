-- The walk begins at the last change that is made, and ends in its phase.
use Rattle.std.proofs.Common.{arith, refl, ◌∙◌}
use Rattle.lcm_events.specs.declared.attempts.Way.TheVariants.{Undo}
use Rattle.change_planner.proofs.FreeLaws.{Leads, chosen_in_history, none_left, walk_ended, walk_found, walk_left}
use Rattle.rollback_plan.proofs.next_free_undo.Goals as goal
use Rattle.rollback_plan.proofs.next_free_undo.Goals.{In_ok-lead}

leads : (c : In_ok-lead) → Leads Undo c.args.changes.now c.args.nets.now c.in_ok-lead.lead
leads c = record {
  known = omega (arith, c.in_ok-lead.ensures.known, c.requires.nets);
  waiting = c.in_ok-lead.ensures.made;
  ahead = λ j less within. c.in_ok-lead.ensures.ahead j less (omega (arith, within, c.requires.nets));
}

pub returns-in_err-lead-clause-greatest : goal.returns-in_err-lead-clause-greatest
returns-in_err-lead-clause-greatest c =
    c.from_residual.ensures
    ∙ none_left Undo _ _ c.args.busy.now (λ j less. c.in_err-lead.ensures.none refl j (omega (arith, less, c.requires.nets)))

pub returns-in_err-lead-clause-in_history : goal.returns-in_err-lead-clause-in_history
returns-in_err-lead-clause-in_history c = λ H o of. chosen_in_history Undo H o _ _ _ _ of (returns-in_err-lead-clause-greatest c)

pub returns-then-changes-number-clause-greatest : goal.returns-then-changes-number-clause-greatest
returns-then-changes-number-clause-greatest c =
    let lead = leads (goal.at.returns-then-changes-number-clause-greatest c).In_ok-lead in
    let known = lead.known in
    walk_left Undo _ _ _ _ _ c.requires lead _ (omega (arith, known)) (omega arith) c.if-changes-number.true
    (λ j from ahead. c.loop-number.invariant j from (omega (arith, ahead)))

pub returns-then-changes-number-clause-in_history : goal.returns-then-changes-number-clause-in_history
returns-then-changes-number-clause-in_history c = λ H o of. chosen_in_history Undo H o _ _ _ _ of
    (returns-then-changes-number-clause-greatest c)

pub returns-then-not-busy-number-clause-greatest : goal.returns-then-not-busy-number-clause-greatest
returns-then-not-busy-number-clause-greatest c =
    let lead = leads (goal.at.returns-then-not-busy-number-clause-greatest c).In_ok-lead in
    let known = lead.known in
    walk_found Undo _ _ _ _ _ c.requires lead _ (omega (arith, known)) c.if-changes-number.false c.if-nets-number-eq1.true
    c.if-not-busy-number.true (λ j from ahead. c.loop-number.invariant j from (omega (arith, ahead)))

pub returns-then-not-busy-number-clause-in_history : goal.returns-then-not-busy-number-clause-in_history
returns-then-not-busy-number-clause-in_history c = λ H o of. chosen_in_history Undo H o _ _ _ _ of
    (returns-then-not-busy-number-clause-greatest c)

pub returns-clause-greatest : goal.returns-clause-greatest
returns-clause-greatest c =
    walk_ended Undo _ _ _ _ c.requires (leads (goal.at.returns-clause-greatest c).In_ok-lead)
    (λ j from less. c.loop-number.invariant j from (omega (arith, less)))

pub returns-clause-in_history : goal.returns-clause-in_history
returns-clause-in_history c = λ H o of. chosen_in_history Undo H o _ _ _ _ of (returns-clause-greatest c)
