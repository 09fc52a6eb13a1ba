-- One plan more was used.
use Rattle.std.proofs.Common.{sym, refl, ap, ◌∙◌}
use Rattle.std.proofs.lemmas.Bool.{ltb-true}
use Rattle.site_traits.specs.Log.{Recorded}
use Rattle.site_traits.proofs.PeerLemmas.{answers-came, answers-failed, bytes-more, answer-here, place-used, none-served, place-stays}
use Rattle.site_traits.proofs.mem_orchestrator.answer.Goals as goal

pub returns-then-not-hear_planned-clause-failed : goal.returns-then-not-hear_planned-clause-failed
returns-then-not-hear_planned-clause-failed c = λ failed. (
  answers-failed c.args.plans.now c.args.next.now c.in-Some.plan.now (ltb-true _ _ (sym c.in-Some.ensures.lookup.0))
      (sym c.in-Some.ensures.lookup.1)
      (c.if-not-hear_planned.ensures.none refl),
  refl,
)

pub returns-clause-came : goal.returns-clause-came
returns-clause-came c = λ came. (
  answers-came c.args.plans.now c.args.next.now c.in-Some.plan.now _ (ltb-true _ _ (sym c.in-Some.ensures.lookup.0))
      (sym c.in-Some.ensures.lookup.1)
      (c.if-not-hear_planned.ensures.heard refl),
  bytes-more _ _ _ _ (ap (λ (r : Recorded (Unit {0})). r.calls) (c.if-not-push.ensures.put refl)),
)

pub returns-then-not-hear_planned-clause-place : goal.returns-then-not-hear_planned-clause-place
returns-then-not-hear_planned-clause-place c =
    let within = ltb-true _ _ (sym c.in-Some.ensures.lookup.0) in
    place-used c.args.plans.now c.args.next.now within
    (answer-here c.args.plans.now c.args.next.now c.in-Some.plan.now within (sym c.in-Some.ensures.lookup.1)
    ∙ c.if-not-hear_planned.ensures.none refl)

pub returns-then-not-hear_planned-clause-served : goal.returns-then-not-hear_planned-clause-served
returns-then-not-hear_planned-clause-served c = none-served _ _
    (answer-here c.args.plans.now c.args.next.now c.in-Some.plan.now (ltb-true _ _ (sym c.in-Some.ensures.lookup.0))
    (sym c.in-Some.ensures.lookup.1)
    ∙ c.if-not-hear_planned.ensures.none refl)

pub returns-then-not-push-clause-place : goal.returns-then-not-push-clause-place
returns-then-not-push-clause-place c = place-stays c.args.plans.now c.args.next.now _
    (answer-here c.args.plans.now c.args.next.now c.in-Some.plan.now (ltb-true _ _ (sym c.in-Some.ensures.lookup.0))
    (sym c.in-Some.ensures.lookup.1)
    ∙ c.if-not-hear_planned.ensures.heard refl)
