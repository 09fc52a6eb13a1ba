-- The descriptor's event may be recorded, and is the first history.
use Rattle.std.proofs.Common.{List, [], subst, sym}
use Rattle.executor.specs.Managed.{MayRecord}
use Rattle.executor.specs.Work.{Works, went}
use Rattle.lcm_events.specs.declared.events.Event.{Event}
use Rattle.trial_outside.specs.TrialSite.{state_of}
use Rattle.lcm_trial.proofs.BeginLemmas.{first_is, may_onboard}
use Rattle.lcm_trial.proofs.beginning.onboard.Goals as goal

pub commit-requires-clause-may : goal.commit-requires-clause-may
commit-requires-clause-may c =
    let m = c.args.manager.now.ledger.manager in
    let P : Event → Type 0 = λ e. MayRecord m [] e in (
      [],
      c.requires.made.ready,
      subst P (sym c.onboarding-event.ensures)
          (c.onboardings_may_be_recorded.ensures m 0 [] c.in_ok-descriptor.field-0
          (may_onboard c.in_ok-descriptor.field-0 c.in_ok-descriptor.ensures.read.1)),
    )

pub returns-in-Ok-clause-works : goal.returns-in-Ok-clause-works
returns-in-Ok-clause-works c =
    let m = c.args.manager.now.ledger.manager in
    let M : Event → Type 0 = λ e. MayRecord m [] e in
    let P : List Event → Type 0 = λ H. Works (Unit {0}) m [] (went H) c.commit.new.self (state_of c.args.site.now)
    (state_of c.commit.new.site) in
    subst P (first_is c.in_ok-descriptor.field-0 c.onboarding-event.result c.in_ok-descriptor.ensures.read.0 c.onboarding-event.ensures)
    (c.in-Ok.ensures.works [] c.requires.made.ready
    (subst M (sym c.onboarding-event.ensures)
    (c.onboardings_may_be_recorded.ensures m 0 [] c.in_ok-descriptor.field-0
    (may_onboard c.in_ok-descriptor.field-0 c.in_ok-descriptor.ensures.read.1))))
