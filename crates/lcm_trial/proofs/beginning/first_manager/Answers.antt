-- Behind the onboarding the manager begins.
use Rattle.trial_outside.specs.TrialSite.{state_of}
use Rattle.lcm_trial.proofs.BeginLemmas.{begins_so}
use Rattle.lcm_trial.proofs.beginning.first_manager.Goals as goal

pub returns-clause-begins : goal.returns-clause-begins
returns-clause-begins c =
    begins_so c.in_ok-manager.manager c.onboard.new.manager (state_of c.args.site.now) (state_of c.made_manager.new.site)
    (state_of c.onboard.new.site) c.in_ok-manager.ensures.made c.requires.fresh.jobs c.requires.fresh.answers
    c.in_ok-manager.ensures.jobs c.in_ok-onboard.ensures.works c.in_ok-onboard.ensures.saved
    (c.works_add_up.ensures.leads c.made_manager.new.site c.onboard.new.site)
