-- The file was made, and opening it finds no event.
use Rattle.std.proofs.Common.{arith}
use Rattle.site_traits.specs.Moments.{keeps_then}
use Rattle.trial_outside.specs.TrialSite.{state_of}
use Rattle.lcm_trial.proofs.BeginLemmas.{made_so}
use Rattle.lcm_trial.proofs.beginning.made_manager.Goals as goal

pub returns-in-Ok-load-clause-made : goal.returns-in-Ok-load-clause-made
returns-in-Ok-load-clause-made c =
    let opened = c.in-Ok-load.ensures.opens in
    let number = c.in-Ok-load.ensures.number in
    made_so c.in-Ok-load.manager opened.0 (state_of c.create.new.site) (state_of c.load.new.site) c.a_file_has_one_history.ensures
    (c.in-Ok.ensures.told tt).made (c.in-Ok-load.ensures.told tt).same (omega (arith, number)) opened.1

pub returns-in-Ok-load-clause-jobs : goal.returns-in-Ok-load-clause-jobs
returns-in-Ok-load-clause-jobs c =
    let both = c.works_add_up.ensures.jobs c.create.new.site c.load.new.site c.load.new.site tt (c.in-Ok-load.ensures.told tt) in
    keeps_then (state_of c.args.site.now) (state_of c.create.new.site) (state_of c.load.new.site) (c.in-Ok.ensures.jobs tt) both.0
