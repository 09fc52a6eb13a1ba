use Rattle.site_traits.specs.Moments.{lost_abort}
use Rattle.trial_outside.specs.TrialSite.{state_of}
use Rattle.trial_outside.proofs.site.TrialSiteSite.abort.Goals as goal

pub returns-clause-told : goal.returns-clause-told
returns-clause-told c = lost_abort c.args.tag.now (state_of c.args.self.now)
