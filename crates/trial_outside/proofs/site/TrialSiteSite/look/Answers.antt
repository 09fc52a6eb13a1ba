use Rattle.site_traits.specs.Moments.{lost_look}
use Rattle.trial_outside.specs.TrialSite.{state_of}
use Rattle.trial_outside.proofs.GoingLemmas.{looked_goes}
use Rattle.trial_outside.proofs.site.TrialSiteSite.look.Goals as goal

pub returns-then-not-has_job-clause-told : goal.returns-then-not-has_job-clause-told
returns-then-not-has_job-clause-told c = lost_look c.args.tag.now (state_of c.args.self.now)

pub invariant_of-self-in_default : goal.invariant_of-self-in_default
invariant_of-self-in_default c =
    let s = c.args.self.now in
    record {
      goes = looked_goes s.inner c.look-answer.new.self s.begins s.vim_faults c.args.tag.now c.look-answer.result s.goes
          (c.has_job.ensures.0 c.if-not-has_job.false) c.look-answer.ensures.told c.look-answer.ensures.runs;
    }
