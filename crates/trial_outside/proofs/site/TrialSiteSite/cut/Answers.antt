use Rattle.trial_outside.proofs.GoingLemmas.{filed_goes}
use Rattle.trial_outside.proofs.site.TrialSiteSite.cut.Goals as goal

pub invariant_of-self : goal.invariant_of-self
invariant_of-self c = record {
  goes = filed_goes c.args.self.now.inner c.cut.new.self c.args.self.now.begins c.args.self.now.vim_faults _ _ _
      c.args.self.now.goes c.cut.ensures.told.on_file.answers c.cut.ensures.runs;
}
