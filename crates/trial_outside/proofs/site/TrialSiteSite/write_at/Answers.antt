use Rattle.trial_outside.proofs.GoingLemmas.{filed_goes}
use Rattle.trial_outside.proofs.site.TrialSiteSite.write_at.Goals as goal

pub invariant_of-self : goal.invariant_of-self
invariant_of-self c = record {
  goes = filed_goes c.args.self.now.inner c.write_at.new.self c.args.self.now.begins c.args.self.now.vim_faults _ _ _
      c.args.self.now.goes c.write_at.ensures.told.on_file.answers c.write_at.ensures.runs;
}
