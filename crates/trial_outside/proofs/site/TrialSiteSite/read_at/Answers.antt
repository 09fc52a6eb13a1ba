use Rattle.trial_outside.proofs.GoingLemmas.{filed_goes}
use Rattle.trial_outside.proofs.site.TrialSiteSite.read_at.Goals as goal

pub invariant_of-self : goal.invariant_of-self
invariant_of-self c = record {
  goes = filed_goes c.args.self.now.inner c.read_at.new.self c.args.self.now.begins c.args.self.now.vim_faults _ _ _
      c.args.self.now.goes c.read_at.ensures.told.on_file.answers c.read_at.ensures.runs;
}
