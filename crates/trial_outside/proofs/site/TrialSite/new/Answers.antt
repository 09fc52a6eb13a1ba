use Rattle.trial_outside.proofs.GoingLemmas.{fresh_goes}
use Rattle.trial_outside.proofs.site.TrialSite.new.Goals as goal

pub invariant_of-result : goal.invariant_of-result
invariant_of-result c = record {
  goes = fresh_goes c.in_ok-new.field-0 _ c.in_ok-new.ensures.fresh c.in_ok-new.ensures.work c.in_ok-all_plans.ensures;
}
