use Rattle.site_traits.specs.KeptJobs.{looked}
use Rattle.site_traits.proofs.KeptLemmas.{some_changed, none_placed}
use Rattle.site_traits.proofs.past.look_at.Goals as goal

pub returns-in-Some-clause-jobs : goal.returns-in-Some-clause-jobs
returns-in-Some-clause-jobs c = λ tag placed.
    some_changed tag (looked c.args.now) c.args.kept.now.items c.args.place c.in-Some.k c.index_mut.result.now c.look.new.self c.in-Some.is
    c.index_mut.ensures.value c.look.ensures placed

pub returns-in-None-clause-jobs : goal.returns-in-None-clause-jobs
returns-in-None-clause-jobs c = λ tag placed. none_placed tag (looked c.args.now) c.args.kept.now.items c.args.place c.in-None.is placed
