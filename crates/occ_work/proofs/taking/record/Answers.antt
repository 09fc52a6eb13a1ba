-- What is recorded is one event.
use Rattle.executor.proofs.WorkLemmas.{with_jobs}
use Rattle.occ_work.proofs.FitLemmas.{acts_fit, fault_of, not_too_long}
use Rattle.occ_work.proofs.TakingLemmas.{one_room, recorded_works}
use Rattle.occ_work.proofs.taking.record.Goals as goal

pub returns-in-Ok-clause-records : goal.returns-in-Ok-clause-records
returns-in-Ok-clause-records g c = λ H ready may. record {
  works = with_jobs _ _ H _ _ _ _ (c.in-Ok.ensures.works H ready may);
  saved = c.in-Ok.ensures.saved;
  room = c.in-Ok.ensures.room H ready.keeps;
}

pub returns-in-Err-clause-records : goal.returns-in-Err-clause-records
returns-in-Err-clause-records g c = λ H ready may. record {
  works = recorded_works _ _ H c.args.event.now c.in-Err.fault _ _ _ (with_jobs _ _ H _ _ _ _ (c.in-Err.ensures.works H ready may));
  saved = c.in-Err.ensures.saved;
  room = one_room _ H c.args.event.now c.in-Err.fault (c.in-Err.ensures.room H ready.keeps);
}

pub returns-in-Ok-clause-jobs : goal.returns-in-Ok-clause-jobs
returns-in-Ok-clause-jobs g c = λ told. let it = c.requires.may in (c.in-Ok.ensures.works it.0 it.1 it.2).jobs told

pub returns-in-Err-clause-jobs : goal.returns-in-Err-clause-jobs
returns-in-Err-clause-jobs g c = λ told. let it = c.requires.may in (c.in-Err.ensures.works it.0 it.1 it.2).jobs told

pub returns-in-Err-clause-short : goal.returns-in-Err-clause-short
returns-in-Err-clause-short g c = λ n is.
    let it = c.requires.may in
    let fits = acts_fit c.plans_are_small.ensures _ it.0 c.args.event.now.moment c.args.event.now.kind it.1.keeps.kept.legal it.2.allowed
    c.in-Err.ensures.event c.requires.kind in
    not_too_long _ it.0 c.args.event.now c.in-Err.fault n fits (c.in-Err.ensures.room it.0 it.1.keeps) (fault_of _ _ is)
