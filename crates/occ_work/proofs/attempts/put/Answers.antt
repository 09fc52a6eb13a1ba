-- What is put is one event about an attempt.
use Rattle.occ_work.proofs.FitLemmas.{attempts_fit, fault_of, not_too_long}
use Rattle.occ_work.proofs.TagLemmas.{attempt_put}
use Rattle.occ_work.proofs.TakingLemmas.{one_room, recorded_at_file}
use Rattle.occ_work.proofs.attempts.put.Goals as goal

pub put-requires-clause-may : goal.put-requires-clause-may
put-requires-clause-may g c = let it = c.requires.may in (it.0, it.1, attempt_put _ it.0 _ it.1.keeps.kept.events it.2 c.requires.kind)

pub returns-in-Ok-clause-puts : goal.returns-in-Ok-clause-puts
returns-in-Ok-clause-puts g c = λ H ready allowed.
    record {
      at_file = c.in-Ok.ensures.works H ready (attempt_put _ H _ ready.keeps.kept.events allowed c.requires.kind);
      saved = c.in-Ok.ensures.saved;
      room = c.in-Ok.ensures.room H ready.keeps;
    }

pub returns-in-Err-clause-puts : goal.returns-in-Err-clause-puts
returns-in-Err-clause-puts g c = λ H ready allowed. record {
  at_file = recorded_at_file _ _ H c.args.event.now c.in-Err.fault _ _ _
      (c.in-Err.ensures.works H ready (attempt_put _ H _ ready.keeps.kept.events allowed c.requires.kind));
  saved = c.in-Err.ensures.saved;
  room = one_room _ H c.args.event.now c.in-Err.fault (c.in-Err.ensures.room H ready.keeps);
}

pub returns-in-Err-clause-short : goal.returns-in-Err-clause-short
returns-in-Err-clause-short g c = λ n is.
    let it = c.requires.may in
    let fits = attempts_fit c.args.event.now.moment c.args.event.now.kind c.in-Err.ensures.event c.requires.kind in
    not_too_long _ it.0 c.args.event.now c.in-Err.fault n fits (c.in-Err.ensures.room it.0 it.1.keeps) (fault_of _ _ is)
