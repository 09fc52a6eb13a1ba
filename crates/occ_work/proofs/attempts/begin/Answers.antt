-- The intent is recorded, the job is begun, and what was answered is recorded.
use Rattle.std.proofs.Common.{◌∙◌, ◌∷◌, Err, List, ap, refl}
use Rattle.std.proofs.lemmas.Result.{err_from_is_err_and}
use Rattle.lcm_events.specs.declared.events.Event.{Event}
use Rattle.lcm_events.specs.declared.events.EventKind.TheVariants.{Intent}
use Rattle.site_traits.specs.Jobs.{MayArrive}
use Rattle.occ_work.proofs.AttemptLemmas.{begin_allowed, begin_legal, begun_attempt, legal_following, ready_behind, starved_attempt}
use Rattle.occ_work.proofs.AttemptLemmas.{unbegun_attempt}
use Rattle.occ_work.proofs.BeginLemmas.{ready_on}
use Rattle.occ_work.proofs.FitLemmas.{fault_of}
use Rattle.occ_work.proofs.attempts.begin.Goals as goal

pub returns-in_err-work-clause-attempts : goal.returns-in_err-work-clause-attempts
returns-in_err-work-clause-attempts g c = λ H ready is next.
    let err = err_from_is_err_and c.from_residual.result c.from_residual.ensures.1 in
    rw (err.1 ∙ ap Err err.2) (starved_attempt _ c.args.manager.now _ H _ _ c.args.manager.now _ _ next tt
    (c.works_add_up.ensures.idles c.args.site.now _ H ready) refl)

pub intend-requires : goal.intend-requires
intend-requires g c =
    let it = c.requires.ready in
    record {
      may = (
        it.0,
        it.1,
        begin_allowed c.next_actions_are_allowed.ensures c.args.manager.now.ledger.manager it.0 _
            it.1.keeps.kept.legal it.2 it.3,
      );
    }

pub follow-requires-clause-may : goal.follow-requires-clause-may
follow-requires-clause-may g c =
    let it = c.requires.ready in
    let legal = it.1.keeps.kept.legal in
    let works = c.in-Ok.ensures.works it.0 it.1 (begin_allowed c.next_actions_are_allowed.ensures c.args.manager.now.ledger.manager it.0 _
    legal it.2 it.3) in
    let G : List Event = record { moment = c.args.now; kind = Intent c.args.tag.now } ∷ it.0 in (
      G,
      ready_on _ (MayArrive c.args.tag.now c.in_ok-work.work) _ G _ _ (ready_behind _ _ it.0 G _ _ _ works)
          (λ told. (c.begin-answer.ensures.told told).on_jobs),
      rw works.number
          (legal_following _ c.args.now it.0 _ c.begin-answer.result (begin_legal c.next_actions_are_allowed.ensures _ c.args.now it.0 _
          c.begin-answer.result legal it.2 it.3)),
    )

pub returns-in-Ok-clause-attempts : goal.returns-in-Ok-clause-attempts
returns-in-Ok-clause-attempts g c = λ H ready is next.
    let legal = ready.keeps.kept.legal in
    let allowed = begin_allowed c.next_actions_are_allowed.ensures c.args.manager.now.ledger.manager H _ legal is next in
    let works = c.in-Ok.ensures.works H ready allowed in
    let G : List Event = record { moment = c.args.now; kind = Intent c.args.tag.now } ∷ H in
    let behind = ready_on _ (MayArrive c.args.tag.now c.in_ok-work.work) _ G _ _ (ready_behind _ _ H G _ _ _ works)
    (λ told. (c.begin-answer.ensures.told told).on_jobs) in
    let all = begin_legal c.next_actions_are_allowed.ensures c.args.manager.now.ledger.manager c.args.now H _ c.begin-answer.result legal is
    next in
    let follows = legal_following _ c.args.now H _ c.begin-answer.result all in
    begun_attempt _ _ _ _ H _ c.in_ok-work.work c.begin-answer.result _ _ _ _ _ _ _ _ _ _ _ _ _ next all allowed
    (c.in_ok-work.ensures H ready.keeps is next) works
    (c.in-Ok.ensures.room H ready.keeps (λ memory. cc)) c.begin-answer.ensures.told
    (rw (works.number, c.in-Ok.ensures.saved) at (c.follow.ensures.puts G behind (rw works.number follows))) c.follow.ensures.jobs
    c.follow.ensures.taken c.follow.ensures.memory c.follow.ensures.ended c.in-Ok.ensures.disk c.begin-answer.ensures.cause
    c.follow.ensures.disk

pub returns-clause-attempts : goal.returns-clause-attempts
returns-clause-attempts g c = λ H ready is next.
    let allowed = begin_allowed c.next_actions_are_allowed.ensures c.args.manager.now.ledger.manager H _ ready.keeps.kept.legal is next in
    unbegun_attempt _ _ _ _ H _ c.in-Err.fault _ _ _ _ _ _ next (c.in-Err.ensures.works H ready allowed)
    (λ other. c.in-Err.ensures.room H ready.keeps (λ memory. other (fault_of _ _ memory))) c.in-Err.ensures.disk
    c.in-Err.ensures.saved
