-- The next request was answered, or there is none and the session ends.
use Rattle.std.proofs.Common.{[], Ok, Err, None, Some, refl, subst}
use Rattle.executor.specs.Work.{went}
use Rattle.http_wire.specs.declared.request.Taken.TheVariants as taken
use Rattle.lcm_sessions.specs.Session.{Closing, over, unheard}
use Rattle.lcm_sessions.specs.Step.{IsStep, ended_so}
use Rattle.lcm_events.specs.declared.states.Role.{Role}
use Rattle.lcm_sessions.proofs.TalkLemmas.{converses_none}
use Rattle.lcm_sessions.proofs.StepsLemmas.{cut_counts, door_left, fails_not, rejection_refuses, says_last, talk_of_end, talk_of_request}
use Rattle.lcm_sessions.proofs.StepsLemmas.{told_step}
use Rattle.lcm_sessions.proofs.session.answer_next.Goals as goal

pub tell_last-requires-clause-refusal : goal.tell_last-requires-clause-refusal
tell_last-requires-clause-refusal g c = rejection_refuses c.in-Err.fault c.in-Some.reply c.in-Some.ensures

pub returns-in-Ok-true-clause-talks : goal.returns-in-Ok-true-clause-talks
returns-in-Ok-true-clause-talks g c = λ H ready.
    let heard = rw c.in-Ok-true.field-0-test at c.in-Ok-true.ensures.heard in
    let did = c.respond.ensures.responds H ready heard.0 heard.1 in
    let P : Role → Type 0 = λ role. IsStep role did.0 c.respond.result in (
      did.0,
      talk_of_request _ _ _ H did.0 heard.0 _ _ c.args.mouth.now c.hear.new.self _ _ heard.2.is c.in-Ok-true.ensures.reads
          c.in-Ok-true.ensures.counts c.hear.ensures.unnoted did.1 did.2,
      subst P c.hear.ensures.role did.3,
    )

pub returns-in-Ok-false-clause-talks : goal.returns-in-Ok-false-clause-talks
returns-in-Ok-false-clause-talks g c = λ H ready.
    let end : Closing = record { last = over; told = Ok tt } in
    let heard = rw c.in-Ok-false.field-0-test at c.in-Ok-false.ensures.heard in (
      ended_so c.args.role end,
      talk_of_end _ _ H c.args.role end (Ok taken.End) _ c.args.mouth.now c.hear.new.self c.hear.new.self _
          (c.works_add_up.ensures.idles c.args.site.now) ready heard.1 c.in-Ok-false.ensures.reads heard.1.is.0 refl refl (λ asks. asks)
          (λ told. ([], refl, converses_none _)) (door_left c.hear.new.self) c.in-Ok-false.ensures.counts c.in-Ok-false.ensures.counts
          (fails_not _) c.hear.ensures.unnoted,
      (end, refl, refl, refl),
    )

pub returns-in-Some-clause-talks : goal.returns-in-Some-clause-talks
returns-in-Some-clause-talks g c = λ H ready.
    let told = c.tell_last.ensures.told in
    let end : Closing = record { last = unheard c.in-Err.fault (Some c.in-Some.reply); told = told.result } in
    let heard = c.in-Err.ensures.heard in (
      ended_so c.args.role end,
      talk_of_end _ _ H c.args.role end (Err c.in-Err.fault) _ c.args.mouth.now c.hear.new.self c.tell_last.new.mouth _
          (c.works_add_up.ensures.idles c.args.site.now) ready heard.1 c.in-Err.ensures.reads heard.1.is.0 refl refl
          (λ asks. (asks, c.in-Some.ensures))
          (λ tells. says_last c.in-Some.reply told.result _ _ (told.told tells)) c.tell_last.ensures.kept c.in-Err.ensures.counts
          (cut_counts c.in-Err.fault (Some c.in-Some.reply) _ _ c.in-Err.ensures.counts) told.cause (
            _,
            _,
            c.tell_last.ensures.noted,
            c.what_was_told_of_stays.ensures.stands c.args.site.now c.args.site.now _ H (went H) _
                (c.works_add_up.ensures.idles c.args.site.now _ H ready).site,
            c.hear.ensures.unnoted,
          ),
      told_step c.args.role (unheard c.in-Err.fault (Some c.in-Some.reply)) told.result c.tell_last.result refl refl told.is,
    )

pub returns-in-None-clause-talks : goal.returns-in-None-clause-talks
returns-in-None-clause-talks g c = λ H ready.
    let end : Closing = record { last = unheard c.in-Err.fault None; told = Ok tt } in
    let heard = c.in-Err.ensures.heard in (
      ended_so c.args.role end,
      talk_of_end _ _ H c.args.role end (Err c.in-Err.fault) _ c.args.mouth.now c.hear.new.self c.hear.new.self _
          (c.works_add_up.ensures.idles c.args.site.now) ready heard.1 c.in-Err.ensures.reads heard.1.is.0 refl refl
          (λ asks. (asks, c.in-None.ensures)) (λ told. ([], refl, converses_none _)) (door_left c.hear.new.self) c.in-Err.ensures.counts
          (cut_counts c.in-Err.fault None _ _ c.in-Err.ensures.counts) (fails_not _) c.hear.ensures.unnoted,
      (end, refl, refl, refl),
    )
