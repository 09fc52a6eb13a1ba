-- The request in hand is answered, and its reply, or that there is none, is told.
use Rattle.std.proofs.Common.{ap, refl, Some, sym}
use Rattle.lcm_sessions.specs.Session.{Ask, Closing, untold, starving, breaking}
use Rattle.lcm_sessions.specs.Step.{answered_one, ended_so}
use Rattle.lcm_sessions.proofs.StepsLemmas.{acknowledged, about, responds_last, responds_told, same_hand, told_step}
use Rattle.lcm_sessions.proofs.session.respond.Goals as goal

pub tell-requires-clause-acknowledged : goal.tell-requires-clause-acknowledged
tell-requires-clause-acknowledged g c = λ below.
    let ready = c.requires.ready in
    acknowledged _ _ _ ready.0 c.args.mouth.now.role c.request.result.now _ _ _ _ _ c.in-Ok.reply
    (c.works_add_up.ensures.stays c.answer.new.site) (rw c.role.ensures at (c.in-Ok.ensures.works ready.0 ready.1)) c.request.ensures
    (rw c.role.ensures at (c.in-Ok.ensures.reply ready.0 ready.1.keeps)) c.answer.ensures.saved

pub returns-in-Ok-tell-clause-responds : goal.returns-in-Ok-tell-clause-responds
returns-in-Ok-tell-clause-responds g c = λ H ready r hand.
    let x : Ask = record { role = c.args.mouth.now.role; request = c.request.result.now; value = c.now.result } in
    let same = same_hand c.args.mouth.now.hand c.request.result.now r c.request.ensures hand in (
      answered_one c.args.mouth.now.role x,
      responds_told _ _ _ H c.args.mouth.now.role x _ c.in-Ok.reply _ _
          (rw (c.of-now.ensures, c.role.ensures) at (c.in-Ok.ensures.works H ready)) c.answer.ensures.saved
          (rw (c.of-now.ensures, c.role.ensures) at (c.in-Ok.ensures.reply H ready.keeps))
          c.now.ensures.told c.in-Ok-tell.ensures.told c.tell.ensures.kept (rw c.in-Ok-tell.is at c.tell.ensures.cause)
          (c.what_was_told_of_stays.ensures.stands c.args.site.now c.answer.new.site) c.tell.ensures.noted,
      about c.request.result.now r c.now.result _ same refl,
      (x, refl),
    )

pub returns-in-Ok-clause-responds : goal.returns-in-Ok-clause-responds
returns-in-Ok-clause-responds g c = λ H ready r hand.
    let x : Ask = record { role = c.args.mouth.now.role; request = c.request.result.now; value = c.now.result } in
    let end : Closing = record { last = untold x; told = c.tell.result } in
    let same = same_hand c.args.mouth.now.hand c.request.result.now r c.request.ensures hand in (
      ended_so c.args.mouth.now.role end,
      responds_last _ _ _ H c.args.mouth.now.role x (untold x) c.tell.result _ c.in-Ok.reply _ _ refl
          (rw (c.of-now.ensures, c.role.ensures) at (c.in-Ok.ensures.works H ready)) c.answer.ensures.saved
          (ap Some (sym (rw (c.of-now.ensures, c.role.ensures) at (c.in-Ok.ensures.reply H ready.keeps)))) (rw c.in-Err.is refl)
          c.now.ensures.told c.tell.ensures.told c.tell.ensures.kept c.tell.ensures.cause.is c.tell.ensures.cause.counts
          (c.what_was_told_of_stays.ensures.stands c.args.site.now c.answer.new.site) refl c.tell.ensures.noted,
      about c.request.result.now r c.now.result _ same refl,
      (end, refl, rw c.in-Err.is refl, refl),
    )

pub returns-in-Err-Disk-clause-responds : goal.returns-in-Err-Disk-clause-responds
returns-in-Err-Disk-clause-responds g c = λ H ready r hand.
    let x : Ask = record { role = c.args.mouth.now.role; request = c.request.result.now; value = c.now.result } in
    let end : Closing = record { last = breaking x; told = c.tell-in-Err-Disk.result } in
    let same = same_hand c.args.mouth.now.hand c.request.result.now r c.request.ensures hand in (
      ended_so c.args.mouth.now.role end,
      responds_last _ _ _ H c.args.mouth.now.role x (breaking x) c.tell-in-Err-Disk.result _ c.bare.result _ _ refl
          (rw (c.in-Err-Disk.field-0-is, c.of-now.ensures, c.role.ensures) at (c.in-Err-Disk.ensures.works H ready)) c.answer.ensures.saved
          (rw c.bare.ensures refl) tt
          c.now.ensures.told c.tell-in-Err-Disk.ensures.told c.tell-in-Err-Disk.ensures.kept c.tell-in-Err-Disk.ensures.cause.is
          c.tell-in-Err-Disk.ensures.cause.counts (c.what_was_told_of_stays.ensures.stands c.args.site.now c.answer.new.site) refl
          c.tell-in-Err-Disk.ensures.noted,
      about c.request.result.now r c.now.result _ same refl,
      (end, refl, refl),
    )

pub returns-clause-responds : goal.returns-clause-responds
returns-clause-responds g c = λ H ready r hand.
    let x : Ask = record { role = c.args.mouth.now.role; request = c.request.result.now; value = c.now.result } in
    let told = c.tell_last.ensures.told in
    let end : Closing = record { last = starving x; told = told.result } in
    let same = same_hand c.args.mouth.now.hand c.request.result.now r c.request.ensures hand in (
      ended_so c.args.mouth.now.role end,
      responds_last _ _ _ H c.args.mouth.now.role x (starving x) told.result _ c.bare-in-Err-Memory.result _ _ refl
          (rw c.in-Err-Memory.field-0-is at (c.in-Err-Memory.ensures.works H ready)) c.answer.ensures.saved
          (rw c.bare-in-Err-Memory.ensures refl) tt
          c.now.ensures.told told.told c.tell_last.ensures.kept told.cause.is told.cause.counts
          (c.what_was_told_of_stays.ensures.stands c.args.site.now c.answer.new.site) refl c.tell_last.ensures.noted,
      about c.request.result.now r c.now.result _ same refl,
      told_step c.args.mouth.now.role (starving x) told.result c.tell_last.result refl refl told.is,
    )
