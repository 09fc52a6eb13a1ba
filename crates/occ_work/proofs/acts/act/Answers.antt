-- The act is that of the next step.
use Rattle.std.proofs.Common.{Some, ap, ◌∙◌}
use Rattle.occ_steps.specs.Steps.{action_of}
use Rattle.occ_steps.specs.declared.steps.Step.{Step}
use Rattle.occ_work.proofs.ActLemmas.{attempting_act, disk_of, moving_act}
use Rattle.occ_steps.proofs.StepLemmas.{begins_own, begins_there}
use Rattle.occ_work.proofs.acts.act.Goals as goal

pub move_to-requires : goal.move_to-requires
move_to-requires g c =
    let it = c.requires.ready in
    record { ready = (it.0, it.1, it.2, c.next_step.ensures it.0 it.1.keeps it.2 ∙ ap (λ (s : Step). Some (action_of s)) c.in-Move.is) }

pub returns-in-Move-clause-acts : goal.returns-in-Move-clause-acts
returns-in-Move-clause-acts g c = λ H ready is.
    let next = c.next_step.ensures H ready.keeps is ∙ ap (λ (s : Step). Some (action_of s)) c.in-Move.is in
    moving_act _ _ _ _ H _ _ _ _ _ _ _ _ _ _ _ next c.move_to.ensures.jobs c.move_to.ensures.disk
    (c.move_to.ensures.records H ready is next) c.move_to.ensures.ended

pub returns-in-Move-clause-disk : goal.returns-in-Move-clause-disk
returns-in-Move-clause-disk g c = disk_of _ _ _ c.move_to.ensures.disk

pub begin-requires : goal.begin-requires
begin-requires g c =
    let it = c.requires.ready in
    let next = c.next_step.ensures it.0 it.1.keeps it.2 ∙ ap (λ (s : Step). Some (action_of s)) c.in-Begin.is in
    let there = begins_there it.0 _ _ it.2 next in
    record { ready = (it.0, it.1, there.0, there.1) }

pub returns-in-Begin-clause-acts : goal.returns-in-Begin-clause-acts
returns-in-Begin-clause-acts g c = λ H ready is.
    let next = c.next_step.ensures H ready.keeps is ∙ ap (λ (s : Step). Some (action_of s)) c.in-Begin.is in
    let there = begins_there H _ _ is next in
    let it = c.begin.ensures.attempts H ready there.0 there.1 in
    attempting_act _ _ _ _ H _ _ _ _ _ _ _ _ _ (it.0, it.1 ∙ begins_own H _ _ is next, it.2)

pub returns-in-Look-clause-acts : goal.returns-in-Look-clause-acts
returns-in-Look-clause-acts g c = λ H ready is.
    let next = c.next_step.ensures H ready.keeps is ∙ ap (λ (s : Step). Some (action_of s)) c.in-Look.is in
    attempting_act _ _ _ _ H _ _ _ _ _ _ _ _ _ (c.look.ensures.attempts H ready is next)

pub returns-in-AbortAndLook-clause-acts : goal.returns-in-AbortAndLook-clause-acts
returns-in-AbortAndLook-clause-acts g c = λ H ready is.
    let next = c.next_step.ensures H ready.keeps is ∙ ap (λ (s : Step). Some (action_of s)) c.in-AbortAndLook.is in
    attempting_act _ _ _ _ H _ _ _ _ _ _ _ _ _ (c.look-in-AbortAndLook.ensures.attempts H ready is next)
