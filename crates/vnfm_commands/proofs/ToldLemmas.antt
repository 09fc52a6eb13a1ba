-- What was told in a visit or in rounds goes no further than the history that it left; and what visits, turns and
-- deliveries add.
use Rattle.std.proofs.Common.{ℕ, Bool, true, false, List, [], ◌∷◌, ◌++◌, Option, Some, None, Err, if◌then◌else◌, refl}
use Rattle.executor.proofs.WorkLemmas.{extends_refl, extends_trans}
use Rattle.executor.specs.Chain.{AreWithin}
use Rattle.executor.specs.Work.{Extends, aimed, stood}
use Rattle.executor.specs.declared.manager.WorkFault.{WorkFault}
use Rattle.executor.specs.declared.manager.WorkFault.TheVariants as working
use Rattle.lcm_events.specs.declared.events.Event.{Event}
use Rattle.lcm_events.specs.declared.events.EventKind.{EventKind}
use Rattle.lcm_laws.specs.Acting.{with_events}
use Rattle.lcm_sessions.proofs.TalkLemmas.{answered_within, within_more}
use Rattle.lcm_sessions.specs.Session.{Ask, Closing, Last, Talk, over, unheard, untold, starving, breaking, behind_last, behind_replies}
use Rattle.lcm_sessions.specs.Session.{behind_told, has_reply, life, once_answered, outcome_of, work_by, work_last, work_of}
use Rattle.notify_outbox.specs.Delivering.{held, idle, sent}
use Rattle.notify_outbox.specs.Dispatches.{Dispatch, once_dispatched, outcome_of as taken_by, posted_event}
use Rattle.notify_outbox.specs.Reading.{nothing_recorded}
use Rattle.notify_outbox.specs.Rounds as outbox
use Rattle.notify_outbox.specs.Rounds.{RoundEnd, once_all_dispatched}
use Rattle.notify_outbox.specs.declared.faults.DeliveryFault.{DeliveryFault}
use Rattle.notify_outbox.specs.declared.faults.DeliveryFault.TheVariants as delivering
use Rattle.occ_work.specs.Acting.{recording}
use Rattle.occ_work.specs.Deeds.{Deed, kinds_of, once_done}
use Rattle.occ_work.specs.Turns as turning
use Rattle.occ_work.specs.Turns.{TurnEnd, once_all_done}
use Rattle.vnfm_commands.specs.Course.{Visit, unasked, served, Round, Turning, Close, finished, unreached, stopped, halted, undelivered}
use Rattle.vnfm_commands.specs.Course.{close_work, moment_of, once_acted, once_made, once_posted, once_served}
use Rattle.vnfm_commands.specs.Course.{told_in_rounds, told_in_visit}

-- what is within a history, and more that is
within_both : (H : List Event) (xs ys : List (List Event)) → AreWithin H xs → AreWithin H ys → AreWithin H (xs ++ ys)
within_both H [] ys first second = second
within_both H (x ∷ xs) ys first second = (first.0, within_both H xs ys first.1 second)

-- requests add to a history
answers_extend : (m saved : ℕ) (H : List Event) (asks : List Ask) → Extends H (life (once_answered m saved) H asks)
answers_extend m saved H [] = extends_refl H
answers_extend m saved H (x ∷ asks) =
    let G : List Event = life (once_answered m saved) H asks in
    extends_trans H G (once_answered m saved G x) (answers_extend m saved H asks) (record { more = (outcome_of m saved G x).after; is = refl })

-- and so does the end of a session
last_extends : (m saved : ℕ) (G : List Event) (last : Last) → Extends G (stood (work_last m saved G last))
last_extends m saved G over = extends_refl G
last_extends m saved G (unheard cause reply) = extends_refl G
last_extends m saved G (untold x) = record { more = (outcome_of m saved G x).after; is = refl }
last_extends m saved G (starving x) = extends_refl G
last_extends m saved G (breaking x) = extends_refl G

end_extends : (m saved : ℕ) (G : List Event) (end : Option Closing) → Extends G (stood (work_by m saved G end))
end_extends m saved G None = extends_refl G
end_extends m saved G (Some end) = last_extends m saved G end.last

told_or_not : (G : List Event) (some : Bool) → AreWithin G (if some then G ∷ [] else [])
told_or_not G true = (extends_refl G, tt)
told_or_not G false = tt

last_within : (m saved : ℕ) (G : List Event) (end : Option Closing) → AreWithin (stood (work_by m saved G end)) (behind_last m saved G end)
last_within m saved G None = tt
last_within m saved G (Some end) = told_or_not (stood (work_last m saved G end.last)) (has_reply end.last)

-- what is told in a session is within what it leaves
talk_within : (m saved : ℕ) (H : List Event) (talk : Talk) → AreWithin (stood (work_of m saved H talk)) (behind_told m saved H talk)
talk_within m saved H talk =
    let G : List Event = life (once_answered m saved) H talk.asks in
    let K : List Event = stood (work_by m saved G talk.end) in
    within_both K (behind_last m saved G talk.end) (behind_replies m saved H talk.asks) (last_within m saved G talk.end)
    (within_more G K (behind_replies m saved H talk.asks) (end_extends m saved G talk.end) (answered_within m saved H talk.asks))

-- the same of a visit
pub visit_within : (m saved : ℕ) (H : List Event) (visit : Visit) → AreWithin (once_served m saved H visit) (told_in_visit m saved H visit)
visit_within m saved H unasked = tt
visit_within m saved H (served came talk) = talk_within m saved H talk

visit_extends : (m saved : ℕ) (H : List Event) (visit : Visit) → Extends H (once_served m saved H visit)
visit_extends m saved H unasked = extends_refl H
visit_extends m saved H (served came talk) =
    let G : List Event = life (once_answered m saved) H talk.asks in
    extends_trans H G (stood (work_by m saved G talk.end)) (answers_extend m saved H talk.asks) (end_extends m saved G talk.end)

-- events add to a history
events_extend : (now : ℕ) (kinds : List EventKind) (H : List Event) → Extends H (with_events now kinds H)
events_extend now [] H = extends_refl H
events_extend now (k ∷ kinds) H =
    let e : Event = record { moment = now; kind = k } in
    extends_trans H (with_events now kinds H) (e ∷ with_events now kinds H) (events_extend now kinds H)
    (record { more = e ∷ []; is = refl })

-- and so do acts
acts_extend : (now : ℕ) (H : List Event) (acts : List Deed) → Extends H (once_all_done now H acts)
acts_extend now H [] = extends_refl H
acts_extend now H (d ∷ acts) =
    let G : List Event = once_all_done now H acts in
    extends_trans H G (once_done now G d) (acts_extend now H acts) (events_extend now (kinds_of G d) G)

-- and so do deliveries
pub posts_extend : (now : ℕ) (H : List Event) (ps : List Dispatch) → Extends H (once_all_dispatched now H ps)
posts_extend now H [] = extends_refl H
posts_extend now H (p ∷ before) =
    let G : List Event = once_all_dispatched now H before in
    extends_trans H G (once_dispatched now G p) (posts_extend now H before)
    (record { more = posted_event now p.subscription p.place (taken_by p.answer) ∷ []; is = refl })

-- a visit and the acts behind it add to a history
pub acted_extends : (m saved : ℕ) (H : List Event) (visit : Visit) (turn : Turning) → Extends H (once_acted m saved H visit turn)
acted_extends m saved H visit turn =
    let G : List Event = once_served m saved H visit in
    extends_trans H G (once_acted m saved H visit turn) (visit_extends m saved H visit) (acts_extend (moment_of turn) G turn.acts)

-- what is told in a visit is within what the acts behind it leave
pub acted_within : (m saved : ℕ) (H : List Event) (visit : Visit) (turn : Turning) → AreWithin (once_acted m saved H visit turn)
    (told_in_visit m saved H visit)
acted_within m saved H visit turn =
    let G : List Event = once_served m saved H visit in
    within_more G (once_acted m saved H visit turn) (told_in_visit m saved H visit) (acts_extend (moment_of turn) G turn.acts) (visit_within m saved H visit)

-- what is told in a round is within what it leaves
round_within : (m saved : ℕ) (H : List Event) (r : Round) → AreWithin (once_made m saved H r) (told_in_visit m saved H r.visit)
round_within m saved H r =
    let K : List Event = once_acted m saved H r.visit r.turn in
    within_more K (once_made m saved H r) (told_in_visit m saved H r.visit) (posts_extend (moment_of r.turn) K r.dispatches)
    (acted_within m saved H r.visit r.turn)

pub round_extends : (m saved : ℕ) (H : List Event) (r : Round) → Extends H (once_made m saved H r)
round_extends m saved H r =
    let K : List Event = once_acted m saved H r.visit r.turn in
    extends_trans H K (once_made m saved H r) (acted_extends m saved H r.visit r.turn) (posts_extend (moment_of r.turn) K r.dispatches)

-- the same of rounds
pub rounds_within : (m saved : ℕ) (H : List Event) (rounds : List Round) → AreWithin (life (once_made m saved) H rounds) (told_in_rounds m saved H rounds)
rounds_within m saved H [] = tt
rounds_within m saved H (r ∷ before) =
    let G : List Event = life (once_made m saved) H before in
    within_both (once_made m saved G r) (told_in_visit m saved G r.visit) (told_in_rounds m saved H before) (round_within m saved G r)
    (within_more G (once_made m saved G r) (told_in_rounds m saved H before) (round_extends m saved G r) (rounds_within m saved H before))

-- what the end of a session aims at begins with what it has
last_aims : (m saved : ℕ) (G : List Event) (last : Last) → Extends G (aimed (work_last m saved G last))
last_aims m saved G over = extends_refl G
last_aims m saved G (unheard cause reply) = extends_refl G
last_aims m saved G (untold x) = record { more = (outcome_of m saved G x).after; is = refl }
last_aims m saved G (starving x) = extends_refl G
last_aims m saved G (breaking x) = record { more = (outcome_of m saved G x).after; is = refl }

talk_aims : (m saved : ℕ) (H : List Event) (talk : Talk) → Extends H (aimed (work_of m saved H talk))
talk_aims m saved H talk = by talk.end
  where
    G : List Event
    G = life (once_answered m saved) H talk.asks

    by : (end : Option Closing) → Extends H (aimed (work_by m saved G end))
    by None = answers_extend m saved H talk.asks
    by (Some closing) =
        extends_trans H G (aimed (work_last m saved G closing.last)) (answers_extend m saved H talk.asks) (last_aims m saved G closing.last)

-- and so does that of a turn
act_aims : (now : ℕ) (kinds : List EventKind) (H : List Event) (why : WorkFault) → Extends H (aimed (recording now kinds H (Err why)))
act_aims now [] H why = extends_refl H
act_aims now (k ∷ kinds) H working.Disk = events_extend now (k ∷ kinds) H
act_aims now (k ∷ kinds) H working.Memory = events_extend now kinds H
act_aims now (k ∷ kinds) H (working.Full place more) = events_extend now kinds H
act_aims now (k ∷ kinds) H (working.TooLong n) = events_extend now kinds H

turn_aims : (now : ℕ) (H : List Event) (end : TurnEnd) → Extends H (aimed (turning.end_work now H end))
turn_aims now H turning.through = extends_refl H
turn_aims now H (turning.stopped d why) = act_aims now (kinds_of H d) H why

-- and that of deliveries
held_aims : (H : List Event) (why : DeliveryFault) → Extends H (aimed (nothing_recorded H why))
held_aims H delivering.Disk = extends_refl H
held_aims H delivering.Memory = extends_refl H
held_aims H (delivering.Full place more) = extends_refl H
held_aims H (delivering.BadRecord n) = extends_refl H

pub posts_aim : (now : ℕ) (H : List Event) (end : RoundEnd) → Extends H (aimed (outbox.end_work now H end))
posts_aim now H outbox.through = extends_refl H
posts_aim now H (outbox.stopped s idle why) = held_aims H why
posts_aim now H (outbox.stopped s (held place) why) = held_aims H why
posts_aim now H (outbox.stopped s (sent p) why) =
    record { more = posted_event now p.subscription p.place (taken_by p.answer) ∷ []; is = refl }

-- and so does that of the end of rounds
pub close_aims : (m saved : ℕ) (H : List Event) (close : Close) → Extends H (aimed (close_work m saved H close))
close_aims m saved H finished = extends_refl H
close_aims m saved H unreached = extends_refl H
close_aims m saved H (stopped came talk) = talk_aims m saved H talk
close_aims m saved H (halted visit turn end why) =
    let K : List Event = once_acted m saved H visit turn in
    extends_trans H K (aimed (turning.end_work (moment_of turn) K end)) (acted_extends m saved H visit turn) (turn_aims (moment_of turn) K end)
close_aims m saved H (undelivered visit turn ps end why) =
    let K : List Event = once_acted m saved H visit turn in
    let L : List Event = once_posted turn K ps in
    extends_trans H L (aimed (outbox.end_work (moment_of turn) L end))
    (extends_trans H K L (acted_extends m saved H visit turn) (posts_extend (moment_of turn) K ps))
    (posts_aim (moment_of turn) L end)
