-- What rounds do to the journal and to all that stands beside it.
use Rattle.std.specs.Prelude.{◌≡◌, ℕ, true, false, List, [], ◌∷◌, Result, Ok, Err, Some}
use Rattle.executor.specs.Chain.{AreTold}
use Rattle.executor.specs.Managed.{Managed}
use Rattle.executor.specs.Work.{Work, Works, WorksWithJobs, went}
use Rattle.lcm_mouth.specs.Mouth.{MouthState, Begins}
use Rattle.lcm_mouth.specs.Waiting.{IsNobody, IsUnreached}
use Rattle.lcm_mouth.specs.World as session
use Rattle.lcm_mouth.specs.World.{Peers, World, peers_of}
use Rattle.lcm_events.specs.declared.events.Event.{Event}
use Rattle.lcm_events.specs.declared.states.Role.{Role}
use Rattle.lcm_sessions.specs.Session.{Talk, breaks, life}
use Rattle.lcm_sessions.specs.Talking.{Attends}
use Rattle.notify_outbox.specs.Dispatches.{Dispatch}
use Rattle.notify_outbox.specs.Lent.{Carrier}
use Rattle.notify_outbox.specs.Rounds as outbox
use Rattle.notify_outbox.specs.Rounds.{DispatchesDo, RoundEnd, due}
use Rattle.occ_table.specs.Going.{active}
use Rattle.occ_work.specs.Around.{Around, Unasked}
use Rattle.occ_work.specs.Turns.{DeedsDo, EndDoes, IsFor, TurnEnd, through, stopped as by, once_all_done}
use Rattle.site_traits.specs.Clock.{Gives}
use Rattle.site_traits.specs.Door.{Comes, opened as has_come}
use Rattle.vnfm_commands.specs.Course.{Halt, halt_of, halting, Visit, unasked, served, Turning, Round, Close, finished}
use Rattle.vnfm_commands.specs.Course.{unreached, stopped, halted, undelivered, Service, close_ending, close_work}
use Rattle.vnfm_commands.specs.Course.{moment_of, once_acted, once_made, once_posted, once_served, role_for}
use Rattle.vnfm_commands.specs.Course.{service_work, serving, told_at_close, told_by, told_in_visit, undelivered_by}
use Rattle.vnfm_commands.specs.Outside.{Beside, Outside, Tells, acting_tells, beside, posting_tells, session_peers}
use Rattle.vnfm_commands.specs.Outside.{session_tells}
use Rattle.vnfm_commands.specs.declared.ending.Failure.{Failure}
use Rattle.vnfm_commands.specs.declared.ending.Failure.TheVariants.{DoorFault, SiteFault}
use Rattle.vnfm_commands.specs.declared.rounds.ServedRole.{ServedRole}

-- nobody was asked: the orchestrator and the courier are as they were, and running jobs may have ended by themselves
pub record AsksNobody (t : Tells) (a b : Beside) : Type 0 where
  pub orchestrator : b.around.orchestrator ≡ a.around.orchestrator
  pub courier : b.courier ≡ a.courier
  pub unasked : Unasked (acting_tells t) a.around b.around

-- only the journal was worked on
pub record Rests (t : Tells) (a b : Beside) : Type 0 where
  pub peers : session_peers b ≡ session_peers a
  pub asks : AsksNobody t a b

-- the door was asked, and nobody came
pub record ComesNobody (t : session.WorldTells) (a b : Peers) : Type 0 where
  pub nobody : t.door → IsNobody a.mouth.wire.intake.door b.mouth.wire.intake.door
  pub counts : b.mouth.wire.intake.counts ≡ a.mouth.wire.intake.counts
  pub clock : b.clock ≡ a.clock

-- a connection came, from this role as the door tells, this talk was held on it over history H of manager m, whose
-- journal saves so many bytes, and it was ended
pub record Receives (t : session.WorldTells) (m saved : ℕ) (H : List Event) (came : Role) (talk : Talk)
    (a b : Peers) : Type 0 where
  pub between : MouthState
  pub comes : t.door → Comes came a.mouth.wire.intake.door between.wire.intake.door
  pub counts : between.wire.intake.counts ≡ has_come a.mouth.wire.intake.counts
  pub begins : Begins between
  pub attends : Attends t m saved H talk (record { mouth = between; clock = a.clock }) b

-- waiting for a connection failed
pub record ComesNot (t : session.WorldTells) (a b : Peers) : Type 0 where
  pub unreached : IsUnreached t.door a.mouth b.mouth
  pub clock : b.clock ≡ a.clock

-- what a visit in which the disk didn't fail does to the connection and the clock, over history H
abbrev pub Visits : session.WorldTells → ℕ → ℕ → List Event → Visit → Peers → Peers → Type 0
Visits t m saved H unasked a b = ComesNobody t a b
Visits t m saved H (served came talk) a b = Receives t m saved H came talk a b × (breaks talk.end ≡ false)

-- what it does beside the journal: nobody else is asked
pub record VisitDoes (t : Tells) (m saved : ℕ) (H : List Event) (visit : Visit) (a b : Beside) : Type 0 where
  pub visits : Visits (session_tells t) m saved H visit (session_peers a) (session_peers b)
  pub asks : AsksNobody t a b

-- What a turn does that ended so, over history H: the clock is read, which gives the turn's value, and an act is made
-- for each occurrence that is active there, in the order of their numbers, each over the history that those before it
-- left, or up to one that ends in a fault.
pub record TurnDoes (t : Tells) (m saved : ℕ) (H : List Event) (turn : Turning) (end : TurnEnd)
    (a b : Beside) : Type 0 where
  pub mouth : b.mouth ≡ a.mouth
  pub courier : b.courier ≡ a.courier
  pub clock : t.clock → Gives turn.value a.clock b.clock
  pub between : Around
  pub acts : DeedsDo (acting_tells t) m (moment_of turn) H turn.acts a.around between
  pub end_does : EndDoes (acting_tells t) m saved (moment_of turn)
      (once_all_done (moment_of turn) H turn.acts) end between b.around
  pub each : IsFor (active H) turn.acts end

-- What the deliveries of a round do that ended so, over history H and at the moment of its turn: one post is made for
-- each live subscription for which a notice waits there, in the order of their numbers, each over the history that
-- those before it left, or up to one that ends in a fault (SOL 003 5.4.20). Nobody but the courier is asked, and
-- running jobs may have ended by themselves.
pub record PostingDoes (t : Tells) (m saved : ℕ) (H : List Event) (turn : Turning) (ps : List Dispatch)
    (end : RoundEnd) (a b : Beside) : Type 0 where
  pub mouth : b.mouth ≡ a.mouth
  pub clock : b.clock ≡ a.clock
  pub orchestrator : b.around.orchestrator ≡ a.around.orchestrator
  pub unasked : Unasked (acting_tells t) a.around b.around
  pub between : Carrier
  pub posts : DispatchesDo (posting_tells t) m (moment_of turn) H ps a.courier between
  pub end_does : outbox.EndDoes (posting_tells t) m saved (moment_of turn) (once_posted turn H ps) end between b.courier
  pub each : outbox.IsFor (due m H) ps end

-- what a turn that went through does behind a visit, over history H, and deliveries that ended so behind both
pub record RoundGoes (t : Tells) (m saved : ℕ) (H : List Event) (visit : Visit) (turn : Turning)
    (ps : List Dispatch) (end : RoundEnd) (a d : Beside) : Type 0 where
  pub met : Beside
  pub turned : Beside
  pub visits : VisitDoes t m saved H visit a met
  pub turns : TurnDoes t m saved (once_served m saved H visit) turn through met turned
  pub posts : PostingDoes t m saved (once_acted m saved H visit turn) turn ps end turned d

-- what a round does, over history H: a visit, then a turn that went through, over the history that the visit left, and
-- then deliveries that did, over the one that the turn left
abbrev pub RoundDoes : Tells → ℕ → ℕ → List Event → Round → Beside → Beside → Type 0
RoundDoes t m saved H r a b = RoundGoes t m saved H r.visit r.turn r.dispatches outbox.through a b

-- the rounds were made, each over the history that those before it left, and from where they ended
abbrev pub RoundsDo : Tells → ℕ → ℕ → List Event → List Round → Beside → Beside → Type 0
RoundsDo t m saved H [] a b = b ≡ a
RoundsDo t m saved H (r ∷ before) a c = (b : Beside) × RoundsDo t m saved H before a b
    × RoundDoes t m saved (life (once_made m saved) H before) r b c

-- the turn's end is one for this cause
abbrev pub FailsBy : TurnEnd → Halt → Type 0
FailsBy through why = ⊥
FailsBy (by d cause) why = halt_of cause ≡ Some why

-- how a turn ended, by what it answers: it went through, or for this failure
abbrev pub IsTurned : Result (Unit {0}) Failure → TurnEnd → Type 0
IsTurned (Ok done) through = Unit {0}
IsTurned (Err why) end = (cause : Halt) × FailsBy end cause × (why ≡ halting cause)
IsTurned answer other = ⊥

-- the end of the deliveries is one for this cause
abbrev pub StopsBy : RoundEnd → Halt → Type 0
StopsBy outbox.through why = ⊥
StopsBy (outbox.stopped s c cause) why = why ≡ undelivered_by cause

-- how deliveries ended, by what they answer: they went through, or for this failure
abbrev pub IsPosted : Result (Unit {0}) Failure → RoundEnd → Type 0
IsPosted (Ok done) outbox.through = Unit {0}
IsPosted (Err why) end = (cause : Halt) × StopsBy end cause × (why ≡ halting cause)
IsPosted answer other = ⊥

-- the rounds ended at the door: waiting for a connection failed, or the disk did in a talk
abbrev pub DoorEnds : session.WorldTells → ℕ → ℕ → List Event → Close → Peers → Peers → Type 0
DoorEnds t m saved H unreached a b = ComesNot t a b
DoorEnds t m saved H (stopped came talk) a b = Receives t m saved H came talk a b × (breaks talk.end ≡ true)
DoorEnds t m saved H other a b = ⊥

-- what the end of the rounds does; after a disk fault in a talk the clock isn't read
abbrev pub CloseDoes : Tells → ℕ → ℕ → List Event → Close → Beside → Beside → Type 0
CloseDoes t m saved H finished a b = b ≡ a
CloseDoes t m saved H unreached a b = DoorEnds (session_tells t) m saved H unreached (session_peers a) (session_peers b)
    × (b.around ≡ a.around) × (b.courier ≡ a.courier)
CloseDoes t m saved H (stopped came talk) a b = DoorEnds (session_tells t) m saved H (stopped came talk)
    (session_peers a) (session_peers b) × AsksNobody t a b
CloseDoes t m saved H (halted visit turn end why) a c =
    (b : Beside) × VisitDoes t m saved H visit a b
    × TurnDoes t m saved (once_served m saved H visit) turn end b c × FailsBy end why
CloseDoes t m saved H (undelivered visit turn ps end why) a b =
    RoundGoes t m saved H visit turn ps end a b × StopsBy end why

-- the talk of this visit, where there was one, was held for the stated role, or else for the one that the door told
abbrev pub IsVisitFor : ServedRole → Visit → Type 0
IsVisitFor role unasked = Unit {0}
IsVisitFor role (served came talk) = talk.role ≡ role_for role came

-- all talks of these rounds were held for the stated role, or else each for the one that the door told
abbrev pub AreFor : ServedRole → List Round → Type 0
AreFor role [] = Unit {0}
AreFor role (r ∷ before) = IsVisitFor role r.visit × AreFor role before

abbrev pub ClosesFor : ServedRole → Close → Type 0
ClosesFor role (stopped came talk) = talk.role ≡ role_for role came
ClosesFor role (halted visit turn end why) = IsVisitFor role visit
ClosesFor role (undelivered visit turn ps end why) = IsVisitFor role visit
ClosesFor role other = Unit {0}

-- what rounds do to all that stands beside the journal: they were made, and ended so, and all talks were held for the
-- stated role, or else each for the one that the door told
pub record Serves (t : Tells) (m saved : ℕ) (H : List Event) (service : Service) (a b : Beside) : Type 0 where
  pub between : Beside
  pub rounds : RoundsDo t m saved H service.rounds a between
  pub close : CloseDoes t m saved (life (once_made m saved) H service.rounds) service.close between b
  pub roles : AreFor service.role service.rounds
  pub role : ClosesFor service.role service.close

-- What they do to the journal too, which saves as much as before; the manager is now n. From the telling of each reply
-- on no stop takes back the history behind it.
pub record Makes (t : Tells) (m saved : ℕ) (H : List Event) (service : Service) (n : Managed)
    (w v : Outside) : Type 0 where
  pub works : WorksWithJobs t.site m H (service_work m saved H service) n w.site v.site
  pub saves : n.ledger.saved ≡ saved
  pub serves : Serves t m saved H service (beside w) (beside v)
  pub told : AreTold t.site m (told_by m saved H (serving service)) w.mouth.told v.mouth.told w.site v.site

-- what came of asking the door: a visit in which the disk didn't fail, or the rounds ended so
pub data Met : Type 0 where
  visited : Visit → Met
  over : Close → Met

-- its work behind history H
abbrev pub met_work : ℕ → ℕ → List Event → Met → Work
met_work m saved H (visited visit) = went (once_served m saved H visit)
met_work m saved H (over c) = close_work m saved H c

-- the histories behind what is told in it
abbrev pub told_in_met : ℕ → ℕ → List Event → Met → List (List Event)
told_in_met m saved H (visited visit) = told_in_visit m saved H visit
told_in_met m saved H (over c) = told_at_close m saved H c

abbrev pub MetDoes : session.WorldTells → ℕ → ℕ → List Event → Met → Peers → Peers → Type 0
MetDoes t m saved H (visited visit) a b = Visits t m saved H visit a b
MetDoes t m saved H (over c) a b = DoorEnds t m saved H c a b

-- its talk was held for the stated role, or else for the one that the door told
abbrev pub MetFor : ServedRole → Met → Type 0
MetFor role (visited visit) = IsVisitFor role visit
MetFor role (over c) = ClosesFor role c

-- the rounds ended at the door, for this failure
abbrev pub IsDoorEnd : Failure → Close → Type 0
IsDoorEnd why unreached = why ≡ DoorFault
IsDoorEnd why (stopped came talk) = why ≡ SiteFault
IsDoorEnd why other = ⊥

-- what it was, by what it answers
abbrev pub IsMet : Result (Unit {0}) Failure → Met → Type 0
IsMet (Ok done) (visited visit) = Unit {0}
IsMet (Err why) (over c) = IsDoorEnd why c
IsMet answer other = ⊥

-- what asking the door does, over history H of manager m, which is now n; its journal saves as much as before
pub record Meets (t : session.WorldTells) (m saved : ℕ) (H : List Event) (met : Met) (n : Managed)
    (w v : World) : Type 0 where
  pub works : Works t.site m H (met_work m saved H met) n w.site v.site
  pub saves : n.ledger.saved ≡ saved
  pub does : MetDoes t m saved H met (peers_of w) (peers_of v)
  pub told : AreTold t.site m (told_in_met m saved H met) w.mouth.told v.mouth.told w.site v.site

-- what came of asking for one round more: it was made, or they ended so
pub data One : Type 0 where
  round : Round → One
  end : Close → One

-- its work behind history H
abbrev pub one_work : ℕ → ℕ → List Event → One → Work
one_work m saved H (round r) = went (once_made m saved H r)
one_work m saved H (end c) = close_work m saved H c

-- the histories behind what is told in it
abbrev pub told_in_one : ℕ → ℕ → List Event → One → List (List Event)
told_in_one m saved H (round r) = told_in_visit m saved H r.visit
told_in_one m saved H (end c) = told_at_close m saved H c

abbrev pub OneDoes : Tells → ℕ → ℕ → List Event → One → Beside → Beside → Type 0
OneDoes t m saved H (round r) a b = RoundDoes t m saved H r a b
OneDoes t m saved H (end c) a b = CloseDoes t m saved H c a b

-- its talk was held for the stated role, or else for the one that the door told
abbrev pub OneFor : ServedRole → One → Type 0
OneFor role (round r) = IsVisitFor role r.visit
OneFor role (end c) = ClosesFor role c

-- the rounds ended for this failure
abbrev pub IsEndFor : Failure → Close → Type 0
IsEndFor why finished = ⊥
IsEndFor why c = Err why ≡ close_ending 0 c

-- what it was, by what it answers
abbrev pub IsOne : Result (Unit {0}) Failure → One → Type 0
IsOne (Ok done) (round r) = Unit {0}
IsOne (Err why) (end c) = IsEndFor why c
IsOne answer other = ⊥

-- what it does; the journal saves as much as before
pub record MakesOne (t : Tells) (m saved : ℕ) (H : List Event) (one : One) (n : Managed) (w v : Outside) : Type 0 where
  pub works : WorksWithJobs t.site m H (one_work m saved H one) n w.site v.site
  pub saves : n.ledger.saved ≡ saved
  pub does : OneDoes t m saved H one (beside w) (beside v)
  pub told : AreTold t.site m (told_in_one m saved H one) w.mouth.told v.mouth.told w.site v.site
