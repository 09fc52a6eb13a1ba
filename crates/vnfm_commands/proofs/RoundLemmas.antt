-- One round, and the rounds so far.
use Rattle.std.proofs.Common.{◌≡◌, ◌<◌, ◌+◌, ◌⊎◌, ℕ, Bool, true, false, true≢false, List, [], ◌∷◌, length, Option, Some, None, option_map}
use Rattle.std.proofs.Common.{min, Result, Ok, Err, sym, subst, refl, ap, ◌∙◌, arith}
use Rattle.executor.specs.Chain.{AreTold, ChainsJoin}
use Rattle.executor.specs.Managed.{Managed, IsReady}
use Rattle.executor.specs.declared.manager.WorkFault.{WorkFault}
use Rattle.executor.specs.declared.manager.WorkFault.TheVariants as working
use Rattle.executor.specs.Work.{Idles, Work, Works, WorksAreWithJobs, WorksWithJobs, WorksWithJobsJoin, WorksWithJobsLeadOn, LeadsOn, went}
use Rattle.executor.specs.Work.{stood}
use Rattle.lcm_mouth.specs.Mouth.{MouthState, Begins}
use Rattle.lcm_sessions.specs.Session.{Last, Closing, Talk, behind_told, over as no_more, unheard, untold, starving, breaking, breaks}
use Rattle.lcm_sessions.specs.Session.{is_breaking, life, work_by, work_last, work_of}
use Rattle.lcm_mouth.specs.World as session
use Rattle.lcm_mouth.specs.World.{Peers, World, peers_of, world}
use Rattle.lcm_sessions.specs.Talking as talking
use Rattle.lcm_events.specs.declared.events.Event.{Event}
use Rattle.lcm_events.specs.declared.states.Role.{Role}
use Rattle.notify_outbox.specs.Dispatches.{Dispatch}
use Rattle.notify_outbox.specs.Lent as lending
use Rattle.notify_outbox.specs.Rounds as outbox
use Rattle.notify_outbox.specs.Rounds.{DeliversAll, EndsRound, RoundEnd, end_work}
use Rattle.notify_outbox.specs.declared.faults.DeliveryFault.{DeliveryFault}
use Rattle.notify_outbox.specs.declared.rounds.Deliveries.{Deliveries}
use Rattle.occ_work.specs.Around.{Peer, Unasked}
use Rattle.occ_work.specs.Turns.{EndsTurn, TurnEnd, Turns, through, stopped as by, turn_work}
use Rattle.occ_work.specs.declared.ends.Acted.{Acted}
use Rattle.occ_work.specs.declared.ends.Turn.{Turn}
use Rattle.site_traits.specs.Clock.{Gives}
use Rattle.site_traits.specs.Counts.{OnlyDiskFails}
use Rattle.site_traits.specs.Door.{Comes, ComesNot, next_failed, opened as has_come}
use Rattle.site_traits.specs.declared.door.NextAnswer.{NextAnswer}
use Rattle.site_traits.specs.declared.door.NextAnswer.TheVariants.{Nobody, Ended}
use Rattle.site_traits.specs.Moments.{kept_jobs}
use Rattle.site_traits.specs.Site.{KeepsJobs, SiteState}
use Rattle.vnfm_commands.specs.Course.{Visit, unasked, served, Turning, Round, Close, finished, unreached, stopped, halted, undelivered}
use Rattle.vnfm_commands.specs.Course.{Halt, full, starving as lacking, broken, halt_of, Service, IsCount, close_ending, close_work}
use Rattle.vnfm_commands.specs.Course.{halting, moment_of, once_acted, once_made, once_posted, once_served, told_at_close}
use Rattle.vnfm_commands.specs.Course.{told_in_rounds, told_in_visit, undelivered_by}
use Rattle.vnfm_commands.specs.Outside.{Beside, Outside, Tells, acting_outside, acting_tells, beside, posting_outside, posting_tells}
use Rattle.vnfm_commands.specs.Outside.{session_tells, session_world}
use Rattle.vnfm_commands.specs.Rounds.{AreFor, AsksNobody, IsDoorEnd, IsEndFor, IsMet, IsOne, IsPosted, IsTurned, IsVisitFor}
use Rattle.vnfm_commands.specs.Rounds.{Makes, MakesOne, Meets, Met, visited, over, MetFor, One, round, end, OneFor, Receives, RoundGoes}
use Rattle.vnfm_commands.specs.Rounds.{RoundsDo, TurnDoes, VisitDoes}
use Rattle.vnfm_commands.proofs.ToldLemmas.{acted_within, rounds_within, visit_within}
use Rattle.vnfm_commands.specs.declared.ending.Failure.{Failure}
use Rattle.vnfm_commands.specs.declared.ending.Failure.TheVariants.{DoorFault}
use Rattle.vnfm_commands.specs.declared.rounds.ServedRole.{ServedRole}
use Rattle.occ_work.specs.Deeds.{Deed, point}

unbroken_last : (m saved : ℕ) (H : List Event) (last : Last) → is_breaking last ≡ false → work_last m saved H last ≡ went (stood (work_last m saved H last))
unbroken_last m saved H no_more fine = refl
unbroken_last m saved H (unheard cause reply) fine = refl
unbroken_last m saved H (untold x) fine = refl
unbroken_last m saved H (starving x) fine = refl
unbroken_last m saved H (breaking x) fine = absurd (true≢false fine)

unbroken_by : (m saved : ℕ) (H : List Event) (closing : Option Closing) → breaks closing ≡ false
    → work_by m saved H closing ≡ went (stood (work_by m saved H closing))
unbroken_by m saved H None fine = refl
unbroken_by m saved H (Some closing) fine = unbroken_last m saved H closing.last fine

-- a talk in which the disk didn't fail went well
unbroken : (m saved : ℕ) (H : List Event) (talk : Talk) → breaks talk.end ≡ false → work_of m saved H talk ≡ went (stood (work_of m saved H talk))
unbroken m saved H talk fine = unbroken_by m saved _ talk.end fine

-- what came of a connection, by whether the disk failed in the talk
abbrev pub came_of : Bool → Role → Talk → Met
came_of true came talk = over (stopped came talk)
came_of false came talk = visited (served came talk)

-- a connection came and was served
pub met_served : (t : session.WorldTells) (m saved : ℕ) (H : List Event) (broke : Bool) (came : Role) (talk : Talk) (n : Managed) (s : SiteState)
    (c d : MouthState) (ks : List ℕ) (v : World)
    → (t.door → Comes came c.wire.intake.door d.wire.intake.door) → d.wire.intake.counts ≡ has_come c.wire.intake.counts → Begins d
    → d.told ≡ c.told → talking.Serves t m saved H talk n (world s d ks) v → breaks talk.end ≡ broke
    → Meets t m saved H (came_of broke came talk) n (world s c ks) v
met_served t m saved H broke came talk n s c d ks v comes counts begins unnoted serves is = by broke is
  where
    receives : Receives t m saved H came talk (record { mouth = c; clock = ks }) (peers_of v)
    receives = record { between = d; comes = comes; counts = counts; begins = begins; attends = serves.attends }

    told : AreTold t.site m (behind_told m saved H talk) c.told v.mouth.told s v.site
    told = subst (λ (before : List ℕ). AreTold t.site m (behind_told m saved H talk) before v.mouth.told s v.site) unnoted serves.told

    by : (b : Bool) → breaks talk.end ≡ b → Meets t m saved H (came_of b came talk) n (world s c ks) v
    by true stops = record { works = serves.works; saves = serves.saves; does = (receives, stops); told = told }
    by false fine =
        let P : Work → Type 0 = λ w. Works t.site m H w n s v.site in
        record { works = subst P (unbroken m saved H talk fine) serves.works; saves = serves.saves; does = (receives, fine); told = told }

-- the failure is that of a turn that answered so
abbrev pub IsFailureOf : Result Turn WorkFault → Result (Unit {0}) Failure → Type 0
IsFailureOf (Ok turn) (Ok done) = Unit {0}
IsFailureOf (Err cause) (Err why) = option_map halting (halt_of cause) ≡ Some why
IsFailureOf result answer = ⊥

-- the cause of a fault that is this failure
caused : (fault : WorkFault) (why : Failure) → option_map halting (halt_of fault) ≡ Some why
    → (halt : Halt) × (halt_of fault ≡ Some halt) × (why ≡ halting halt)
caused (working.Full place more) why is = (full place more, refl, cc)
caused working.Memory why is = (lacking, refl, cc)
caused working.Disk why is = (broken, refl, cc)
caused (working.TooLong n) why is = absurd (cc is)

-- how a turn ended, by the failure of what it answered
pub turned : (result : Result Turn WorkFault) (answer : Result (Unit {0}) Failure) (ends : List Acted) (ended : TurnEnd)
    → EndsTurn result ends ended → IsFailureOf result answer → IsTurned answer ended
turned (Ok turn) (Ok done) ends through is of = tt
turned (Ok turn) (Ok done) ends (by d cause) is of = absurd is
turned (Ok turn) (Err why) ends ended is of = absurd of
turned (Err fault) (Ok done) ends ended is of = absurd of
turned (Err fault) (Err why) ends through is of = absurd is
turned (Err fault) (Err why) ends (by d cause) is of =
    let h = caused fault why of in
    (h.0, subst (λ (f : WorkFault). halt_of f ≡ Some h.0) is h.1, h.2)

-- how deliveries ended that went through
pub posted_all : (made : Deliveries) (ps : List Dispatch) (ended : RoundEnd) → EndsRound (Ok made) ps ended
    → IsPosted (Ok (tt {0})) ended
posted_all made ps outbox.through is = tt
posted_all made ps (outbox.stopped s c cause) is = absurd is

-- how deliveries ended in a fault, by its failure
pub posted_some : (fault : DeliveryFault) (why : Failure) (ps : List Dispatch) (ended : RoundEnd) → EndsRound (Err fault) ps ended
    → why ≡ halting (undelivered_by fault) → IsPosted (Err why) ended
posted_some fault why ps outbox.through is of = absurd is
posted_some fault why ps (outbox.stopped s c cause) is of = (
  undelivered_by cause,
  refl,
  of ∙ ap (λ (f : DeliveryFault). halting (undelivered_by f)) is,
)

-- calls that leave the jobs alone, of which only those on the disk fail, ask neither the orchestrator nor the infrastructure
calls_nobody : (t : Tells) (failed : Type 0) (w v : Outside) → v.orchestrator ≡ w.orchestrator → (t.site → KeepsJobs w.site v.site)
    → OnlyDiskFails failed w.counts v.counts → Unasked (acting_tells t) (beside w).around (beside v).around
calls_nobody t failed w v orchestrator alone counts = record {
  told = λ tells. ap (λ (p : Peer). p.state) orchestrator;
  counts = ap (λ (p : Peer). p.counts) orchestrator;
  handled = record {
    jobs = λ tells. kept_jobs w.site v.site (alone tells);
    answers = λ tells. (alone tells).answers;
    counts = record { vim = counts.vim; look = counts.look; refusals = counts.refusals };
  };
}

-- the same where the courier is as it was
pub asks_nobody : (t : Tells) (failed : Type 0) (w v : Outside) → v.orchestrator ≡ w.orchestrator → v.courier ≡ w.courier
    → (t.site → KeepsJobs w.site v.site) → OnlyDiskFails failed w.counts v.counts → AsksNobody t (beside w) (beside v)
asks_nobody t failed w v orchestrator courier alone counts = record {
  orchestrator = orchestrator;
  courier = courier;
  unasked = calls_nobody t failed w v orchestrator alone counts;
}

-- What a visit did, and what the turn behind it does, from where that ended.
pub record Went (t : Tells) (m saved : ℕ) (H : List Event) (visit : Visit) (n : Managed) (w u : Outside) : Type 0 where
  pub works : WorksWithJobs t.site m H (went (once_served m saved H visit)) n w.site u.site
  pub saves : n.ledger.saved ≡ saved
  pub does : VisitDoes t m saved H visit (beside w) (beside u)
  pub told : AreTold t.site m (told_in_visit m saved H visit) w.mouth.told u.mouth.told w.site u.site

pub record Goes (t : Tells) (m saved : ℕ) (H : List Event) (turn : Turning) (ended : TurnEnd) (o : Managed) (u v : Outside) : Type 0 where
  pub turns : Turns (acting_tells t) (point m saved (moment_of turn) H) turn.acts ended o (acting_outside u) (acting_outside v)
  pub does : TurnDoes t m saved H turn ended (beside u) (beside v)

-- the turn at the moment of what the clock gave, in which these acts were made
abbrev pub turning : ℕ → List Deed → Turning
turning value acts = record { value = value; acts = acts }

-- what a visit did for this role, and the turn behind it, by what that answered
pub record HasTurned (t : Tells) (role : ServedRole) (m saved : ℕ) (H : List Event) (value : ℕ) (answer : Result (Unit {0}) Failure)
    (n o : Managed) (w u v : Outside) : Type 0 where
  pub visit : Visit
  pub acts : List Deed
  pub ended : TurnEnd
  pub first : Went t m saved H visit n w u
  pub second : Goes t m saved (once_served m saved H visit) (turning value acts) ended o u v
  pub for : IsVisitFor role visit
  pub is : IsTurned answer ended

-- what a visit did for this role, and a turn behind it that went through
pub record HasActed (t : Tells) (role : ServedRole) (m saved : ℕ) (H : List Event) (value : ℕ) (n : Managed) (w v : Outside) : Type 0 where
  pub visit : Visit
  pub acts : List Deed
  pub works : WorksWithJobs t.site m H (went (once_acted m saved H visit (turning value acts))) n w.site v.site
  pub saves : n.ledger.saved ≡ saved
  pub met : Beside
  pub visits : VisitDoes t m saved H visit (beside w) met
  pub turns : TurnDoes t m saved (once_served m saved H visit) (turning value acts) through met (beside v)
  pub told : AreTold t.site m (told_in_visit m saved H visit) w.mouth.told v.mouth.told w.site v.site
  pub for : IsVisitFor role visit

-- the chain of both
told_by_both : (t : Tells) (m saved : ℕ) (H : List Event) (visit : Visit) (turn : Turning) (ended : TurnEnd) (n o : Managed) (w u v : Outside)
    → ChainsJoin t.site w.site u.site v.site
    → Went t m saved H visit n w u → Goes t m saved (once_served m saved H visit) turn ended o u v
    → AreTold t.site m (told_in_visit m saved H visit) w.mouth.told v.mouth.told w.site v.site
told_by_both t m saved H visit turn ended n o w u v chains first second =
    let G : List Event = once_served m saved H visit in
    chains m H G (turn_work (moment_of turn) G turn.acts ended) n o [] (told_in_visit m saved H visit) w.mouth.told u.mouth.told v.mouth.told
    first.works.at_file.site (visit_within m saved H visit) first.told second.turns.works.at_file.site
    (ap (λ (x : MouthState). x.told) second.does.mouth)

-- a turn that went through, behind a visit
pub has_acted : (t : Tells) (role : ServedRole) (m saved : ℕ) (H : List Event) (value : ℕ) (n o : Managed) (w u v : Outside)
    → WorksWithJobsJoin t.site w.site u.site v.site → ChainsJoin t.site w.site u.site v.site
    → HasTurned t role m saved H value (Ok tt) n o w u v → HasActed t role m saved H value o w v
has_acted t role m saved H value n o w u v joins chains it = went_by it.ended it.second it.is
  where
    went_by : (e : TurnEnd) → Goes t m saved (once_served m saved H it.visit) (turning value it.acts) e o u v → IsTurned (Ok (tt {0})) e
        → HasActed t role m saved H value o w v
    went_by through gone is =
        let G : List Event = once_served m saved H it.visit in
        let turn : Turning = turning value it.acts in
        record {
          visit = it.visit;
          acts = it.acts;
          works = joins m H G (turn_work (moment_of turn) G turn.acts through) n o it.first.works gone.turns.works;
          saves = gone.turns.saved;
          met = beside u;
          visits = it.first.does;
          turns = gone.does;
          told = told_by_both t m saved H it.visit turn through n o w u v chains it.first gone;
          for = it.for;
        }
    went_by (by d cause) gone is = absurd is

-- behind it the manager is ready for the deliveries
pub ready_acted : (t : Tells) (role : ServedRole) (m saved : ℕ) (H : List Event) (value : ℕ) (n : Managed) (w v : Outside)
    → WorksWithJobsLeadOn t.site w.site v.site → HasActed t role m saved H value n w v → (G : List Event) × IsReady t.site n G v.site
ready_acted t role m saved H value n w v leads it =
    let G : List Event = once_acted m saved H it.visit (turning value it.acts) in
    (G, leads m H (went G) n it.works refl)

-- a visit and a turn that ended in a fault end the rounds
pub round_halted : (t : Tells) (role : ServedRole) (m saved : ℕ) (H : List Event) (value : ℕ) (why : Failure) (n o : Managed) (w u v : Outside)
    → WorksWithJobsJoin t.site w.site u.site v.site → ChainsJoin t.site w.site u.site v.site
    → HasTurned t role m saved H value (Err why) n o w u v
    → (one : One) × MakesOne t m saved H one o w v × OneFor role one × IsOne (Err why) one
round_halted t role m saved H value why n o w u v joins chains it =
    let G : List Event = once_served m saved H it.visit in
    let turn : Turning = turning value it.acts in (
      end (halted it.visit turn it.ended it.is.0),
      record {
        works = joins m H G (turn_work (moment_of turn) G turn.acts it.ended) n o it.first.works it.second.turns.works;
        saves = it.second.turns.saved;
        does = (beside u, it.first.does, it.second.does, it.is.1);
        told = told_by_both t m saved H it.visit turn it.ended n o w u v chains it.first it.second;
      },
      it.for,
      ap Err it.is.2,
    )

-- the deliveries of a round behind what was done in it before
record Posts (t : Tells) (m saved : ℕ) (H : List Event) (visit : Visit) (turn : Turning) (ps : List Dispatch) (ended : RoundEnd) (o : Managed)
    (w v : Outside) : Type 0 where
  works : WorksWithJobs t.site m H (end_work (moment_of turn) (once_posted turn (once_acted m saved H visit turn) ps) ended) o w.site v.site
  saves : o.ledger.saved ≡ saved
  does : RoundGoes t m saved H visit turn ps ended (beside w) (beside v)
  told : AreTold t.site m (told_in_visit m saved H visit) w.mouth.told v.mouth.told w.site v.site

-- what came of a round in which a turn went through, by what its deliveries answered
round_by : (t : Tells) (role : ServedRole) (m saved : ℕ) (H : List Event) (visit : Visit) (turn : Turning) (ps : List Dispatch)
    (ended : RoundEnd) (answer : Result (Unit {0}) Failure) (o : Managed) (w v : Outside)
    → Posts t m saved H visit turn ps ended o w v → IsVisitFor role visit → IsPosted answer ended
    → (one : One) × MakesOne t m saved H one o w v × OneFor role one × IsOne answer one
round_by t role m saved H visit turn ps outbox.through (Ok done) o w v posts for is = (
  round (record { visit = visit; turn = turn; dispatches = ps }),
  record { works = posts.works; saves = posts.saves; does = posts.does; told = posts.told },
  for,
  tt,
)
round_by t role m saved H visit turn ps (outbox.stopped s c cause) (Ok done) o w v posts for is = absurd is
round_by t role m saved H visit turn ps ended (Err why) o w v posts for is = (
  end (undelivered visit turn ps ended is.0),
  record { works = posts.works; saves = posts.saves; does = (posts.does, is.1); told = posts.told },
  for,
  ap Err is.2,
)

-- what came of a round in which a turn went through
pub round_posted : (t : Tells) (role : ServedRole) (m saved : ℕ) (H : List Event) (value now : ℕ) (answer : Result (Unit {0}) Failure)
    (failed : Type 0) (n o : Managed) (w u v : Outside)
    → WorksWithJobsLeadOn t.site w.site u.site → WorksWithJobsJoin t.site w.site u.site v.site → ChainsJoin t.site w.site u.site v.site
    → WorksAreWithJobs t.site u.site v.site
    → OnlyDiskFails failed u.counts v.counts → v.mouth ≡ u.mouth → v.clock ≡ u.clock → v.orchestrator ≡ u.orchestrator
    → now ≡ min value 253402300799999
    → HasActed t role m saved H value n w u
    → ((G : List Event) → IsReady t.site n G u.site → (ps : List Dispatch) × (ended : RoundEnd)
    × DeliversAll (posting_tells t) (lending.point n.ledger.manager n.ledger.saved now G) ps ended o (posting_outside u) (posting_outside v)
    × IsPosted answer ended)
    → (one : One) × MakesOne t m saved H one o w v × OneFor role one × IsOne answer one
round_posted t role m saved H value now answer failed n o w u v leads joins chains alone counts mouth clock orchestrator timed acted
    posts =
    let turn : Turning = turning value acted.acts in
    let G : List Event = once_acted m saved H acted.visit turn in
    let it = posts G (leads m H (went G) n acted.works refl) in
    let P : ℕ → Type 0 = λ x. DeliversAll (posting_tells t) (lending.point x n.ledger.saved now G) it.0 it.1 o (posting_outside u)
    (posting_outside v) in
    let R : ℕ → Type 0 = λ x. DeliversAll (posting_tells t) (lending.point m x now G) it.0 it.1 o (posting_outside u) (posting_outside v) in
    let Q : ℕ → Type 0 = λ x. DeliversAll (posting_tells t) (lending.point m saved x G) it.0 it.1 o (posting_outside u) (posting_outside v) in
    let did = subst Q timed (subst R acted.saves (subst P acted.works.at_file.number it.2)) in
    let K : Work = end_work (moment_of turn) (once_posted turn G it.0) it.1 in
    let behind = alone m G K o did.works in
    round_by t role m saved H acted.visit turn it.0 it.1 answer o w v
    (record {
      works = joins m H G K n o acted.works behind;
      saves = did.saved;
      does = record {
        met = acted.met;
        turned = beside u;
        visits = acted.visits;
        turns = acted.turns;
        posts = record {
          mouth = mouth;
          clock = clock;
          orchestrator = orchestrator;
          unasked = calls_nobody t failed u v orchestrator did.works.jobs counts;
          between = did.between;
          posts = did.dispatches_do;
          end_does = did.end_does;
          each = did.order;
        };
      };
      told = chains m H G K n o [] (told_in_visit m saved H acted.visit) w.mouth.told u.mouth.told v.mouth.told acted.works.at_file.site
          (acted_within m saved H acted.visit turn) acted.told behind.at_file.site (ap (λ (x : MouthState). x.told) mouth);
    })
    acted.for it.3

-- which visit it was that was made
pub the_visit : (met : Met) → IsMet (Ok tt) met → (v : Visit) × (met ≡ visited v)
the_visit (visited v) is = (v, refl)
the_visit (over c) is = absurd is

-- behind a visit the manager is ready for the turn
pub ready_met : (t : session.WorldTells) (role : ServedRole) (m n : Managed) (w u : World) → LeadsOn t.site w.site u.site
    → ((H : List Event) → IsReady t.site m H w.site → (met : Met) × Meets t m.ledger.manager m.ledger.saved H met n w u × MetFor role met
    × IsMet (Ok tt) met)
    → (H : List Event) × IsReady t.site m H w.site → (H : List Event) × IsReady t.site n H u.site
ready_met t role m n w u leads meets ready =
    let it = meets ready.0 ready.1 in
    let v = the_visit it.0 it.3 in
    let P : Met → Type 0 = λ x. Meets t m.ledger.manager m.ledger.saved ready.0 x n w u in
    let met : Meets t m.ledger.manager m.ledger.saved ready.0 (visited v.0) n w u = subst P v.1 it.1 in
    let G : List Event = once_served m.ledger.manager m.ledger.saved ready.0 v.0 in
    (G, leads m.ledger.manager ready.0 (went G) n met.works refl)

-- a turn behind a visit that was made
pub turned_behind : (t : Tells) (role : ServedRole) (m n o : Managed) (value now : ℕ) (answer : Result (Unit {0}) Failure) (failed : Type 0)
    (w u v : Outside) → LeadsOn t.site w.site u.site → WorksAreWithJobs t.site w.site u.site
    → OnlyDiskFails failed w.counts u.counts → u.orchestrator ≡ w.orchestrator → u.courier ≡ w.courier → v.mouth ≡ u.mouth
    → v.courier ≡ u.courier → (t.clock → Gives value u.clock v.clock) → now ≡ min value 253402300799999
    → ((H : List Event) → IsReady t.site m H w.site → (met : Met) × Meets (session_tells t) m.ledger.manager m.ledger.saved H met n (session_world w)
    (session_world u) × MetFor role met × IsMet (Ok tt) met)
    → ((H : List Event) → IsReady t.site n H u.site → (acts : List Deed) × (ended : TurnEnd)
    × Turns (acting_tells t) (point n.ledger.manager n.ledger.saved now H) acts ended o (acting_outside u) (acting_outside v) × IsTurned answer ended)
    → (H : List Event) → IsReady t.site m H w.site → HasTurned t role m.ledger.manager m.ledger.saved H value answer n o w u v
turned_behind t role m n o value now answer failed w u v leads alone counts orchestrator courier mouth same gives timed meets turns H
    ready =
    let it = meets H ready in
    let met_as = the_visit it.0 it.3 in
    let P : Met → Type 0 = λ x. Meets (session_tells t) m.ledger.manager m.ledger.saved H x n (session_world w) (session_world u) in
    let Q : Met → Type 0 = λ x. MetFor role x in
    let met : Meets (session_tells t) m.ledger.manager m.ledger.saved H (visited met_as.0) n (session_world w) (session_world u) = subst P met_as.1 it.1 in
    let G : List Event = once_served m.ledger.manager m.ledger.saved H met_as.0 in
    let turned = turns G (leads m.ledger.manager H (went G) n met.works refl) in
    let R : ℕ → Type 0 = λ x. Turns (acting_tells t) (point x n.ledger.saved now G) turned.0 turned.1 o (acting_outside u)
    (acting_outside v) in
    let Z : ℕ → Type 0 = λ x. Turns (acting_tells t) (point m.ledger.manager x now G) turned.0 turned.1 o (acting_outside u)
    (acting_outside v) in
    let S : ℕ → Type 0 = λ x. Turns (acting_tells t) (point m.ledger.manager m.ledger.saved x G) turned.0 turned.1 o (acting_outside u)
    (acting_outside v) in
    let done = subst S timed (subst Z met.saves (subst R met.works.number turned.2)) in
    record {
      visit = met_as.0;
      acts = turned.0;
      ended = turned.1;
      first = record {
        works = alone m.ledger.manager H (went G) n met.works;
        saves = met.saves;
        does = record { visits = met.does; asks = asks_nobody t failed w u orchestrator courier met.works.jobs counts };
        told = met.told;
      };
      second = record {
        turns = done;
        does = record {
          mouth = mouth;
          courier = same;
          clock = gives;
          between = done.between;
          acts = done.deeds_do;
          end_does =
              done.end_does;
          each = done.order;
        };
      };
      for = subst Q met_as.1 it.2;
      is = turned.3;
    }

-- the rounds that ended at the door
pub door_end : (why : Failure) (c : Close) → IsDoorEnd why c → IsEndFor why c
door_end why finished is = absurd is
door_end why unreached is = ap Err is
door_end why (stopped came talk) is = ap Err is
door_end why (halted visit turn ended cause) is = absurd is
door_end why (undelivered visit turn ps ended cause) is = absurd is

-- nobody came
pub met_nobody : (t : session.WorldTells) (m : Managed) (H : List Event) (answer : NextAnswer) (s : SiteState) (c d : MouthState)
    (ks : List ℕ) → Idles t.site s → IsReady t.site m H s
    → (answer ≡ Nobody) ⊎ (answer ≡ Ended) → (t.door → ComesNot answer c.wire.intake.door d.wire.intake.door)
    → d.wire.intake.counts ≡ c.wire.intake.counts → d.told ≡ c.told
    → Meets t m.ledger.manager m.ledger.saved H (visited unasked) m (world s c ks) (world s d ks)
met_nobody t m H answer s c d ks idles ready none comes counts unnoted = record {
  works = idles m H ready;
  saves = refl;
  does = record { nobody = λ told. record { answer = answer; none = none; told = comes told }; counts = counts; clock = refl };
  told = unnoted;
}

-- waiting failed
pub met_unreached : (t : session.WorldTells) (m : Managed) (H : List Event) (s : SiteState) (c d : MouthState) (ks : List ℕ)
    → Idles t.site s → IsReady t.site m H s
    → (t.door → d.wire.intake.door ≡ c.wire.intake.door) → d.wire.intake.counts ≡ next_failed c.wire.intake.counts → d.told ≡ c.told
    → Meets t m.ledger.manager m.ledger.saved H (over unreached) m (world s c ks) (world s d ks)
met_unreached t m H s c d ks idles ready same counts unnoted = record {
  works = idles m H ready;
  saves = refl;
  does =
      record { unreached = record { same = same; counts = counts }; clock = refl };
  told = unnoted;
}

-- what came of the door in a round that the door ended is what ended it, and nobody was asked
pub round_over : (t : Tells) (m saved : ℕ) (H : List Event) (role : ServedRole) (why : Failure) (failed : Type 0) (met : Met) (n : Managed)
    (w v : Outside)
    → WorksAreWithJobs t.site w.site v.site → Meets (session_tells t) m saved H met n (session_world w) (session_world v) → MetFor role met
    → IsMet (Err why) met
    → OnlyDiskFails failed w.counts v.counts → v.orchestrator ≡ w.orchestrator → v.courier ≡ w.courier
    → (why ≡ DoorFault → (beside v).around ≡ (beside w).around)
    → (one : One) × MakesOne t m saved H one n w v × OneFor role one × IsOne (Err why) one
round_over t m saved H role why failed (visited visit) n w v alone meets for is counts orchestrator courier same = absurd is
round_over t m saved H role why failed (over finished) n w v alone meets for is counts orchestrator courier same = absurd is
round_over t m saved H role why failed (over unreached) n w v alone meets for is counts orchestrator courier same = (
  end unreached,
  record {
    works = alone m H (went H) n meets.works;
    saves = meets.saves;
    does = (meets.does, same is, courier);
    told = meets.told;
  },
  for,
  door_end why unreached is,
)
round_over t m saved H role why failed (over (stopped came talk)) n w v alone meets for is counts orchestrator courier same = (
  end (stopped came talk),
  record {
    works = alone m H (work_of m saved H talk) n meets.works;
    saves = meets.saves;
    does = (meets.does, asks_nobody t failed w v orchestrator courier meets.works.jobs counts);
    told = meets.told;
  },
  for,
  door_end why (stopped came talk) is,
)
round_over t m saved H role why failed (over (halted visit turn ended cause)) n w v alone meets for is counts orchestrator courier same =
    absurd is
round_over t m saved H role why failed (over (undelivered visit turn ps ended cause)) n w v alone meets for is counts orchestrator courier
    same = absurd is

-- the rounds so far: all were made
pub record RoundsSoFar (t : Tells) (role : ServedRole) (m n : Managed) (made : ℕ) (w v : Outside) : Type 0 where
  pub each : (H : List Event) → IsReady t.site m H w.site → (rounds : List Round)
      × WorksWithJobs t.site m.ledger.manager H (went (life (once_made m.ledger.manager m.ledger.saved) H rounds)) n w.site v.site
      × RoundsDo t m.ledger.manager m.ledger.saved H rounds (beside w) (beside v) × AreFor role rounds × (made ≡ length rounds)
      × AreTold t.site m.ledger.manager (told_in_rounds m.ledger.manager m.ledger.saved H rounds) w.mouth.told v.mouth.told w.site v.site
      × (n.ledger.saved ≡ m.ledger.saved)

pub none_made : (t : Tells) (role : ServedRole) (m : Managed) (w : Outside) → Idles t.site w.site → WorksAreWithJobs t.site w.site w.site
    → RoundsSoFar t role m m 0 w w
none_made t role m w idles alone = record {
  each = λ H ready. ([], alone m.ledger.manager H (went H) m (idles m H ready), refl, tt, refl, refl, refl);
}

pub ready_so_far : (t : Tells) (role : ServedRole) (m n : Managed) (made : ℕ) (w v : Outside) → RoundsSoFar t role m n made w v
    → WorksWithJobsLeadOn t.site w.site v.site
    → (H : List Event) × IsReady t.site m H w.site → (H : List Event) × IsReady t.site n H v.site
ready_so_far t role m n made w v so_far leads ready =
    let it = so_far.each ready.0 ready.1 in
    let G : List Event = life (once_made m.ledger.manager m.ledger.saved) ready.0 it.0 in
    (G, leads m.ledger.manager ready.0 (went G) n it.1 refl)

-- which round it was that was made
the_round : (one : One) → IsOne (Ok tt) one → (r : Round) × (one ≡ round r)
the_round (round r) is = (r, refl)
the_round (end c) is = absurd is

-- and how they ended
the_end : (why : Failure) (one : One) → IsOne (Err why) one → (c : Close) × (one ≡ end c) × IsEndFor why c
the_end why (round r) is = absurd is
the_end why (end c) is = (c, refl, is)

-- one round more
pub one_round_more : (t : Tells) (role : ServedRole) (m n o : Managed) (made : ℕ) (w u v : Outside) → RoundsSoFar t role m n made w u
    → WorksWithJobsLeadOn t.site w.site u.site
    → WorksWithJobsJoin t.site w.site u.site v.site → ChainsJoin t.site w.site u.site v.site
    → ((H : List Event) → IsReady t.site n H u.site → (one : One) × MakesOne t n.ledger.manager n.ledger.saved H one o u v × OneFor role one
    × IsOne (Ok tt) one)
    → RoundsSoFar t role m o (made + 1) w v
one_round_more t role m n o made w u v so_far leads joins chains step = record {
  each = λ H ready.
      let it = so_far.each H ready in
      let G : List Event = life (once_made m.ledger.manager m.ledger.saved) H it.0 in
      let did = step G (leads m.ledger.manager H (went G) n it.1 refl) in
      let r = the_round did.0 did.3 in
      let P : One → Type 0 = λ z. MakesOne t n.ledger.manager n.ledger.saved G z o u v in
      let Q : ℕ → Type 0 = λ k. MakesOne t k n.ledger.saved G (round r.0) o u v in
      let S : ℕ → Type 0 = λ k. MakesOne t m.ledger.manager k G (round r.0) o u v in
      let R : One → Type 0 = λ z. OneFor role z in
      let one : MakesOne t m.ledger.manager m.ledger.saved G (round r.0) o u v =
      subst S it.6 (subst Q it.1.at_file.number (subst P r.1 did.1)) in
      let count = it.4 in (
        r.0 ∷ it.0,
        joins m.ledger.manager H G (went (once_made m.ledger.manager m.ledger.saved G r.0)) n o it.1 one.works,
        (beside u, it.2, one.does),
        (subst R r.1 did.2, it.3),
        omega (arith, count),
        chains m.ledger.manager H G (went (once_made m.ledger.manager m.ledger.saved G r.0)) n o (told_in_visit m.ledger.manager m.ledger.saved G r.0.visit)
            (told_in_rounds m.ledger.manager m.ledger.saved H it.0) w.mouth.told u.mouth.told v.mouth.told
            it.1.at_file.site (rounds_within m.ledger.manager m.ledger.saved H it.0) it.5 one.works.at_file.site one.told,
        one.saves,
      );
}

-- all were made
pub all_made : (t : Tells) (role : ServedRole) (m n : Managed) (made count : ℕ) (w v : Outside) → RoundsSoFar t role m n made w v
    → made ≡ count → (H : List Event) → IsReady t.site m H w.site
    → (service : Service) × Makes t m.ledger.manager m.ledger.saved H service n w v × (service.role ≡ role)
    × IsCount count (length service.rounds) service.close × (made ≡ length service.rounds) × (service.close ≡ finished)
all_made t role m n made count w v so_far all H ready =
    let it = so_far.each H ready in
    let service : Service = record { role = role; rounds = it.0; close = finished } in (
      service,
      record {
        works = it.1;
        saves = it.6;
        serves = record { between = beside v; rounds = it.2; close = refl; roles = it.3; role = tt };
        told = it.5;
      },
      refl,
      sym it.4 ∙ all,
      it.4,
      refl,
    )

-- the rounds ended for this failure
pub rounds_ended : (t : Tells) (role : ServedRole) (m n o : Managed) (made count : ℕ) (why : Failure) (w u v : Outside)
    → RoundsSoFar t role m n made w u → WorksWithJobsLeadOn t.site w.site u.site
    → WorksWithJobsJoin t.site w.site u.site v.site → ChainsJoin t.site w.site u.site v.site → made < count
    → ((H : List Event) → IsReady t.site n H u.site → (one : One) × MakesOne t n.ledger.manager n.ledger.saved H one o u v × OneFor role one
    × IsOne (Err why) one)
    → (H : List Event) → IsReady t.site m H w.site
    → (service : Service) × Makes t m.ledger.manager m.ledger.saved H service o w v × (service.role ≡ role)
    × IsCount count (length service.rounds) service.close × (Err why ≡ close_ending (length service.rounds) service.close)
rounds_ended t role m n o made count why w u v so_far leads joins chains fewer step H ready =
    let it = so_far.each H ready in
    let G : List Event = life (once_made m.ledger.manager m.ledger.saved) H it.0 in
    let did = step G (leads m.ledger.manager H (went G) n it.1 refl) in
    let c = the_end why did.0 did.3 in
    let P : One → Type 0 = λ z. MakesOne t n.ledger.manager n.ledger.saved G z o u v in
    let Q : ℕ → Type 0 = λ k. MakesOne t k n.ledger.saved G (end c.0) o u v in
    let S : ℕ → Type 0 = λ k. MakesOne t m.ledger.manager k G (end c.0) o u v in
    let R : One → Type 0 = λ z. OneFor role z in
    let one : MakesOne t m.ledger.manager m.ledger.saved G (end c.0) o u v =
    subst S it.6 (subst Q it.1.at_file.number (subst P c.1 did.1)) in
    let service : Service = record { role = role; rounds = it.0; close = c.0 } in
    let count_is = it.4 in
    let less : length it.0 < count = omega (arith, fewer, count_is) in (
      service,
      record {
        works = joins m.ledger.manager H G (close_work m.ledger.manager m.ledger.saved G c.0) n o it.1 one.works;
        saves = one.saves;
        serves = record { between = beside u; rounds = it.2; close = one.does; roles = it.3; role = subst R c.1 did.2 };
        told = chains m.ledger.manager H G (close_work m.ledger.manager m.ledger.saved G c.0) n o (told_at_close m.ledger.manager m.ledger.saved G c.0)
            (told_in_rounds m.ledger.manager m.ledger.saved H it.0) w.mouth.told u.mouth.told v.mouth.told
            it.1.at_file.site (rounds_within m.ledger.manager m.ledger.saved H it.0) it.5 one.works.at_file.site one.told;
      },
      refl,
      fewer_by why c.0 (length it.0) count c.2 less,
      ended_by why c.0 (length it.0) c.2,
    )
  where
    fewer_by : (why : Failure) (c : Close) (n wanted : ℕ) → IsEndFor why c → n < wanted → IsCount wanted n c
    fewer_by why finished n wanted is less = absurd is
    fewer_by why unreached n wanted is less = less
    fewer_by why (stopped came talk) n wanted is less = less
    fewer_by why (halted visit turn after cause) n wanted is less = less
    fewer_by why (undelivered visit turn ps after cause) n wanted is less = less

    ended_by : (why : Failure) (c : Close) (n : ℕ) → IsEndFor why c → Err why ≡ close_ending n c
    ended_by why finished n is = absurd is
    ended_by why unreached n is = is
    ended_by why (stopped came talk) n is = is
    ended_by why (halted visit turn after cause) n is = is
    ended_by why (undelivered visit turn ps after cause) n is = is
