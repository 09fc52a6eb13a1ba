-- What one step of a session is.
use Rattle.std.proofs.Common.{◌≡◌, ◌≤◌, ◌∙◌, ℕ, List, [], ◌∷◌, ◌++◌, Option, Some, None, Result, Ok, Err, true, false, sym, subst, refl, ap}
use Rattle.std.proofs.Common.{append-nil, arith, if◌then◌else◌, take, Bool, ◌⊎◌, ⊎_elim, codes}
use Rattle.std.specs.Result.{is_ok}
use Rattle.executor.specs.Chain.{AreTold, StandingStays}
use Rattle.executor.specs.Managed.{Managed, IsReady}
use Rattle.executor.specs.Work.{Idles, Stays, Work, went, stood, Works}
use Rattle.http_wire.specs.Wire.{WireState, bytes_of, Counts, FaultCounts, OnlyTakesIn, ReadCounts, TakesNone}
use Rattle.http_wire.specs.declared.request.Request.{Request}
use Rattle.http_wire.specs.declared.request.Taken.{Taken}
use Rattle.http_wire.specs.declared.request.WireFault.{WireFault}
use Rattle.http_wire.specs.declared.request.WireFault.TheVariants as wire
use Rattle.lcm_replies.specs.Failing.{FailsOnce, counts_by}
use Rattle.lcm_mouth.specs.Mouth.{MouthState, OnlyAtDoor, Takes}
use Rattle.lcm_replies.specs.Response.{text}
use Rattle.lcm_api.specs.Answering.{IsAcknowledged, IsOutcomeOf}
use Rattle.lcm_api.specs.Outcome.{outcome}
use Rattle.lcm_replies.specs.Replies.{refusal, starved}
use Rattle.lcm_sessions.specs.Session.{AreFor, Ask, Last, Closing, Talk, asked_last, behind_last, behind_told, counts_behind, has_reply}
use Rattle.lcm_sessions.specs.Session.{is_breaking, is_cut, is_lost, unheard, once_answered, outcome_of, replies, reply_last, said}
use Rattle.lcm_sessions.specs.Session.{taken_by, work_last}
use Rattle.lcm_sessions.specs.Step.{Responds, IsAbout, IsStep, answered_one, ended_so}
use Rattle.lcm_sessions.specs.declared.session.Step.{Step}
use Rattle.lcm_sessions.specs.declared.session.Step.TheVariants as step
use Rattle.site_traits.specs.Clock.{Gives}
use Rattle.lcm_mouth.specs.World as outside
use Rattle.lcm_mouth.specs.World.{World, world}
use Rattle.lcm_sessions.specs.Talking.{Remains, remains_of, IsNext, AreRequests, GaveAll, Converses, IsSaid, SaysLast, Speaks, AsksLast}
use Rattle.lcm_sessions.specs.Talking.{EndsFor, IsRejection, Talks}
use Rattle.lcm_replies.specs.Telling.{WorldTells}
use Rattle.lcm_replies.specs.declared.door.DoorFailed.{DoorFailed}
use Rattle.lcm_replies.specs.declared.reply.Reply.{Reply}
use Rattle.lcm_sessions.proofs.TalkLemmas.{converses_then, converses_read, converses_told, converses_front, counts_left, counts_since}
use Rattle.lcm_sessions.proofs.TalkLemmas.{counts_then, ends_since}
use Rattle.lcm_events.specs.declared.events.Event.{Event}
use Rattle.lcm_events.specs.declared.states.Role.{Role}
use Rattle.site_traits.specs.Door.{DoorCounts, DoorState, NoNextFault}
use Rattle.site_traits.specs.Site.{SiteState}

-- what is left of a connection stays where nothing comes in
remains_kept : (read : List ℕ) (out : List ℕ) (u v : MouthState) → OnlyAtDoor u v → Converses [] out u.wire.intake.door v.wire.intake.door
    → remains_of v.wire ≡ remains_of u.wire
remains_kept read out u v kept door =
    let held = kept.held in
    let left : v.wire.intake.door.conn.left ≡ u.wire.intake.door.conn.left = sym door.left in
    let bytes : bytes_of v.wire.intake ≡ bytes_of u.wire.intake = rw (held, left) refl in
    rw (bytes, kept.taken, kept.ended) refl

-- the request that was taken is the next one
next_taken : (tells : Type 0) (r : Request) (a b : WireState) → Counts tells a b r → tells → IsNext r (remains_of a) (remains_of b)
next_taken tells r a b counts told = record {
  goes_on = counts.goes_on;
  message = counts.takes.message;
  reads = counts.takes.reads told;
  method = counts.takes.method;
  target = counts.takes.target;
  media = counts.takes.media;
  body = counts.takes.body;
  last = counts.takes.last;
  taken = counts.taken;
  ended = counts.ended;
}

-- a fault of the wire leaves one failed read where it is that
pub cut_counts : (cause : WireFault) (reply : Option Reply) (a b : DoorCounts) → FaultCounts cause a b
    → b ≡ counts_by (is_cut (unheard cause reply)) a
cut_counts wire.Malformed reply a b counts = counts
cut_counts wire.TooLarge reply a b counts = counts
cut_counts wire.Unfinished reply a b counts = counts
cut_counts wire.Read reply a b counts = counts
cut_counts wire.Memory reply a b counts = counts

-- a request was taken and answered
pub talk_of_request : (t : outside.WorldTells) (m z : ℕ) (H : List Event) (talk : Talk) (r : Request) (n : Managed) (s : SiteState)
    (c u : MouthState) (ks : List ℕ) (v : World)
    → Counts t.door c.wire u.wire r → OnlyTakesIn t.door c.wire.intake u.wire.intake → u.wire.intake.counts ≡ c.wire.intake.counts
    → u.told ≡ c.told → Responds t m z H talk n (world s u ks) v → IsAbout r talk → Talks t m z H talk n (world s c ks) v
talk_of_request t m z H talk r n s c u ks v counts reads same unnoted does about =
    let Q : List Ask → Type 0 = λ asks. AreRequests asks (remains_of c.wire) (remains_of v.mouth.wire) in
    record {
      works = does.works;
      saves = does.saves;
      holds = record {
        roles = subst (AreFor talk.role) (sym about.is) (refl, tt);
        requests = λ told.
            let replied = does.replies told in
            let rest = remains_kept [] (said (replies m z H talk.asks) ++ replied.final) u v.mouth does.kept replied.door in
            let P : Remains → Type 0 = λ z. IsNext r (remains_of c.wire) z in
            subst Q (sym about.is) (remains_of c.wire, refl, subst P (sym rest) (next_taken t.door r c.wire u.wire counts told));
        speaks = λ told.
            let replied = does.replies told in
            let came = reads.door told in
            record {
              read = came.0 ++ [];
              final = replied.final;
              final_is = replied.final_is;
              door = converses_then came.0 [] [] (said (replies m z H talk.asks) ++ replied.final) c.wire.intake.door u.wire.intake.door
                  v.mouth.wire.intake.door
                  (converses_read came.0 c.wire.intake.door u.wire.intake.door came.1) replied.door;
            };
        clock = does.clock;
        ends = ends_since t.door talk.end c.wire u.wire v.mouth.wire same does.ends;
        faults = counts_since talk.end c.wire.intake.counts u.wire.intake.counts v.mouth.wire.intake.counts same does.faults;
        counts = counts_then c.wire.intake.counts u.wire.intake.counts v.mouth.wire.intake.counts reads.counts does.counts;
      };
      told = subst (λ (before : List ℕ). AreTold t.site m (behind_told m z H talk) before v.mouth.told s v.site) unnoted does.told;
    }

-- what a telling at the end says
pub says_last : (reply : Reply) (told : Result (Unit {0}) DoorFailed) (a b : DoorState) → WorldTells (text reply) told a b
    → (final : List ℕ) × IsSaid (Some reply) told final × Converses [] final a b
says_last reply (Ok done) a b tells = (text reply, refl, converses_told (text reply) a b tells)
says_last reply (Err failed) a b tells =
    let front = converses_front (text reply) failed a b tells in
    (take front.0 (text reply), (front.0, refl), front.1)

-- No request was taken, and the session ends.
pub talk_of_end : (t : outside.WorldTells) (m : Managed) (H : List Event) (role : Role) (end : Closing) (answer : Result Taken WireFault)
    (s : SiteState) (c u v : MouthState) (ks : List ℕ)
    → Idles t.site s → IsReady t.site m H s → Takes t.door answer c.wire u.wire → OnlyTakesIn t.door c.wire.intake u.wire.intake
    → TakesNone t.door c.wire u.wire
    → asked_last end.last ≡ [] → work_last m.ledger.manager m.ledger.saved H end.last ≡ went H
    → (AsksLast t.door answer (is_lost end) c.wire v.wire → EndsFor t.door end.last end.told c.wire v.wire)
    → (t.door → (final : List ℕ) × IsSaid (reply_last m.ledger.manager m.ledger.saved H end.last) end.told final
    × Converses [] final u.wire.intake.door v.wire.intake.door)
    → OnlyAtDoor u v → ReadCounts answer c.wire.intake.counts u.wire.intake.counts
    → u.wire.intake.counts ≡ counts_by (is_cut end.last) c.wire.intake.counts
    → FailsOnce (is_lost end) u.wire.intake.counts v.wire.intake.counts
    → AreTold t.site m.ledger.manager (behind_last m.ledger.manager m.ledger.saved H (Some end) ++ []) c.told v.told s s
    → Talks t m.ledger.manager m.ledger.saved H (ended_so role end) m (world s c ks) (world s v ks)
talk_of_end t m H role end answer s c u v ks idles ready takes reads none asked work ends says kept heard cut fails told_of =
    let P : Work → Type 0 = λ w. Works t.site m.ledger.manager H w m s s in
    let Q : List Ask → Type 0 = λ asks. AreRequests (asks ++ []) (remains_of c.wire) (remains_of v.wire) in
    let R : List Ask → Type 0 = λ asks. GaveAll (asks ++ []) ks ks in
    record {
      works = subst P (sym work) (idles m H ready);
      saves = refl;
      holds = record {
        roles = subst (λ (asks : List Ask). AreFor role (asks ++ [])) (sym asked) tt;
        requests = λ told.
            let said_so = says told in
            let same = remains_kept [] said_so.0 u v kept said_so.2 in
            let before : remains_of u.wire ≡ remains_of c.wire = rw (none.bytes told, none.taken, none.ended) refl in
            subst Q (sym asked) (same ∙ before);
        speaks = λ told.
            let said_so = says told in
            let came = reads.door told in
            record {
              read = came.0 ++ [];
              final = said_so.0;
              final_is = said_so.1;
              door = converses_then came.0 [] [] said_so.0 c.wire.intake.door u.wire.intake.door v.wire.intake.door
                  (converses_read came.0 c.wire.intake.door u.wire.intake.door came.1) said_so.2;
            };
        clock = λ told. subst R (sym asked) refl;
        ends = ends (record {
          before = c.wire;
          behind = u.wire;
          takes = takes;
          since = refl;
          reads = heard;
          until = fails.is;
          bytes = λ told. ap (λ (z : Remains). z.bytes) (remains_kept [] (says told).0 u v kept (says told).2);
          held = kept.held;
          taken = kept.taken;
          ended = kept.ended;
        });
        faults = fails.is ∙ ap (counts_by (is_lost end)) cut;
        counts = counts_then c.wire.intake.counts u.wire.intake.counts v.wire.intake.counts reads.counts fails.counts;
      };
      told = told_of;
    }

-- a reply that acknowledges what the manager's history ends with may be told
pub acknowledged : (tells : Type 0) (m z : ℕ) (H : List Event) (role : Role) (r : Request) (now : ℕ) (n : Managed) (a b : SiteState)
    (hand : Option Request) (reply : Reply) → Stays b
    → Works tells m H (went ((outcome m z H now role r).after ++ H)) n a b → hand ≡ Some r → reply ≡ (outcome m z H now role r).reply
    → n.ledger.saved ≡ z → IsAcknowledged tells n b hand role reply
acknowledged tells m z H role r now n a b hand reply stays works in_hand is saved =
    let P : ℕ → Type 0 = λ k. IsOutcomeOf k n.ledger.saved ((outcome m z H now role r).after ++ H) role r reply in
    let Q : ℕ → Type 0 = λ k. IsOutcomeOf m k ((outcome m z H now role r).after ++ H) role r reply in
    record {
      history = (outcome m z H now role r).after ++ H;
      request = r;
      usable = works.closed;
      keeps = works.keeps;
      in_hand = in_hand;
      is = subst P (sym works.number) (subst Q (sym saved) (record { before = H; now = now; reply_is = is; history_is = refl }));
      everywhere = λ told. (stays n ((outcome m z H now role r).after ++ H) ((works.site told).stands refl)).left;
    }

-- the request in hand is one
pub same_hand : (hand : Option Request) (q r : Request) → hand ≡ Some q → hand ≡ Some r → q ≡ r
same_hand hand q r one other = cc

-- the reply to a request was told whole
pub responds_told : (t : outside.WorldTells) (m z : ℕ) (H : List Event) (role : Role) (x : Ask) (n : Managed) (reply : Reply) (w v : World)
    → Works t.site m H (went (once_answered m z H x)) n w.site v.site → n.ledger.saved ≡ z
    → reply ≡ (outcome_of m z H x).reply → (t.clock → Gives x.value w.clock v.clock)
    → (t.door → WorldTells (text reply) (Ok tt) w.mouth.wire.intake.door v.mouth.wire.intake.door)
    → OnlyAtDoor w.mouth v.mouth → FailsOnce false w.mouth.wire.intake.counts v.mouth.wire.intake.counts
    → StandingStays t.site w.site v.site → v.mouth.told ≡ v.site.moment ∷ w.mouth.told → Responds t m z H (answered_one role x) n w v
responds_told t m z H role x n reply w v works saved is gives told kept fails stands noted = record {
  works = works;
  saves = saved;
  replies = λ tells.
      let P : Reply → Type 0 = λ r. Converses [] (text r ++ []) w.mouth.wire.intake.door v.mouth.wire.intake.door in
      let Q : List ℕ → Type 0 = λ out. Converses [] out w.mouth.wire.intake.door v.mouth.wire.intake.door in
      record {
        final = [];
        final_is = refl;
        door = subst P is (subst Q (sym (append-nil (text reply)))
            (converses_told (text reply) _ _ (told tells)));
      };
  clock = λ tells. (w.clock, refl, gives tells);
  ends = tt;
  faults = fails.is;
  kept = kept;
  counts = fails.counts;
  told = (v.site.moment, w.mouth.told, noted, stands m H (went (once_answered m z H x)) n works.site, refl);
}

-- the session ends with a request
pub responds_last : (t : outside.WorldTells) (m z : ℕ) (H : List Event) (role : Role) (x : Ask) (last : Last)
    (result : Result (Unit {0}) DoorFailed) (n : Managed) (reply : Reply) (w v : World)
    → asked_last last ≡ x ∷ [] → Works t.site m H (work_last m z H last) n w.site v.site → n.ledger.saved ≡ z
    → reply_last m z H last ≡ Some reply
    → EndsFor t.door last result w.mouth.wire v.mouth.wire
    → (t.clock → Gives x.value w.clock v.clock) → (t.door → WorldTells
    (text reply) result w.mouth.wire.intake.door v.mouth.wire.intake.door)
    → OnlyAtDoor w.mouth v.mouth → v.mouth.wire.intake.counts ≡ counts_behind
    (Some (record { last = last; told = result })) w.mouth.wire.intake.counts
    → NoNextFault w.mouth.wire.intake.counts v.mouth.wire.intake.counts → StandingStays t.site w.site v.site → has_reply last ≡ true
    → v.mouth.told ≡ v.site.moment ∷ w.mouth.told → Responds t m z H (ended_so role (record { last = last; told = result })) n w v
responds_last t m z H role x last result n reply w v asked works saved is ends gives told kept faults counts stands some noted =
    let A : Bool → Type 0 = λ b. AreTold t.site m ((if b then stood (work_last m z H last) ∷ [] else []) ++ []) w.mouth.told v.mouth.told
    w.site v.site in
    let Q : List Ask → Type 0 = λ asks. GaveAll (asks ++ []) w.clock v.clock in
    record {
      works = works;
      saves = saved;
      replies = λ tells.
          let says = says_last reply result w.mouth.wire.intake.door v.mouth.wire.intake.door (told tells) in
          let P : Option Reply → Type 0 = λ o. IsSaid o result says.0 in
          record { final = says.0; final_is = subst P (sym is) says.1; door = says.2 };
      clock = λ tells. subst Q (sym asked) (w.clock, refl, gives tells);
      ends = ends;
      faults = faults;
      kept = kept;
      counts = counts;
      told = subst A (sym some) (v.site.moment, w.mouth.told, noted, stands m H (work_last m z H last) n works.site, refl);
    }

-- a talk about a request, under another name of it
pub about : (q r : Request) (value : ℕ) (talk : Talk) → q ≡ r → taken_by talk ≡ record { role = talk.role; request = q; value = value } ∷ []
    → IsAbout r talk
about q r value talk same is = record {
  value = value;
  is = is ∙ ap
      (λ (z : Request). record { role = talk.role; request = z; value = value } ∷ []) same;
}

-- the answer of a telling at the end, as one of a step
pub told_step : (role : Role) (last : Last) (result : Result (Unit {0}) DoorFailed) (answer : Step) → has_reply last ≡ true
    → is_breaking last ≡ false
    → answer ≡ (if is_ok result then step.ToldLast else step.Over)
    → IsStep role (ended_so role (record { last = last; told = result })) answer
told_step role last (Ok done) answer some fine is =
    let P : Step → Type 0 = λ s. IsStep role (ended_so role (record { last = last; told = Ok done })) s in
    subst P (sym is) (record { last = last; told = Ok done }, refl, rw some refl, fine)
told_step role last (Err failed) answer some fine is =
    let P : Step → Type 0 = λ s. IsStep role (ended_so role (record { last = last; told = Err failed })) s in
    subst P (sym is) (record { last = last; told = Err failed }, refl, rw some refl, fine)

-- no call of the door failed
pub fails_not : (a : DoorCounts) → FailsOnce false a a
fails_not a = record { counts = counts_left a; is = refl }

-- nothing changes at the door
pub door_left : (u : MouthState) → OnlyAtDoor u u
door_left u = record { held = refl; taken = refl; ended = refl; hand = refl; role = refl }

refusal_status : (status : ℕ) (detail : List ℕ) (last : Bool) → (refusal status detail last).status ≡ status
unfolding refusal
refusal_status status detail last = refl

some_status : (reply other : Reply) → Some reply ≡ Some other → reply.status ≡ other.status
some_status reply other same = let is : reply ≡ other = cc in ap (λ (r : Reply). r.status) is

either_refuses : (reply : Reply) (status : ℕ) (detail : List ℕ) → 400 ≤ status
    → (Some reply ≡ Some (refusal status detail true)) ⊎ (Some reply ≡ Some starved) → 400 ≤ reply.status
either_refuses reply status detail most is = ⊎_elim
    (λ (one : Some reply ≡ Some (refusal status detail true)). let same =
    some_status reply (refusal status detail true) one ∙ refusal_status status detail true in omega (arith, same, most))
    (λ (other : Some reply ≡ Some starved). let same : reply.status ≡ 503 = some_status reply starved other in omega (arith, same))
    is

-- what is told where there is no request is a refusal
pub rejection_refuses : (cause : WireFault) (reply : Reply) → IsRejection cause (Some reply) → 400 ≤ reply.status
rejection_refuses wire.Malformed reply is = either_refuses reply 400 (codes "malformed request") (omega arith) is
rejection_refuses wire.TooLarge reply is = either_refuses reply 413 (codes "request too large") (omega arith) is
rejection_refuses wire.Unfinished reply is = let wrong : Some reply ≡ None = is in cc
rejection_refuses wire.Read reply is = let wrong : Some reply ≡ None = is in cc
rejection_refuses wire.Memory reply is = let same : reply.status ≡ 503 = some_status reply starved is in omega (arith, same)
