-- A talk behind another is one talk.
use Rattle.std.proofs.Common.{◌≡◌, ◌≤◌, ◌∙◌, ℕ, List, [], ◌∷◌, ◌++◌, Option, Some, None, Result, Ok, Err, take, length, true, sym, subst}
use Rattle.std.proofs.Common.{refl, ap, append_assoc, append-nil, arith, ◌+◌, ◌<◌, ◌⊎◌, Bool, inl, inr, ⊎_elim}
use Rattle.executor.specs.Chain.{AreTold, AreWithin, ChainsJoin}
use Rattle.executor.specs.Managed.{Managed, IsReady}
use Rattle.executor.proofs.WorkLemmas.{extends_refl, extends_trans}
use Rattle.executor.specs.Work.{Extends, Idles, Joins, LeadsOn, Works}
use Rattle.http_wire.specs.declared.TheConstants.{CONNECTION_REQUESTS}
use Rattle.http_wire.specs.Intake.{OnlyReads}
use Rattle.http_wire.specs.Wire.{WireState}
use Rattle.lcm_replies.specs.Response.{text}
use Rattle.lcm_sessions.specs.Session.{AreFor, Ask, Last, Closing, Talk, over, unheard, untold, starving, breaking, behind_last}
use Rattle.lcm_sessions.specs.Session.{behind_replies, behind_told, counts_behind, life, once_answered, outcome_of, replies, said, asked_by}
use Rattle.lcm_sessions.specs.Session.{work_by}
use Rattle.lcm_sessions.specs.Step.{answered_one, ended_so}
use Rattle.lcm_mouth.specs.World as outside
use Rattle.lcm_sessions.specs.Talking as talking
use Rattle.lcm_mouth.specs.World.{World}
use Rattle.lcm_sessions.specs.Talking.{Remains, IsNext, AreRequests, GaveAll, Converses, SaysLast, Speaks, AsksLast, EndsFor, Ends, Talks}
use Rattle.lcm_replies.specs.Telling.{WorldTells}
use Rattle.lcm_replies.specs.declared.door.DoorFailed.{DoorFailed}
use Rattle.lcm_replies.specs.declared.reply.Reply.{Reply}
use Rattle.lcm_events.specs.declared.events.Event.{Event}
use Rattle.lcm_events.specs.declared.states.Role.{Role}
use Rattle.site_traits.specs.Door.{DoorState, DoorCounts, NoNextFault}

pub life_more : {X : Type 0} (next : List Event → X → List Event) (H : List Event) (ys xs : List X)
    → life next H (ys ++ xs) ≡ life next (life next H xs) ys
life_more next H [] xs = refl
life_more next H (y ∷ ys) xs = ap (λ (G : List Event). next G y) (life_more next H ys xs)

replies_more : (m z : ℕ) (H : List Event) (ys xs : List Ask) → replies m z H (ys ++ xs)
    ≡ replies m z (life (once_answered m z) H xs) ys ++ replies m z H xs
replies_more m z H [] xs = refl
replies_more m z H (y ∷ ys) xs =
    let one : (outcome_of m z (life (once_answered m z) H (ys ++ xs)) y).reply
    ≡ (outcome_of m z (life (once_answered m z) (life (once_answered m z) H xs) ys) y).reply =
    ap (λ (G : List Event). (outcome_of m z G y).reply) (life_more (once_answered m z) H ys xs) in
    ap (λ (r : Reply). r ∷ replies m z H (ys ++ xs)) one ∙ ap (λ (t : List Reply).
    (outcome_of m z (life (once_answered m z) (life (once_answered m z) H xs) ys) y).reply ∷ t) (replies_more m z H ys xs)

-- the histories behind replies, of requests behind others
behind_more : (m z : ℕ) (H : List Event) (ys xs : List Ask)
    → behind_replies m z H (ys ++ xs) ≡ behind_replies m z (life (once_answered m z) H xs) ys ++ behind_replies m z H xs
behind_more m z H [] xs = refl
behind_more m z H (y ∷ ys) xs =
    let G : List Event = life (once_answered m z) H xs in
    ap (λ (K : List Event). K ∷ behind_replies m z H (ys ++ xs)) (life_more (once_answered m z) H (y ∷ ys) xs)
    ∙ ap (λ (Ks : List (List Event)). life (once_answered m z) G (y ∷ ys) ∷ Ks) (behind_more m z H ys xs)

-- what is within a history is within one that goes on from it
pub within_more : (H G : List Event) (Ks : List (List Event)) → Extends H G → AreWithin H Ks → AreWithin G Ks
within_more H G [] on within = tt
within_more H G (K ∷ Ks) on within = (extends_trans K H G within.0 on, within_more H G Ks on within.1)

-- the history behind requests goes on from those behind each of them
pub answered_within : (m z : ℕ) (H : List Event) (xs : List Ask) → AreWithin (life (once_answered m z) H xs) (behind_replies m z H xs)
answered_within m z H [] = tt
answered_within m z H (x ∷ xs) =
    let G : List Event = life (once_answered m z) H xs in (
      extends_refl (once_answered m z G x),
      within_more G (once_answered m z G x) (behind_replies m z H xs)
          (record { more = (outcome_of m z G x).after; is = refl }) (answered_within m z H xs),
    )

said_more : (late early : List Reply) → said (late ++ early) ≡ said early ++ said late
said_more [] early = sym (append-nil (said early))
said_more (r ∷ late) early = ap (λ (t : List ℕ). t ++ text r) (said_more late early) ∙ append_assoc (said early) (said late) (text r)

requests_more : (xs ys : List Ask) (a b c : Remains) → AreRequests xs a b → AreRequests ys b c → AreRequests (ys ++ xs) a c
requests_more xs [] a b c first second = let P : Remains → Type 0 = λ r. AreRequests xs a r in subst P (sym second) first
requests_more xs (y ∷ ys) a b c first second = (second.0, requests_more xs ys a b second.0 first second.1, second.2)

gave_more : (xs ys : List Ask) (a b c : List ℕ) → GaveAll xs a b → GaveAll ys b c → GaveAll (ys ++ xs) a c
gave_more xs [] a b c first second = let P : List ℕ → Type 0 = λ r. GaveAll xs a r in subst P (sym second) first
gave_more xs (y ∷ ys) a b c first second = (second.0, gave_more xs ys a b second.0 first second.1, second.2)

for_more : (role : Role) (xs ys : List Ask) → AreFor role xs → AreFor role ys → AreFor role (ys ++ xs)
for_more role xs [] first second = first
for_more role xs (y ∷ ys) first second = (second.0, for_more role xs ys first second.1)

-- what came in and went out, one after the other
pub converses_then : (r s p q : List ℕ) (a b c : DoorState) → Converses r p a b → Converses s q b c → Converses (r ++ s) (p ++ q) a c
converses_then r s p q a b c first second = record {
  answers = second.answers ∙ first.answers;
  past = second.past ∙ first.past;
  bytes = second.bytes ∙ first.bytes;
  left = first.left ∙ ap (λ (t : List ℕ). r ++ t) second.left ∙ sym (append_assoc r s c.conn.left);
  out = second.out ∙ ap (λ (t : List ℕ). t ++ q) first.out ∙ append_assoc a.conn.out p q;
  hung_up = second.hung_up ∙ first.hung_up;
}

pub converses_read : (read : List ℕ) (a b : DoorState) → OnlyReads read a b → Converses read [] a b
converses_read read a b reads = record {
  answers = reads.answers;
  past = reads.past;
  bytes = reads.bytes;
  left = reads.left;
  out = reads.out ∙ sym (append-nil a.conn.out);
  hung_up = reads.hung_up;
}

pub converses_told : (bytes : List ℕ) (a b : DoorState) → WorldTells bytes (Ok tt) a b → Converses [] bytes a b
converses_told bytes a b told = record {
  answers = told.answers;
  past = told.past;
  bytes = ap (λ c. c.bytes) told.conn;
  left = sym (ap (λ c. c.left) told.conn);
  out = ap (λ c. c.out) told.conn;
  hung_up = ap (λ c. c.hung_up) told.conn;
}

pub converses_front : (bytes : List ℕ) (failed : DoorFailed) (a b : DoorState) → WorldTells bytes (Err failed) a b
    → (n : ℕ) × Converses [] (take n bytes) a b
converses_front bytes failed a b told = (
  told.0,
  record {
    answers = told.1.answers;
    past = told.1.past;
    bytes = ap (λ c. c.bytes) told.1.conn;
    left = sym (ap (λ c. c.left) told.1.conn);
    out = ap (λ c. c.out) told.1.conn;
    hung_up = ap (λ c. c.hung_up) told.1.conn;
  },
)

-- nothing comes in or goes out
pub converses_none : (a : DoorState) → Converses [] [] a a
converses_none a = record { answers = refl; past = refl; bytes = refl; left = refl; out = sym (append-nil a.conn.out); hung_up = refl }

pub counts_left : (a : DoorCounts) → NoNextFault a a
counts_left a = record { faults = omega arith; next = refl; up = refl }

pub counts_then : (a b c : DoorCounts) → NoNextFault a b → NoNextFault b c → NoNextFault a c
counts_then a b c first second = let one = first.faults in let two = second.faults in
    record { faults = omega (arith, one, two); next = second.next ∙ first.next; up = second.up ∙ first.up }

asks_since : (tells : Type 0) (answer : _) (lost : Bool) (a b c : WireState) → b.intake.counts ≡ a.intake.counts
    → AsksLast tells answer lost b c → AsksLast tells answer lost a c
asks_since tells answer lost a b c before asks = record {
  before = asks.before;
  behind = asks.behind;
  takes = asks.takes;
  since = asks.since ∙ before;
  reads = asks.reads;
  until = asks.until;
  bytes = asks.bytes;
  held = asks.held;
  taken = asks.taken;
  ended = asks.ended;
}

ends_for_since : (tells : Type 0) (last : Last) (told : Result (Unit {0}) DoorFailed) (a b c : WireState)
    → b.intake.counts ≡ a.intake.counts
    → EndsFor tells last told b c → EndsFor tells last told a c
ends_for_since tells over told a b c before ends = asks_since tells _ _ a b c before ends
ends_for_since tells (unheard cause reply) told a b c before ends = (asks_since tells _ _ a b c before ends.0, ends.1)
ends_for_since tells (untold x) told a b c before ends = ends
ends_for_since tells (starving x) told a b c before ends = ends
ends_for_since tells (breaking x) told a b c before ends = ends

-- what a talk that began later says of its end
pub ends_since : (tells : Type 0) (end : Option Closing) (a b c : WireState) → b.intake.counts ≡ a.intake.counts → Ends tells end b c
    → Ends tells end a c
ends_since tells None a b c before ends = tt
ends_since tells (Some end) a b c before ends = ends_for_since tells end.last end.told a b c before ends

-- what a talk that began where nothing had failed leaves of the counts
pub counts_since : (end : Option Closing) (a b c : DoorCounts) → b ≡ a → c ≡ counts_behind end b → c ≡ counts_behind end a
counts_since end a b c before behind = behind ∙ ap (counts_behind end) before

speaks_on : (m z : ℕ) (H : List Event) (role : Role) (xs ys : List Ask) (end : Option Closing) (a b c : DoorState)
    → Speaks m z H (record { role = role; asks = xs; end = None }) a b
    → Speaks m z (life (once_answered m z) H xs) (record { role = role; asks = ys; end = end }) b c
    → Speaks m z H (record { role = role; asks = ys ++ xs; end = end }) a c
speaks_on m z H role xs ys end a b c first second =
    let G : List Event = life (once_answered m z) H xs in
    let P : List Event → Type 0 = λ K. SaysLast m z K end second.final in
    let nothing : said (replies m z H xs) ++ first.final ≡ said (replies m z H xs) =
    ap (λ (t : List ℕ). said (replies m z H xs) ++ t) first.final_is ∙ append-nil (said (replies m z H xs)) in
    let same : said (replies m z H (ys ++ xs)) ≡ said (replies m z H xs) ++ said (replies m z G ys) =
    ap said (replies_more m z H ys xs) ∙ said_more (replies m z G ys) (replies m z H xs) in
    let bytes : (said (replies m z H xs) ++ first.final) ++ (said (replies m z G ys) ++ second.final)
    ≡ said (replies m z H (ys ++ xs)) ++ second.final =
    ap (λ (t : List ℕ). t ++ (said (replies m z G ys) ++ second.final)) nothing
    ∙ sym (append_assoc (said (replies m z H xs)) (said (replies m z G ys)) second.final)
    ∙ ap (λ (t : List ℕ). t ++ second.final) (sym same) in
    let Q : List ℕ → Type 0 = λ out. Converses (first.read ++ second.read) out a c in
    record {
      read = first.read ++ second.read;
      final = second.final;
      final_is = subst P (sym (life_more (once_answered m z) H ys xs)) second.final_is;
      door = subst Q bytes (converses_then first.read second.read (said (replies m z H xs) ++ first.final)
          (said (replies m z G ys) ++ second.final) a b c first.door second.door);
    }

-- a talk behind another is the talk of all their requests
pub talks_on : (t : outside.WorldTells) (m z : ℕ) (H : List Event) (role : Role) (xs ys : List Ask) (end : Option Closing) (n o : Managed)
    (w u v : World) → Joins t.site w.site u.site v.site
    → ChainsJoin t.site w.site u.site v.site
    → Talks t m z H (record { role = role; asks = xs; end = None }) n w u
    → Talks t m z (life (once_answered m z) H xs) (record { role = role; asks = ys; end = end }) o u v
    → Talks t m z H (record { role = role; asks = ys ++ xs; end = end }) o w v
talks_on t m z H role xs ys end n o w u v joins chains first second =
    let G : List Event = life (once_answered m z) H xs in
    let P : List Event → Type 0 = λ K. Works t.site m H (work_by m z K end) o w.site v.site in
    let taken : (asked_by end ++ ys) ++ xs ≡ asked_by end ++ (ys ++ xs) = append_assoc (asked_by end) ys xs in
    let Q : List Ask → Type 0 = λ asks. AreRequests asks (talking.remains_of w.mouth.wire) (talking.remains_of v.mouth.wire) in
    let R : List Ask → Type 0 = λ asks. GaveAll asks w.clock v.clock in
    let later : List (List Event) = behind_last m z (life (once_answered m z) G ys) end in
    let histories : (later ++ behind_replies m z G ys) ++ behind_replies m z H xs
    ≡ behind_told m z H (record { role = role; asks = ys ++ xs; end = end }) =
    append_assoc later (behind_replies m z G ys) (behind_replies m z H xs)
    ∙ ap (λ (Ks : List (List Event)). later ++ Ks) (sym (behind_more m z H ys xs))
    ∙ ap (λ (K : List Event). behind_last m z K end ++ behind_replies m z H (ys ++ xs)) (sym (life_more (once_answered m z) H ys xs)) in
    let A : List (List Event) → Type 0 = λ Ks. AreTold t.site m Ks w.mouth.told v.mouth.told w.site v.site in
    record {
      works = subst P (sym (life_more (once_answered m z) H ys xs)) (joins m H G
          (work_by m z (life (once_answered m z) G ys) end) n o first.works second.works);
      saves = second.saves;
      holds = record {
        roles = subst (AreFor role) taken (for_more role xs (asked_by end ++ ys) first.holds.roles second.holds.roles);
        requests = λ told. subst Q taken (requests_more xs (asked_by end ++ ys) (talking.remains_of w.mouth.wire)
            (talking.remains_of u.mouth.wire) (talking.remains_of v.mouth.wire) (first.holds.requests told) (second.holds.requests told));
        speaks = λ told. speaks_on m z H role xs ys end w.mouth.wire.intake.door u.mouth.wire.intake.door v.mouth.wire.intake.door
            (first.holds.speaks told) (second.holds.speaks told);
        clock = λ told. subst R taken (gave_more xs (asked_by end ++ ys) w.clock u.clock v.clock (first.holds.clock told)
            (second.holds.clock told));
        ends = ends_since t.door end w.mouth.wire u.mouth.wire v.mouth.wire first.holds.faults second.holds.ends;
        faults = counts_since end w.mouth.wire.intake.counts u.mouth.wire.intake.counts v.mouth.wire.intake.counts first.holds.faults
            second.holds.faults;
        counts = counts_then w.mouth.wire.intake.counts u.mouth.wire.intake.counts v.mouth.wire.intake.counts first.holds.counts
            second.holds.counts;
      };
      told = subst A histories
          (chains m H G (work_by m z (life (once_answered m z) G ys) end) n o (later ++ behind_replies m z G ys)
          (behind_replies m z H xs) w.mouth.told u.mouth.told v.mouth.told
          first.works.site (answered_within m z H xs) first.told second.works.site second.told);
    }

-- The talk so far: so many requests were answered, and all replies to them were told whole.
pub record TalksSoFar (t : outside.WorldTells) (role : Role) (m n : Managed) (told : ℕ) (w v : World) : Type 0 where
  pub each : (H : List Event) → IsReady t.site m H w.site
      → (asks : List Ask) × Talks t m.ledger.manager m.ledger.saved H (record { role = role; asks = asks; end = None }) n w v ×
      (told ≡ length asks)
  pub up : v.mouth.wire.intake.counts.up ≡ true
  pub few : told + w.mouth.wire.taken ≤ v.mouth.wire.taken
  pub within : (told ≡ 0) ⊎ (v.mouth.wire.taken ≤ CONNECTION_REQUESTS)

-- before the first request
pub none_so_far : (t : outside.WorldTells) (role : Role) (m : Managed) (w : World) → Idles t.site w.site
    → w.mouth.wire.intake.counts.up ≡ true → TalksSoFar t role m m 0 w w
none_so_far t role m w idles up = record {
  each = λ H ready. (
    [],
    record {
      works = idles m H ready;
      saves = refl;
      holds = record {
        roles = tt;
        requests = λ told. refl;
        speaks = λ told. record { read = []; final = []; final_is = refl; door = converses_none w.mouth.wire.intake.door };
        clock = λ told. refl;
        ends = tt;
        faults = refl;
        counts = counts_left w.mouth.wire.intake.counts;
      };
      told = refl;
    },
    refl,
  );
  up = up;
  few = omega arith;
  within = inl refl;
}

-- behind the talk so far the manager is ready
pub ready_so_far : (t : outside.WorldTells) (role : Role) (m n : Managed) (told : ℕ) (w v : World) → TalksSoFar t role m n told w v
    → LeadsOn t.site w.site v.site → (H : List Event) × IsReady t.site m H w.site
    → (H : List Event) × IsReady t.site n H v.site
ready_so_far t role m n told w v so_far leads ready =
    let talk = so_far.each ready.0 ready.1 in (
      life (once_answered m.ledger.manager m.ledger.saved) ready.0 talk.0,
      leads m.ledger.manager ready.0
          (work_by m.ledger.manager m.ledger.saved (life (once_answered m.ledger.manager m.ledger.saved) ready.0 talk.0) None) n
          talk.1.works refl,
    )

-- one request more
pub one_more_told : (t : outside.WorldTells) (role : Role) (m n o : Managed) (told : ℕ) (w u v : World) → TalksSoFar t role m n told w u
    → LeadsOn t.site w.site u.site → Joins t.site w.site u.site v.site
    → ChainsJoin t.site w.site u.site v.site
    → ((H : List Event) → IsReady t.site n H u.site → (talk : Talk) × Talks t n.ledger.manager n.ledger.saved H talk o u v
    × ((x : Ask) × (talk ≡ answered_one role x)))
    → v.mouth.wire.intake.counts.up ≡ true → u.mouth.wire.taken < v.mouth.wire.taken → v.mouth.wire.taken ≤ CONNECTION_REQUESTS
    → TalksSoFar t role m o (told + 1) w v
one_more_told t role m n o told w u v so_far leads joins chains step up more few = record {
  each = λ H ready.
      let talk = so_far.each H ready in
      let G : List Event = life (once_answered m.ledger.manager m.ledger.saved) H talk.0 in
      let next = step G (leads m.ledger.manager H (work_by m.ledger.manager m.ledger.saved G None) n talk.1.works refl) in
      let x : Ask = next.2.0 in
      let P : Talk → Type 0 = λ z. Talks t n.ledger.manager n.ledger.saved G z o u v in
      let Q : ℕ → Type 0 = λ k. Talks t k m.ledger.saved G (answered_one role x) o u v in
      let R : ℕ → Type 0 = λ k. Talks t n.ledger.manager k G (answered_one role x) o u v in
      let one : Talks t m.ledger.manager m.ledger.saved G (answered_one role x) o u v = subst Q talk.1.works.number
      (subst R talk.1.saves (subst P next.2.1 next.1)) in
      let count = talk.2 in (
        x ∷ talk.0,
        talks_on t m.ledger.manager m.ledger.saved H role talk.0 (x ∷ []) None n o w u v joins chains talk.1 one,
        omega
            (arith, count),
      );
  up = up;
  few = let before = so_far.few in omega (arith, before, more);
  within = inr few;
}

-- the end behind the talk so far
pub ended_so_far : (t : outside.WorldTells) (role : Role) (m n o : Managed) (told : ℕ) (P : Closing → Type 0) (w u v : World)
    → TalksSoFar t role m n told w u → LeadsOn t.site w.site u.site → Joins t.site w.site u.site v.site
    → ChainsJoin t.site w.site u.site v.site
    → ((H : List Event) → IsReady t.site n H u.site → (talk : Talk) × Talks t n.ledger.manager n.ledger.saved H talk o u v
    × ((end : Closing) × (talk ≡ ended_so role end) × P end))
    → (H : List Event) → IsReady t.site m H w.site
    → (asks : List Ask) × (end : Closing) × Talks t m.ledger.manager m.ledger.saved H (record {
      role = role;
      asks = asks;
      end = Some end;
    }) o w v
    × (told ≡ length asks) × P end
ended_so_far t role m n o told P w u v so_far leads joins chains step H ready =
    let talk = so_far.each H ready in
    let G : List Event = life (once_answered m.ledger.manager m.ledger.saved) H talk.0 in
    let next = step G (leads m.ledger.manager H (work_by m.ledger.manager m.ledger.saved G None) n talk.1.works refl) in
    let end : Closing = next.2.0 in
    let A : Talk → Type 0 = λ z. Talks t n.ledger.manager n.ledger.saved G z o u v in
    let B : ℕ → Type 0 = λ k. Talks t k m.ledger.saved G (ended_so role end) o u v in
    let C : ℕ → Type 0 = λ k. Talks t n.ledger.manager k G (ended_so role end) o u v in
    let one : Talks t m.ledger.manager m.ledger.saved G (ended_so role end) o u v = subst B talk.1.works.number
    (subst C talk.1.saves (subst A next.2.1 next.1)) in (
      talk.0,
      end,
      talks_on t m.ledger.manager m.ledger.saved H role talk.0 [] (Some end) n o w u v joins chains talk.1 one,
      talk.2,
      next.2.2,
    )

-- no more replies were told than a connection may have requests
pub told_few : (t : outside.WorldTells) (role : Role) (m n : Managed) (told : ℕ) (w v : World) → TalksSoFar t role m n told w v
    → told ≤ CONNECTION_REQUESTS
told_few t role m n told w v so_far =
    let few = so_far.few in
    ⊎_elim (λ (none : told ≡ 0). omega (arith, none)) (λ (most : v.mouth.wire.taken ≤ CONNECTION_REQUESTS). omega (arith, most, few))
    so_far.within
