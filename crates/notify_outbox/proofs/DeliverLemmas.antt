-- How a delivery goes on once the notice was read, and how it ends.
use Rattle.std.proofs.Common.{◌≡◌, ◌∙◌, ℕ, List, Some, Ok, Err, refl, ap, sym, subst, ◌∷◌}
use Rattle.executor.specs.Managed.{IsReady, KeepsOn, Managed, MayRecord, StandsFor}
use Rattle.executor.specs.Room.{HasRoomFor}
use Rattle.executor.specs.Work.{Joins, Works, went}
use Rattle.journal_core.specs.Journal.{Ledger, Stands}
use Rattle.journal_records.specs.declared.limits.TheConstants.{MAX_FILE}
use Rattle.lcm_events.specs.declared.events.Event.{Event}
use Rattle.lcm_events.specs.declared.events.PostOutcome.{PostOutcome}
use Rattle.lcm_events.specs.declared.events.PostOutcome.TheVariants.{Delivered}
use Rattle.notice_table.specs.Queues.{first_waiting}
use Rattle.notify_outbox.specs.Delivering.{Course, Delivers, IsHeldBy, TellsPostRoom, delivery_of, held, sent}
use Rattle.notify_outbox.specs.Dispatches.{Dispatch, body_at, callback, outcome_of, posted_event}
use Rattle.notify_outbox.specs.Lent.{Carrier, Lent, LentTell, point}
use Rattle.notify_outbox.specs.Preparing.{TellsRoomBefore, recorded_post}
use Rattle.notify_outbox.specs.Reading.{IsUnread, ReadsBody}
use Rattle.notify_outbox.specs.declared.faults.DeliveryFault.{DeliveryFault}
use Rattle.notify_outbox.specs.declared.faults.DeliveryFault.TheVariants as fault
use Rattle.notify_outbox.proofs.NoticeLemmas.{waits_next}
use Rattle.site_traits.specs.Peers.{PostCause, Posts}
use Rattle.site_traits.specs.Site.{SiteState}
use Rattle.site_traits.specs.declared.courier.PostAnswer.{PostAnswer}

stands_reserved : (m n : Managed) (H : List Event) (s : SiteState) → StandsFor m H s → n.ledger ≡ m.ledger → StandsFor n H s
stands_reserved m n H s stands same = record {
  journal = subst (λ (l : Ledger). Stands s l) (sym same) stands.journal;
  records = stands.records;
  events = stands.events;
}

-- a manager that reserved something is as ready as before
pub ready_reserved : (tells : Type 0) (m n : Managed) (H : List Event) (s : SiteState) → IsReady tells m H s → n.ledger ≡ m.ledger
    → KeepsOn m n → IsReady tells n H s
ready_reserved tells m n H s ready same keeps = record {
  usable = ap (λ (l : Ledger). l.closed) same ∙ ready.usable;
  keeps = keeps H ready.keeps;
  stands = λ told. stands_reserved m n H s (ready.stands told) same;
}

-- and work that led to it led to that one
pub works_reserved : (tells : Type 0) (k : ℕ) (m n : Managed) (H : List Event) (a b : SiteState) → Works tells k H (went H) m a b
    → n.ledger ≡ m.ledger → KeepsOn m n → Works tells k H (went H) n a b
works_reserved tells k m n H a b works same keeps = record {
  number = ap (λ (l : Ledger). l.manager) same ∙ works.number;
  keeps = keeps H works.keeps;
  closed = ap (λ (l : Ledger). l.closed) same ∙ works.closed;
  grows = works.grows;
  site = λ told.
      let at = works.site told in
      record {
        any_moment = at.any_moment;
        at_exit = at.at_exit;
        stands = λ fine. stands_reserved m n H b (at.stands fine) same;
      };
  sound = works.sound;
  jobs = works.jobs;
}

-- a post of the first notice that waits may be recorded
pub may_record : (m now : ℕ) (H : List Event) (s place : ℕ) (how : PostOutcome) → first_waiting m H s ≡ Some place
    → MayRecord m H (posted_event now s place how)
may_record m now H s place how waits =
    let next = waits_next m H s place waits in
    record { rules = λ typed. typed; allowed = record { live = next.0; next = next.1 }; unsettled = refl }

held_by : (t : LentTell) (place : ℕ) (why : DeliveryFault) → IsUnread t.site place why → IsHeldBy t place why
held_by t place (fault.Full end more) is = tt
held_by t place (fault.BadRecord n) is = is
held_by t place fault.Disk is = is
held_by t place fault.Memory is = is

untold_room : (t : LentTell) (z now : ℕ) (H : List Event) (s place : ℕ) (why : DeliveryFault) → IsUnread t.site place why
    → TellsPostRoom z now H s (held place) (Err why)
untold_room t z now H s place (fault.Full end more) is = absurd is
untold_room t z now H s place (fault.BadRecord n) is = tt
untold_room t z now H s place fault.Disk is = tt
untold_room t z now H s place fault.Memory is = tt

-- the notice wasn't read
pub held_unread : (t : LentTell) (m n : Managed) (now : ℕ) (H : List Event) (s place : ℕ) (why : DeliveryFault) (w v : Lent)
    → first_waiting m.ledger.manager H s ≡ Some place → ReadsBody t.site m H s place (Err why) n w.site v.site → v.carrier ≡ w.carrier
    → n.ledger.saved ≡ m.ledger.saved → (c : Course) × Delivers t (point m.ledger.manager m.ledger.saved now H) s c (Err why) n w v
held_unread t m n now H s place why w v waits read same saved = (
  held place,
  record {
    course = (waits, held_by t place why read.1);
    carries = same;
    works = read.0;
    saved = saved;
    room = untold_room t m.ledger.saved now H s place why read.1;
  },
)

-- its post couldn't be recorded
pub held_unprepared : (t : LentTell) (k z : ℕ) (n : Managed) (now : ℕ) (H : List Event) (s place : ℕ) (why : DeliveryFault) (w v : Lent)
    → first_waiting k H s ≡ Some place → Works t.site k H (went H) n w.site v.site → v.carrier ≡ w.carrier
    → n.ledger.saved ≡ z → TellsRoomBefore z now H s place (Err why)
    → (c : Course) × Delivers t (point k z now H) s c (Err why) n w v
held_unprepared t k z n now H s place fault.Memory w v waits works same saved room = (
  held place,
  record {
    course = (waits, tt);
    carries = same;
    works = works;
    saved = saved;
    room = tt;
  },
)
held_unprepared t k z n now H s place (fault.Full end more) w v waits works same saved room = (
  held place,
  record {
    course = (waits, tt);
    carries = same;
    works = works;
    saved = saved;
    room = room;
  },
)
held_unprepared t k z n now H s place (fault.BadRecord i) w v waits works same saved room = absurd (room Delivered)
held_unprepared t k z n now H s place fault.Disk w v waits works same saved room = absurd (room Delivered)

-- what is known of a post: the callback, and what the courier tells
abbrev pub IsPosted : LentTell → List Event → ℕ → List ℕ → PostAnswer → Carrier → Carrier → Type 0
IsPosted t H s body answer a b =
    (uri : List ℕ) × (callback H s ≡ Some uri) × (t.courier → Posts uri body answer a.state b.state)

-- the notice was posted, and that was recorded
pub sent_well : (t : LentTell) (j k z : ℕ) (m n : Managed) (now : ℕ) (H : List Event) (s place : ℕ) (answer : PostAnswer) (body : List ℕ)
    (e : Event) (b : SiteState) (w v : Lent)
    → j ≡ k → first_waiting k H s ≡ Some place → e ≡ posted_event now s place (outcome_of answer)
    → Works t.site k H (went H) m w.site b → Works t.site j H (recorded_post H e (Ok tt)) n b v.site
    → Joins t.site w.site b v.site → (t.site → body_at k H s place ≡ Some body) → IsPosted t H s body answer w.carrier v.carrier
    → PostCause answer w.carrier.counts v.carrier.counts → n.ledger.saved ≡ z → HasRoomFor MAX_FILE z H e
    → (c : Course) × Delivers t (point k z now H) s c (Ok (delivery_of (outcome_of answer))) n w v
sent_well t j k z m n now H s place answer body e b w v number waits same first second joins of posted cause saved room =
    let p : Dispatch = record { subscription = s; place = place; answer = answer } in (
      sent p,
      record {
        course = (refl, refl);
        carries = record { uri = posted.0; body = body; next = waits; to = posted.1; of = of; posts = posted.2; counts = cause };
        works = joins k H H (went (posted_event now s place (outcome_of answer) ∷ H)) m n first
            (subst (λ (x : Event). Works t.site k H (recorded_post H x (Ok tt)) n b v.site) same
            (subst (λ (i : ℕ). Works t.site i H (recorded_post H e (Ok tt)) n b v.site) number second));
        saved = saved;
        room = subst (λ (x : Event). HasRoomFor MAX_FILE z H x) same room;
      },
    )

-- and the disk failed on the way there
pub sent_broken : (t : LentTell) (j k z : ℕ) (m n : Managed) (now : ℕ) (H : List Event) (s place : ℕ) (answer : PostAnswer) (body : List ℕ)
    (e : Event) (why : DeliveryFault) (b : SiteState) (w v : Lent)
    → j ≡ k → why ≡ fault.Disk → first_waiting k H s ≡ Some place → e ≡ posted_event now s place (outcome_of answer)
    → Works t.site k H (went H) m w.site b → Works t.site j H (recorded_post H e (Err why)) n b v.site
    → Joins t.site w.site b v.site → (t.site → body_at k H s place ≡ Some body) → IsPosted t H s body answer w.carrier v.carrier
    → PostCause answer w.carrier.counts v.carrier.counts → n.ledger.saved ≡ z → HasRoomFor MAX_FILE z H e
    → (c : Course) × Delivers t (point k z now H) s c (Err why) n w v
sent_broken t j k z m n now H s place answer body e fault.Disk b w v number is waits same first second joins of posted cause saved room =
    let p : Dispatch = record { subscription = s; place = place; answer = answer } in (
      sent p,
      record {
        course = refl;
        carries = record { uri = posted.0; body = body; next = waits; to = posted.1; of = of; posts = posted.2; counts = cause };
        works = joins k H H _ m n first
            (subst (λ (x : Event). Works t.site k H (recorded_post H x (Err fault.Disk)) n b v.site) same
            (subst (λ (i : ℕ). Works t.site i H (recorded_post H e (Err fault.Disk)) n b v.site) number second));
        saved = saved;
        room = subst (λ (x : Event). HasRoomFor MAX_FILE z H x) same room;
      },
    )
sent_broken t j k z m n now H s place answer body e fault.Memory b w v number is waits same first second joins of posted cause saved room
    = cc
sent_broken t j k z m n now H s place answer body e (fault.BadRecord i) b w v number is waits same first second joins of posted cause
    saved room =
    cc
sent_broken t j k z m n now H s place answer body e (fault.Full end more) b w v number is waits same first second joins of posted cause
    saved room =
    cc
