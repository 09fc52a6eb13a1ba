-- Reading an event back is work that leaves the history and the jobs.
use Rattle.std.proofs.Common.{◌≡◌, ◌∙◌, ℕ, List, true, true≢false}
use Rattle.std.proofs.Common.{Some, Result, Ok, Err, refl, sym, subst}
use Rattle.std.specs.Prelude.{IfOk}
use Rattle.executor.specs.History.{HasHistory}
use Rattle.executor.specs.Managed.{IsReady, Keeps, KeepsOn, Managed, StandsFor}
use Rattle.executor.specs.Reading.{ReadsEvent}
use Rattle.executor.specs.Work.{Extends, HasSome, Works, WorksAtFile, broke, went}
use Rattle.executor.specs.declared.manager.ReadFault.{ReadFault}
use Rattle.executor.specs.declared.manager.ReadFault.TheVariants as reading
use Rattle.executor.proofs.WorkLemmas.{extends_back, extends_refl, kept_sound, some_everywhere}
use Rattle.lcm_events.specs.declared.events.Event.{Event}
use Rattle.lcm_jobs.specs.Sound.{IsSound}
use Rattle.notify_outbox.specs.Dispatches.{body_at}
use Rattle.notify_outbox.specs.Faults.{delivery_fault}
use Rattle.notify_outbox.specs.Reading.{ReadsBody}
use Rattle.notify_outbox.specs.declared.faults.DeliveryFault.{DeliveryFault}
use Rattle.notify_outbox.specs.declared.faults.DeliveryFault.TheVariants as fault
use Rattle.site_traits.specs.Moments as moments
use Rattle.site_traits.specs.Site.{FileStep, KeepsJobs, LeavesOnly, Reads, Same, SiteState}

-- at each moment of a read a stop leaves the history
left_read : (m : Managed) (H : List Event) (a b : SiteState) → StandsFor m H a → Reads a b → LeavesOnly (HasSome m.ledger.manager H H) a b
left_read m H a b stands reads =
    let k = m.ledger.manager in
    moments.goes_on (HasSome k H H) (FileStep Same) a a b (moments.started (HasSome k H H) a (some_everywhere m H a stands))
    reads.on_file.passes
    (λ q p left step. let some = some_everywhere m H a stands q left in record {
      history = some.history;
      from = some.from;
      to = some.to;
      file = subst (λ (i : List ℕ). HasHistory k some.history i) (sym step.image) some.file;
    })

-- the only history from one to itself
only_one : (m : ℕ) (H : List Event) (a : SiteState) → IsSound m H a.jobs → (K : List Event) → Extends H K → Extends K H → IsSound m K a.jobs
only_one m H a sound K from to = subst (λ (G : List Event). IsSound m G a.jobs) (sym (extends_back H K from to)) sound

read_at_file : (tells : Type 0) (m n : Managed) (H : List Event) (a b : SiteState) → IsReady tells m H a → IsReady tells n H b
    → n.ledger.manager ≡ m.ledger.manager → (tells → Reads a b) → WorksAtFile tells m.ledger.manager H (went H) n a b
read_at_file tells m n H a b ready again number reads = record {
  number = number;
  keeps = again.keeps;
  closed = again.usable;
  grows = record { to_stood = extends_refl H; to_aimed = extends_refl H; legal = ready.keeps.kept.legal };
  site = λ told.
      let left = left_read m H a b (ready.stands told) (reads told) in
      record {
        any_moment = left;
        at_exit = moments.is_since (HasSome m.ledger.manager H H) a b left;
        stands = λ fine. again.stands told;
      };
}

-- reading is work that goes to the history at its start
pub read_works : (tells : Type 0) (m n : Managed) (H : List Event) (a b : SiteState) → IsReady tells m H a → IsReady tells n H b
    → n.ledger.manager ≡ m.ledger.manager → (tells → Reads a b) → (tells → KeepsJobs a b) → Works tells m.ledger.manager H (went H) n a b
read_works tells m n H a b ready again number reads jobs =
    let file = read_at_file tells m n H a b ready again number reads in
    record {
      number = file.number;
      keeps = file.keeps;
      closed = file.closed;
      grows = file.grows;
      site = file.site;
      sound = λ told sound. kept_sound tells m.ledger.manager H (went H) n a b told file (jobs told) (only_one m.ledger.manager H a sound);
      jobs = jobs;
    }

broke_at_file : (tells : Type 0) (m n : Managed) (H : List Event) (a b : SiteState) → IsReady tells m H a → Keeps n H
    → n.ledger.closed ≡ true → n.ledger.manager ≡ m.ledger.manager → (tells → Reads a b)
    → WorksAtFile tells m.ledger.manager H (broke H H) n a b
broke_at_file tells m n H a b ready keeps closed number reads = record {
  number = number;
  keeps = keeps;
  closed = closed;
  grows = record { to_stood = extends_refl H; to_aimed = extends_refl H; legal = ready.keeps.kept.legal };
  site = λ told.
      let left = left_read m H a b (ready.stands told) (reads told) in
      record {
        any_moment = left;
        at_exit = moments.is_since (HasSome m.ledger.manager H H) a b left;
        stands = λ fine. absurd (true≢false fine);
      };
}

-- where the disk fails it is work that breaks there
broke_works : (tells : Type 0) (m n : Managed) (H : List Event) (a b : SiteState) → IsReady tells m H a → Keeps n H
    → n.ledger.closed ≡ true → n.ledger.manager ≡ m.ledger.manager → (tells → Reads a b) → (tells → KeepsJobs a b)
    → Works tells m.ledger.manager H (broke H H) n a b
broke_works tells m n H a b ready keeps closed number reads jobs =
    let file = broke_at_file tells m n H a b ready keeps closed number reads in
    record {
      number = file.number;
      keeps = file.keeps;
      closed = file.closed;
      grows = file.grows;
      site = file.site;
      sound = λ told sound.
          kept_sound tells m.ledger.manager H (broke H H) n a b told file (jobs told) (only_one m.ledger.manager H a sound);
      jobs = jobs;
    }

abbrev ErrOf : ReadFault → Result Event ReadFault
ErrOf why = Err why

-- the event wasn't read back
pub unread : (tells : Type 0) (m n : Managed) (H : List Event) (s place : ℕ) (result : Result Event ReadFault) (why : ReadFault)
    (a b : SiteState) → result ≡ Err why → IsReady tells m H a → n.ledger.manager ≡ m.ledger.manager
    → (tells → ReadsEvent H place result a b) → ((result ≡ Err reading.Disk → ⊥) → IsReady tells n H b) → KeepsOn m n
    → ((k : ℕ) → result ≡ Err (reading.BadRecord k) → k ≡ place) → (result ≡ Err reading.Disk → n.ledger.closed ≡ true)
    → ReadsBody tells m H s place (Err (delivery_fault why)) n a b
unread tells m n H s place result (reading.BadRecord k) a b is ready number reads again keeps bad closed = (
  read_works tells m n H a b ready (again (λ e. other k (sym is ∙ e))) number (λ told. (reads told).reads) (λ told. (reads told).jobs),
  (bad k is, λ told. (reads told).whole k is),
) where
  other : (k : ℕ) → ErrOf (reading.BadRecord k) ≡ ErrOf reading.Disk → ⊥
  other k e = cc
unread tells m n H s place result reading.Disk a b is ready number reads again keeps bad closed = (
  broke_works tells m n H a b ready (keeps H ready.keeps) (closed is) number (λ told. (reads told).reads) (λ told. (reads told).jobs),
  tt,
)
unread tells m n H s place result reading.Memory a b is ready number reads again keeps bad closed = (
  read_works tells m n H a b ready (again (λ e. other (sym is ∙ e))) number (λ told. (reads told).reads) (λ told. (reads told).jobs),
  tt,
) where
  other : ErrOf reading.Memory ≡ ErrOf reading.Disk → ⊥
  other e = cc

abbrev OkOf : Event → Result Event ReadFault
OkOf e = Ok e

-- what was read back wasn't missed
pub read_well : (result : Result Event ReadFault) (e : Event) (why : ReadFault) → result ≡ Ok e → result ≡ Err why → ⊥
read_well result e why well ill = never (sym well ∙ ill) where
  never : OkOf e ≡ ErrOf why → ⊥
  never h = cc

-- what the body is, or why there is none
pub body_read : (tells : Type 0) (m n : Managed) (H : List Event) (s place : ℕ) (result : Result (List ℕ) DeliveryFault) (a b : SiteState)
    → IsReady tells m H a → IsReady tells n H b → n.ledger.manager ≡ m.ledger.manager → (tells → Reads a b) → (tells → KeepsJobs a b)
    → (tells → IfOk result (λ body. body_at n.ledger.manager H s place ≡ Some body))
    → (tells → (k : ℕ) → result ≡ Err (fault.BadRecord k) → ⊥) → ((k : ℕ) → result ≡ Err (fault.BadRecord k) → k ≡ place)
    → (result ≡ Err fault.Disk → ⊥) → ((end more : ℕ) → result ≡ Err (fault.Full end more) → ⊥)
    → ReadsBody tells m H s place result n a b
body_read tells m n H s place (Ok body) a b ready again number reads jobs is good bad disk full = (
  read_works tells m n H a b ready again number reads jobs,
  λ told. subst (λ (k : ℕ). body_at k H s place ≡ Some body) number (is told),
)
body_read tells m n H s place (Err (fault.BadRecord k)) a b ready again number reads jobs is good bad disk full = (
  read_works tells m n H a b ready again number reads jobs,
  (bad k refl, λ told. good told k refl),
)
body_read tells m n H s place (Err fault.Memory) a b ready again number reads jobs is good bad disk full = (
  read_works tells m n H a b ready again number reads jobs,
  tt,
)
body_read tells m n H s place (Err fault.Disk) a b ready again number reads jobs is good bad disk full = absurd (disk refl)
body_read tells m n H s place (Err (fault.Full end more)) a b ready again number reads jobs is good bad disk full =
    absurd (full end more refl)
