-- The begin of an attempt's job, behind its intent: the file stays, and sound jobs stay sound.
use Rattle.std.proofs.Common.{◌≡◌, ◌+◌, ℕ, List, ◌∷◌, Some, sym, subst, refl, inl, inr, length}
use Rattle.std.specs.Prelude.{All}
use Rattle.executor.specs.History.{HasHistory, spellings}
use Rattle.executor.specs.Managed.{IsReady, Managed, StandsFor}
use Rattle.executor.specs.Work.{HasSome, HasSomeSound, StaysSound, Works, WorksAtFile, went}
use Rattle.executor.proofs.WorkLemmas.{everywhere, extends_one, extends_refl, extends_trans, some_everywhere, sound_everywhere, sound_now}
use Rattle.journal_records.specs.File.{HasRecords, batches, gate_place, records, size}
use Rattle.journal_core.specs.Journal.{IsReadUpTo}
use Rattle.journal_core.specs.Marks.{IsMark}
use Rattle.lcm_events.specs.declared.acts.Act.{Act}
use Rattle.lcm_events.specs.declared.attempts.Tag.{Tag}
use Rattle.lcm_events.specs.declared.events.Event.{Event}
use Rattle.lcm_events.specs.declared.events.EventKind.TheVariants.{Intent}
use Rattle.lcm_model.specs.Allowed.{IsAllowed}
use Rattle.lcm_model.specs.Work.{window}
use Rattle.change_planner.specs.Tags.{act_of}
use Rattle.lcm_jobs.specs.Sound.{IsSound}
use Rattle.lcm_jobs.proofs.KeepLemmas.{sound_begun, sound_on}
use Rattle.site_traits.specs.Advancing.{advances-then}
use Rattle.site_traits.specs.Jobs.{Advances, Job, MayArrive}
use Rattle.site_traits.specs.Moments.{followed, goes_on, is_since, kept_jobs, settled_on, started}
use Rattle.site_traits.specs.Site.{JobStep, LeavesOnly, OnJobs, Pair, SiteState, pair_of}

-- the manager stands for the file behind a call on the jobs as before it
pub stands_on : (step : List Job → List Job → Type 0) (m : Managed) (H : List Event) (a b : SiteState) → OnJobs step a b → StandsFor m H a
    → StandsFor m H b
stands_on step m H a b call stands =
    let back = sym call.same in
    record {
      journal = record {
        settled = settled_on step a b call stands.journal.settled;
        file = subst (λ (i : List ℕ). HasRecords m.ledger.manager (records i) i) back stands.journal.file;
        count = subst (λ (i : List ℕ). m.ledger.count ≡ length (records i)) back stands.journal.count;
        end = subst (λ (i : List ℕ). m.ledger.end ≡ gate_place (batches i)) back stands.journal.end;
        saved = subst (λ (i : List ℕ). m.ledger.end + m.ledger.saved ≡ size (records i)) back stands.journal.saved;
        marks = subst (λ (i : List ℕ). All (IsMark (batches i)) m.ledger.marks) back stands.journal.marks;
        reading = subst (λ (i : List ℕ). IsReadUpTo (batches i) m.ledger.behind m.ledger.reading m.ledger.end i) back
            stands.journal.reading;
      };
      records = subst (λ (i : List ℕ). records i ≡ spellings H) back stands.records;
      events = stands.events;
    }

-- each pair that a stop leaves during a call on the jobs has the file's history
leaves_file : (step : List Job → List Job → Type 0) (m : Managed) (H : List Event) (a b : SiteState) → OnJobs step a b → StandsFor m H a
    → (p : Pair) → b.since a.moment p → HasHistory m.ledger.manager H p.image
leaves_file step m H a b call stands p left =
    let from = call.passes.during p left in
    subst (λ (i : List ℕ). HasHistory m.ledger.manager H i) (sym from.2.image) ((everywhere m H a stands).left from.0 from.1)

-- what a call on the jobs does to the file is nothing
pub jobs_alone : (tells : Type 0) (step : List Job → List Job → Type 0) (m : Managed) (H : List Event) (a b : SiteState)
    → IsReady tells m H a → (tells → OnJobs step a b)
    → WorksAtFile tells m.ledger.manager H (went H) m a b
jobs_alone tells step m H a b ready calls = record {
  number = refl;
  keeps = ready.keeps;
  closed = ready.usable;
  grows = record { to_stood = extends_refl H; to_aimed = extends_refl H; legal = ready.keeps.kept.legal };
  site = λ told.
      let call = calls told in
      let stands = ready.stands told in
      let some : (p : Pair) → b.since a.moment p → HasSome m.ledger.manager H H p =
      λ p left. record { history = H; from = extends_refl H; to = extends_refl H; file = leaves_file step m H a b call stands p left } in
      let run = goes_on (HasSome m.ledger.manager H H) (JobStep step) a a b
      (started (HasSome m.ledger.manager H H) a (some_everywhere m H a stands)) call.passes
      (λ q p left on. record {
        history = H;
        from = extends_refl H;
        to = extends_refl H;
        file = subst (λ (i : List ℕ). HasHistory m.ledger.manager H i) (sym on.image) ((everywhere m H a stands).left q left);
      }) in
      record {
        any_moment = run;
        at_exit = is_since (HasSome m.ledger.manager H H) a b run;
        stands = λ fine. stands_on step m H a b call stands;
      };
}

-- the site's own jobs went on by the call's step
pub jobs_on : (step : List Job → List Job → Type 0) (a b : SiteState) → OnJobs step a b → step a.jobs b.jobs
jobs_on step a b call =
    let le = call.passes.later in
    let from = call.passes.during (pair_of b.image b.jobs) (b.earlier a.moment b.moment (pair_of b.image b.jobs) le b.now) in
    subst (λ (js : List Job). step js b.jobs) (a.stay from.0 from.1) from.2.jobs

-- the manager is ready behind a call on the jobs
pub ready_on : (tells : Type 0) (step : List Job → List Job → Type 0) (m : Managed) (H : List Event) (a b : SiteState) → IsReady tells m H a
    → (tells → OnJobs step a b)
    → IsReady tells m H b
ready_on tells step m H a b ready calls = record {
  usable = ready.usable;
  keeps = ready.keeps;
  stands = λ told. stands_on step m H a b (calls told) (ready.stands told);
}

-- jobs that were sound before the intent are sound behind it, whether the job came or not
came_sound : (m now : ℕ) (H : List Event) (t : Tag) (work : Act) (before between after : List Job) → IsSound m H before
    → IsAllowed m H (Intent t) → act_of H t ≡ Some work
    → Advances before between → IsSound m (record { moment = now; kind = Intent t } ∷ H) between → MayArrive t work between after
    → IsSound m (record { moment = now; kind = Intent t } ∷ H) after
came_sound m now H t work before between after sound allowed does on behind (inl ended) =
    sound_on window m (record { moment = now; kind = Intent t } ∷ H) between after behind ended
came_sound m now H t work before between after sound allowed does on behind (inr put) =
    sound_begun window m H now t work put.0 before after sound allowed does
    (record { earlier = put.1.earlier; advances = advances-then before between put.1.earlier on put.1.advances; is = put.1.is })

-- what the begin of an attempt's job behind its intent leaves of sound jobs
pub begun_sound : (tells : Type 0) (m now : ℕ) (H : List Event) (t : Tag) (work : Act) (n : Managed) (a b c : SiteState) → tells
    → Works tells m H (went (record { moment = now; kind = Intent t } ∷ H)) n a b → OnJobs (MayArrive t work) b c → IsAllowed m H (Intent t)
    → act_of H t ≡ Some work
    → IsSound m H a.jobs → StaysSound m H (went (record { moment = now; kind = Intent t } ∷ H)) a c
begun_sound tells m now H t work n a b c told works call allowed does sound =
    let G : List Event = record { moment = now; kind = Intent t } ∷ H in
    let first = works.sound told sound in
    let behind : IsSound m G b.jobs = sound_now m G b first.at_exit in
    let number = works.number in
    let stands : StandsFor n G b = (works.site told).stands refl in
    let on : Advances a.jobs b.jobs = kept_jobs a b (works.jobs told) in
    let held : (q : Pair) → b.since b.moment q → HasHistory m G q.image =
    subst (λ (k : ℕ). (q : Pair) → b.since b.moment q → HasHistory k G q.image) number (everywhere n G b stands).left in
    let leads : (q p : Pair) → b.since b.moment q → JobStep (MayArrive t work) q p → HasSomeSound m G G p =
    λ q p left step. record {
      history = G;
      from = extends_refl G;
      to = extends_refl G;
      file = subst (λ (i : List ℕ). HasHistory m G i) (sym step.image) (held q left);
      sound = came_sound m now H t work a.jobs b.jobs p.jobs sound allowed does on behind
          (subst (λ (js : List Job). MayArrive t work js p.jobs) (b.stay q left) step.jobs);
    } in
    let here : (p : Pair) → b.since b.moment p → HasSomeSound m G G p = first.at_exit in
    let run : LeavesOnly (HasSomeSound m G G) b c = goes_on (HasSomeSound m G G) (JobStep (MayArrive t work)) b b c
    (started (HasSomeSound m G G) b here) call.passes leads in
    record {
      any_moment = followed (HasSomeSound m H G) (HasSomeSound m G G) a b c first.any_moment run
          (λ p some. record {
            history = some.history;
            from = extends_trans H G some.history
                (extends_one (record { moment = now; kind = Intent t }) H) some.from;
            to = some.to;
            file = some.file;
            sound = some.sound;
          });
      at_exit = is_since (HasSomeSound m G G) b c run;
    }

-- what a look at a job leaves of sound jobs
pub looked_sound : (tells : Type 0) (m : Managed) (H : List Event) (a b : SiteState) → tells → IsReady tells m H a → OnJobs Advances a b
    → IsSound m.ledger.manager H a.jobs
    → StaysSound m.ledger.manager H (went H) a b
looked_sound tells m H a b told ready call sound =
    let stands = ready.stands told in
    let run : LeavesOnly (HasSomeSound m.ledger.manager H H) a b =
    goes_on (HasSomeSound m.ledger.manager H H) (JobStep Advances) a a b
    (started (HasSomeSound m.ledger.manager H H) a (sound_everywhere m H a stands sound)) call.passes
    (λ q p left step. record {
      history = H;
      from = extends_refl H;
      to = extends_refl H;
      file = subst (λ (i : List ℕ). HasHistory m.ledger.manager H i) (sym step.image) ((everywhere m H a stands).left q left);
      sound = sound_on window m.ledger.manager H a.jobs p.jobs sound
          (subst (λ (js : List Job). Advances js p.jobs) (a.stay q left) step.jobs);
    }) in
    record { any_moment = run; at_exit = is_since (HasSomeSound m.ledger.manager H H) a b run }
