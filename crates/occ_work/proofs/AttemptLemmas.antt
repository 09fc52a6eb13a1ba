-- An attempt that was begun or looked at, by what was recorded and called in turn.
use Rattle.std.proofs.Common.{◌≡◌, ◌≢◌, ◌∙◌, ℕ, List, [], ◌∷◌, Bool, false, true, Option, None, Some, ap, sym, subst, refl, inl, inr}
use Rattle.std.proofs.Common.{Result, Ok, Err, IfOk, IsOk, OnOk, map, ⊎_elim, arith}
use Rattle.change_planner.specs.Tags.{act_of}
use Rattle.executor.specs.Managed.{IsReady, KeepsOn, Managed}
use Rattle.journal_core.specs.Journal.{Ledger, Stands}
use Rattle.lcm_laws.specs.Acting.{IsAnswer, NextActionsAreAllowed}
use Rattle.lcm_model.specs.Attempts.{is_open, open_of}
use Rattle.occ_steps.specs.Active.{IsActive}
use Rattle.occ_steps.proofs.ActiveLemmas.{active_asked}
use Rattle.executor.specs.Work.{Extends, StaysSound, Work, Works, WorksAtFile, WorksWithJobs, aimed, recorded, stood, went}
use Rattle.executor.specs.declared.manager.WorkFault.{WorkFault}
use Rattle.executor.specs.declared.manager.WorkFault.TheVariants as fault
use Rattle.executor.proofs.CommitLemmas.{between_one}
use Rattle.executor.proofs.WorkLemmas.{extends_back, extends_one, extends_refl, extends_trans, file_of, idle, joined_at_file, kept_sound}
use Rattle.executor.proofs.WorkLemmas.{stays_joined, with_jobs}
use Rattle.executor.specs.Room.{TellsRoom}
use Rattle.journal_records.specs.declared.limits.TheConstants.{MAX_FILE}
use Rattle.lcm_events.specs.declared.acts.Act.{Act}
use Rattle.lcm_events.specs.declared.attempts.Tag.{Tag}
use Rattle.lcm_events.specs.declared.changes.Change.{Change}
use Rattle.lcm_events.specs.declared.events.Event.{Event}
use Rattle.lcm_events.specs.declared.events.EventKind.{EventKind}
use Rattle.lcm_events.specs.declared.events.EventKind.TheVariants.{Intent}
use Rattle.lcm_jobs.specs.Sound.{FitsJobs, IsNoneOrBroken, IsSound}
use Rattle.lcm_jobs.proofs.KeepLemmas.{fresh_job, sound_more}
use Rattle.lcm_laws.specs.Acting.{with_events}
use Rattle.lcm_model.specs.Allowed.{IsAllowed, IsLegal}
use Rattle.lcm_model.specs.Next.{Answer, BeginTaken, appended, beginning, looking, next_action}
use Rattle.lcm_model.specs.Operations.{changes}
use Rattle.lcm_model.specs.Work.{window}
use Rattle.lcm_model.specs.declared.actions.Action.{Action}
use Rattle.lcm_model.specs.declared.actions.Action.TheVariants.{AbortAndLook, Begin, Look}
use Rattle.site_traits.specs.Advancing.{advances-refl, advances-then}
use Rattle.site_traits.specs.Counts.{OnlyDiskFails, SiteCounts, begin_counts, one_more}
use Rattle.site_traits.specs.Jobs.{Advances, BeginsAs, Job, LooksAs, MayArrive, begin_answered, phase_of}
use Rattle.site_traits.specs.declared.jobs.Phase.{Phase}
use Rattle.site_traits.specs.Moments.{kept_jobs}
use Rattle.site_traits.specs.Site.{Begins, KeepsJobs, OnJobs, SiteState}
use Rattle.site_traits.specs.declared.jobs.AbortAnswer.{AbortAnswer}
use Rattle.site_traits.specs.declared.jobs.BeginAnswer.{BeginAnswer}
use Rattle.site_traits.specs.declared.jobs.BeginAnswer.TheVariants as begin
use Rattle.site_traits.specs.declared.jobs.LookAnswer.{LookAnswer}
use Rattle.site_traits.specs.declared.jobs.LookAnswer.TheVariants as look
use Rattle.occ_work.specs.Acting.{Records, TellsRoomFor, recording}
use Rattle.occ_work.specs.Around.{CountJobsAlike, JobsDo}
use Rattle.occ_work.specs.Attempting.{Attempts, Inquires, IsWithoutPeer, Puts, following, shows}
use Rattle.occ_work.specs.Deeds.{Deed, Exchange, IsExchangeOf, IsUnexchanged, MayEnd, answer_begun, answer_in, answer_looked, answered}
use Rattle.occ_work.specs.Deeds.{began, ending, kinds_of, look_at, look_exchange, nothing, point}
use Rattle.occ_work.specs.declared.ends.Acted.{Acted}
use Rattle.occ_work.specs.declared.ends.Acted.TheVariants.{Recorded}
use Rattle.occ_work.proofs.BeginLemmas.{begun_sound, jobs_alone, looked_sound}
use Rattle.occ_work.proofs.JobLemmas.{begins_on, looks_on, refused_broken}

-- none or one
abbrev pub AreFew : List EventKind → Type 0
AreFew [] = Unit {0}
AreFew (k ∷ []) = Unit {0}
AreFew (k ∷ more) = ⊥

-- each fits the jobs
abbrev pub FitAll : List EventKind → List Job → Type 0
FitAll [] js = Unit {0}
FitAll (k ∷ ks) js = FitsJobs k js × FitAll ks js

-- recording one event aims at it at most
reaches : (now : ℕ) (k : EventKind) (G : List Event) (result : Result Acted WorkFault)
    → Extends (aimed (recording now (k ∷ []) G result)) (record { moment = now; kind = k } ∷ G)
reaches now k G (Ok done) = extends_refl _
reaches now k G (Err (fault.TooLong n)) = extends_one _ G
reaches now k G (Err (fault.Full end more)) = extends_one _ G
reaches now k G (Err fault.Memory) = extends_one _ G
reaches now k G (Err fault.Disk) = extends_refl _

-- recording none aims at nothing
reaches_none : (now : ℕ) (G : List Event) (result : Result Acted WorkFault) → aimed (recording now [] G result) ≡ G
reaches_none now G (Ok done) = refl
reaches_none now G (Err why) = refl

-- what putting none or one event that fits the jobs leaves of sound ones
pub puts_sound : (tells : Type 0) (m now : ℕ) (kinds : List EventKind) (G : List Event) (result : Result Acted WorkFault) (p : Managed)
    (c d : SiteState) → tells
    → WorksAtFile tells m G (recording now kinds G result) p c d → KeepsJobs c d → AreFew kinds → IsLegal m (with_events now kinds G)
    → IsSound m G c.jobs → FitAll kinds c.jobs
    → StaysSound m G (recording now kinds G result) c d
puts_sound tells m now [] G result p c d told works alone few legal sound fits =
    kept_sound tells m G (recording now [] G result) p c d told works alone
    (λ K from to. subst (λ (X : List Event). IsSound m X c.jobs)
    (sym (extends_back G K from (subst (λ (X : List Event). Extends K X) (reaches_none now G result) to))) sound)
puts_sound tells m now (k ∷ []) G result p c d told works alone few legal sound fits =
    let e : Event = record { moment = now; kind = k } in
    kept_sound tells m G (recording now (k ∷ []) G result) p c d told works alone
    (λ K from to. ⊎_elim
    (λ (is : K ≡ G). subst (λ (X : List Event). IsSound m X c.jobs) (sym is) sound)
    (λ (is : K ≡ e ∷ G). subst (λ (X : List Event). IsSound m X c.jobs) (sym is) (sound_more window m G now k c.jobs sound legal.0 fits.0))
    (between_one G K e from (extends_trans K (aimed (recording now (k ∷ []) G result)) (e ∷ G) to (reaches now k G result))))
puts_sound tells m now (k ∷ l ∷ more) G result p c d told works alone few legal sound fits = absurd few

-- counts that tell the same of calls on jobs
pub alike_refl : (c : SiteCounts) → CountJobsAlike c c
alike_refl c = record { vim = refl; look = refl; refusals = refl }

pub alike_then : (a b c : SiteCounts) → CountJobsAlike a b → CountJobsAlike b c → CountJobsAlike a c
alike_then a b c one two = record { vim = two.vim ∙ one.vim; look = two.look ∙ one.look; refusals = two.refusals ∙ one.refusals }

pub alike_disk : (failed : Type 0) (a b : SiteCounts) → OnlyDiskFails failed a b → CountJobsAlike a b
alike_disk failed a b only = record { vim = only.vim; look = only.look; refusals = only.refusals }

alike_begin : (answer : BeginAnswer) (a b : SiteCounts) → CountJobsAlike a b
    → CountJobsAlike (begin_counts answer a) (begin_counts answer b)
alike_begin begin.Begun a b alike = alike
alike_begin (begin.Refused code) a b alike = record { vim = alike.vim; look = alike.look; refusals = ap one_more alike.refusals }
alike_begin begin.Failed a b alike = record { vim = ap one_more alike.vim; look = alike.look; refusals = alike.refusals }

-- the counts of a begin between two recordings
counts_begun : (answer : BeginAnswer) (one two : Type 0) (a b c d : SiteCounts) → OnlyDiskFails one a b → c ≡ begin_counts answer b
    → OnlyDiskFails two c d
    → CountJobsAlike (begin_counts answer a) d
counts_begun answer one two a b c d before called behind =
    alike_then (begin_counts answer a) c d
    (subst (λ (x : SiteCounts). CountJobsAlike (begin_counts answer a) x) (sym called) (alike_begin answer a b (alike_disk one a b before)))
    (alike_disk two c d behind)

-- what follows an intent is none or one event
few_following : (t : Tag) (answer : BeginAnswer) → AreFew (following t answer)
few_following t begin.Begun = tt
few_following t (begin.Refused code) = tt
few_following t begin.Failed = tt

-- and it fits the jobs behind the begin
fits_following : (t : Tag) (work : Act) (answer : BeginAnswer) (ws xs ys : List Job) → phase_of t ws ≡ None → Advances ws xs
    → BeginsAs t work answer xs ys → FitAll (following t answer) ys
fits_following t work begin.Begun ws xs ys none before begins = tt
fits_following t work (begin.Refused code) ws xs ys none before begins = (refused_broken t work code ws xs ys none before begins, tt)
fits_following t work begin.Failed ws xs ys none before begins = (tt, tt)

-- the events of a begin are its intent and what follows
pub legal_following : (m now : ℕ) (H : List Event) (t : Tag) (answer : BeginAnswer)
    → IsLegal m (with_events now (beginning t (answer_begun answer)) H)
    → IsLegal m (with_events now (following t answer) (record { moment = now; kind = Intent t } ∷ H))
legal_following m now H t begin.Begun legal = legal
legal_following m now H t (begin.Refused code) legal = legal
legal_following m now H t begin.Failed legal = legal

never_ok : (why : WorkFault) → IsOk {T = Acted} (Err why) → ⊥
never_ok why is = cc

-- and so is their work
same_work : (now : ℕ) (H : List Event) (t : Tag) (answer : BeginAnswer) (result : Result Acted WorkFault)
    → (answer ≡ begin.Begun → IsOk result)
    → recording now (following t answer) (record { moment = now; kind = Intent t } ∷ H) result
    ≡ recording now (beginning t (answer_begun answer)) H result
same_work now H t begin.Begun (Ok done) taken = refl
same_work now H t begin.Begun (Err why) taken = absurd (never_ok why (taken refl))
same_work now H t (begin.Refused code) (Ok done) taken = refl
same_work now H t (begin.Refused code) (Err (fault.TooLong n)) taken = refl
same_work now H t (begin.Refused code) (Err (fault.Full end more)) taken = refl
same_work now H t (begin.Refused code) (Err fault.Memory) taken = refl
same_work now H t (begin.Refused code) (Err fault.Disk) taken = refl
same_work now H t begin.Failed (Ok done) taken = refl
same_work now H t begin.Failed (Err (fault.TooLong n)) taken = refl
same_work now H t begin.Failed (Err (fault.Full end more)) taken = refl
same_work now H t begin.Failed (Err fault.Memory) taken = refl
same_work now H t begin.Failed (Err fault.Disk) taken = refl

-- and the room that is told of it
same_room : (z now : ℕ) (H : List Event) (t : Tag) (answer : BeginAnswer) (result : Result Acted WorkFault)
    → (answer ≡ begin.Begun → IsOk result)
    → TellsRoom MAX_FILE z H (record { moment = now; kind = Intent t }) (Ok tt)
    → TellsRoomFor z now (following t answer) (record { moment = now; kind = Intent t } ∷ H) result
    → TellsRoomFor z now (beginning t (answer_begun answer)) H result
same_room z now H t begin.Begun (Ok done) taken first then = first
same_room z now H t begin.Begun (Err why) taken first then = absurd (never_ok why (taken refl))
same_room z now H t (begin.Refused code) (Ok done) taken first then = then
same_room z now H t (begin.Refused code) (Err (fault.TooLong n)) taken first then = then
same_room z now H t (begin.Refused code) (Err (fault.Full end more)) taken first then = then
same_room z now H t (begin.Refused code) (Err fault.Memory) taken first then = then
same_room z now H t (begin.Refused code) (Err fault.Disk) taken first then = then
same_room z now H t begin.Failed (Ok done) taken first then = then
same_room z now H t begin.Failed (Err (fault.TooLong n)) taken first then = then
same_room z now H t begin.Failed (Err (fault.Full end more)) taken first then = then
same_room z now H t begin.Failed (Err fault.Memory) taken first then = then
same_room z now H t begin.Failed (Err fault.Disk) taken first then = then

-- how a begin may end
begun_ends : (t : Tag) (work : Act) (answer : BeginAnswer) (result : Result Acted WorkFault) → (answer ≡ begin.Begun → IsOk result)
    → (result ≡ Err fault.Memory → ⊥)
    → MayEnd (began t work answer) result
begun_ends t work begin.Begun (Ok done) taken memory = tt
begun_ends t work begin.Begun (Err why) taken memory = never_ok why (taken refl)
begun_ends t work (begin.Refused code) (Ok done) taken memory = tt
begun_ends t work (begin.Refused code) (Err (fault.TooLong n)) taken memory = tt
begun_ends t work (begin.Refused code) (Err (fault.Full end more)) taken memory = tt
begun_ends t work (begin.Refused code) (Err fault.Memory) taken memory = memory refl
begun_ends t work (begin.Refused code) (Err fault.Disk) taken memory = tt
begun_ends t work begin.Failed (Ok done) taken memory = tt
begun_ends t work begin.Failed (Err (fault.TooLong n)) taken memory = tt
begun_ends t work begin.Failed (Err (fault.Full end more)) taken memory = tt
begun_ends t work begin.Failed (Err fault.Memory) taken memory = memory refl
begun_ends t work begin.Failed (Err fault.Disk) taken memory = tt

-- behind work that went well the manager is ready for what it led to
pub ready_behind : (tells : Type 0) (m : ℕ) (H G : List Event) (n : Managed) (a b : SiteState) → Works tells m H (went G) n a b
    → IsReady tells n G b
ready_behind tells m H G n a b works = record { usable = works.closed; keeps = works.keeps; stands = λ told. (works.site told).stands refl }

-- an attempt whose job was begun behind its intent, and what followed
pub begun_attempt : (tells : Type 0) (m z now : ℕ) (H : List Event) (t : Tag) (work : Act) (answer : BeginAnswer)
    (result : Result Acted WorkFault) (n p : Managed) (a b c d : SiteState)
    (one two : Type 0) (i j k l : SiteCounts) → next_action H t.occ ≡ Some (Begin t)
    → IsLegal m (with_events now (beginning t (answer_begun answer)) H) → IsAllowed m H (Intent t)
    → act_of H t ≡ Some work → Works tells m H (went (record { moment = now; kind = Intent t } ∷ H)) n a b
    → TellsRoom MAX_FILE z H (record { moment = now; kind = Intent t }) (Ok tt)
    → (tells → Begins t work answer b c) → Puts tells (point m z now (record { moment = now; kind = Intent t } ∷ H))
    (following t answer) result p c d → (tells → KeepsJobs c d)
    → (answer ≡ begin.Begun → IsOk result) → (result ≡ Err fault.Memory → ⊥) → IfOk result (λ done. done ≡ Recorded)
    → OnlyDiskFails one i j → k ≡ begin_counts answer j → OnlyDiskFails two k l
    → (x : Deed) × (x.occ ≡ t.occ) × Attempts tells (point m z now H) x result p (shows a i) (shows d l)
begun_attempt tells m z now H t work answer result n p a b c d one two i j k l next legal allowed does works room begins puts alone taken
    memory ends before called behind =
    let G : List Event = record { moment = now; kind = Intent t } ∷ H in
    let w : Work = recording now (following t answer) G result in
    let number = works.number in
    let ready : IsReady tells n G b = ready_behind tells m H G n a b works in
    let mid : WorksAtFile tells m G (went G) n b c =
    subst (λ (x : ℕ). WorksAtFile tells x G (went G) n b c) number
    (jobs_alone tells (MayArrive t work) n G b c ready (λ told. (begins told).on_jobs)) in
    let file : WorksAtFile tells m H w p a d =
    joined_at_file tells m H G w n p a c d (joined_at_file tells m H G (went G) n n a b c (file_of tells m H (went G) n a b works) mid)
    puts.at_file in
    let all : WorksWithJobs tells m H w p a d = record {
      at_file = file;
      sound = λ told sound.
          let first : StaysSound m H (went G) a c = begun_sound tells m now H t work n a b c told works
          (begins told).on_jobs allowed does sound in
          let none = fresh_job window m H t a.jobs sound allowed in
          let on = kept_jobs a b (works.jobs told) in
          stays_joined m H G w a c d (extends_one _ H) (extends_trans G (stood w)
          (aimed w) puts.at_file.grows.to_stood puts.at_file.grows.to_aimed) first
          (λ behind. puts_sound tells m now (following t answer) G result p c d told puts.at_file (alone told) (few_following t answer)
          (legal_following m now H t answer legal) behind
          (fits_following t work answer a.jobs b.jobs c.jobs none on (begins told).begins));
    } in (
      record { occ = t.occ; action = Begin t; exchange = began t work answer },
      refl,
      record {
        tried = record { next = next; exchange = inl (refl, does); ended = begun_ends t work answer result taken memory };
        alone = tt;
        handled = record {
          jobs = λ told. begins_on t work answer a.jobs b.jobs c.jobs d.jobs (kept_jobs a b (works.jobs told)) (begins told).begins
              (kept_jobs c d (alone told));
          answers = λ told. (alone told).answers ∙ ((begins told).answers ∙ ap (begin_answered answer) (works.jobs told).answers);
          counts = counts_begun answer one two i j k l before called behind;
        };
        records = record {
          works = subst (λ (x : Work). WorksWithJobs tells m H x p a d) (same_work now H t answer result taken) all;
          saved = puts.saved;
          room = same_room z now H t answer result taken room puts.room;
        };
        ended = ends_begun answer result ends;
      },
    ) where
      ends_begun : (answer : BeginAnswer) (result : Result Acted WorkFault) → IfOk result (λ done. done ≡ Recorded)
          → IfOk result (λ done. done ≡ ending (Begin t) (answer_begun answer))
      ends_begun begin.Begun result ends = ends
      ends_begun (begin.Refused code) result ends = ends
      ends_begun begin.Failed result ends = ends

-- the room that is told of an intent that wasn't recorded
unbegun_room : (z now : ℕ) (H : List Event) (t : Tag) (why : WorkFault)
    → (why ≢ fault.Memory → TellsRoom MAX_FILE z H (record { moment = now; kind = Intent t }) (Err why))
    → TellsRoomFor z now (Intent t ∷ []) H (Err why)
unbegun_room z now H t (fault.TooLong n) room = room (λ is. cc)
unbegun_room z now H t (fault.Full end more) room = room (λ is. cc)
unbegun_room z now H t fault.Memory room = tt
unbegun_room z now H t fault.Disk room = room (λ is. cc)

-- and its work
unbegun_work : (now : ℕ) (H : List Event) (t : Tag) (why : WorkFault)
    → recorded H (record { moment = now; kind = Intent t }) (Err why) ≡ recording now (Intent t ∷ []) H (Err why)
unbegun_work now H t (fault.TooLong n) = refl
unbegun_work now H t (fault.Full end more) = refl
unbegun_work now H t fault.Memory = refl
unbegun_work now H t fault.Disk = refl

-- an attempt whose intent wasn't recorded, so that its job wasn't begun
pub unbegun_attempt : (tells : Type 0) (m z now : ℕ) (H : List Event) (t : Tag) (why : WorkFault) (n : Managed) (a b : SiteState)
    (failed : Type 0) (i j : SiteCounts)
    → next_action H t.occ ≡ Some (Begin t) → Works tells m H (recorded H (record { moment = now; kind = Intent t }) (Err why)) n a b
    → (why ≢ fault.Memory → TellsRoom MAX_FILE z H (record { moment = now; kind = Intent t }) (Err why)) → OnlyDiskFails failed i j
    → n.ledger.saved ≡ z
    → (x : Deed) × (x.occ ≡ t.occ) × Attempts tells (point m z now H) x (Err why) n (shows a i) (shows b j)
unbegun_attempt tells m z now H t why n a b failed i j next works room only saved = (
  record { occ = t.occ; action = Begin t; exchange = nothing },
  refl,
  record {
    tried = record { next = next; exchange = inr tt; ended = tt };
    alone = tt;
    handled = record {
      jobs = λ told. kept_jobs a b (works.jobs told);
      answers = λ told. (works.jobs told).answers;
      counts = alike_disk failed i j only;
    };
    records = record {
      works = subst (λ (w : Work). WorksWithJobs tells m H w n a b) (unbegun_work now H t why) (with_jobs tells m H _ n a b works);
      saved = saved;
      room = unbegun_room z now H t why room;
    };
    ended = tt;
  },
)

-- the action makes an attempt
abbrev pub IsStarving : Action → Type 0
IsStarving (Begin t) = Unit {0}
IsStarving (Look t) = Unit {0}
IsStarving (AbortAndLook t) = Unit {0}
IsStarving _ = ⊥

pub looks_starving : (forced : Bool) (t : Tag) → IsStarving (look_at forced t)
looks_starving true t = tt
looks_starving false t = tt

-- an attempt for which there was no memory: nothing was done
pub starved_attempt : (tells : Type 0) (m : Managed) (now : ℕ) (H : List Event) (o : ℕ) (action : Action) (n : Managed) (s : SiteState)
    (i : SiteCounts) → next_action H o ≡ Some action
    → IsStarving action → Works tells m.ledger.manager H (went H) n s s → n.ledger.saved ≡ m.ledger.saved
    → (x : Deed) × (x.occ ≡ o) × Attempts tells (point m.ledger.manager m.ledger.saved now H) x (Err fault.Memory) n (shows s i) (shows s i)
starved_attempt tells m now H o action n s i next starves works saved = (
  record { occ = o; action = action; exchange = nothing },
  refl,
  record {
    tried = record { next = next; exchange = inr (unexchanged action starves); ended = tt };
    alone = tt;
    handled = record { jobs = λ told. advances-refl s.jobs; answers = λ told. refl; counts = alike_refl i };
    records = record { works = starved_records action starves; saved = saved; room = starved_room action starves };
    ended = tt;
  },
) where
  unexchanged : (x : Action) → IsStarving x → IsUnexchanged x nothing (Err fault.Memory)
  unexchanged (Begin t) is = tt
  unexchanged (Look t) is = tt
  unexchanged (AbortAndLook t) is = tt
  unexchanged _ is = absurd is

  starved_records : (x : Action) → IsStarving x → WorksWithJobs tells m.ledger.manager H
      (recording now (appended o x BeginTaken) H (Err fault.Memory)) n s s
  starved_records (Begin t) is = with_jobs tells m.ledger.manager H (went H) n s s works
  starved_records (Look t) is = with_jobs tells m.ledger.manager H (went H) n s s works
  starved_records (AbortAndLook t) is = with_jobs tells m.ledger.manager H (went H) n s s works
  starved_records _ is = absurd is

  starved_room : (x : Action) → IsStarving x → TellsRoomFor m.ledger.saved now (appended o x BeginTaken) H (Err fault.Memory)
  starved_room (Begin t) is = tt
  starved_room (Look t) is = tt
  starved_room (AbortAndLook t) is = tt
  starved_room _ is = absurd is

-- what a look told fits the jobs
fits_looked : (t : Tag) (answer : LookAnswer) (xs ys : List Job) → LooksAs t answer xs ys → FitAll (looking t (answer_looked answer)) ys
fits_looked t look.Absent xs ys told = (told, tt)
fits_looked t look.Running xs ys told = tt
fits_looked t (look.Done name) xs ys told = (told, tt)
fits_looked t (look.Broken code) xs ys told = (subst (λ (p : Option Phase). IsNoneOrBroken p) (sym told) tt, tt)
fits_looked t look.Aborted xs ys told = (told, tt)
fits_looked t look.Failed xs ys told = tt

few_looked : (t : Tag) (answer : LookAnswer) → AreFew (looking t (answer_looked answer))
few_looked t look.Absent = tt
few_looked t look.Running = tt
few_looked t (look.Done name) = tt
few_looked t (look.Broken code) = tt
few_looked t look.Aborted = tt
few_looked t look.Failed = tt

-- how a look may end, behind aborts or none
looked_ends : (forced : Bool) (aborts : List (Tag × AbortAnswer)) (t : Tag) (answer : LookAnswer) (result : Result Acted WorkFault)
    → (result ≡ Err fault.Memory → ⊥) → MayEnd (look_exchange forced aborts t answer) result
looked_ends true aborts t answer (Ok done) memory = tt
looked_ends false aborts t answer (Ok done) memory = tt
looked_ends true aborts t answer (Err (fault.TooLong n)) memory = tt
looked_ends false aborts t answer (Err (fault.TooLong n)) memory = tt
looked_ends true aborts t answer (Err (fault.Full end more)) memory = tt
looked_ends false aborts t answer (Err (fault.Full end more)) memory = tt
looked_ends forced aborts t answer (Err fault.Memory) memory = absurd (memory refl)
looked_ends true aborts t answer (Err fault.Disk) memory = tt
looked_ends false aborts t answer (Err fault.Disk) memory = tt

-- what is recorded of a job that was looked at, where running jobs may have ended before
looked_records : (tells : Type 0) (m z now : ℕ) (H : List Event) (t : Tag) (answer : LookAnswer) (result : Result Acted WorkFault)
    (n p : Managed) (a b d : SiteState)
    → IsLegal m (with_events now (looking t (answer_looked answer)) H) → n.ledger.manager ≡ m → IsReady tells n H a
    → (tells → OnJobs Advances a b)
    → (tells → LooksAs t answer a.jobs b.jobs) → Puts tells (point m z now H) (looking t (answer_looked answer)) result p b d
    → (tells → KeepsJobs b d)
    → Records tells (point m z now H) (looking t (answer_looked answer)) result p a d
looked_records tells m z now H t answer result n p a b d legal number ready calls looks puts alone =
    let w : Work = recording now (looking t (answer_looked answer)) H result in
    let mid : WorksAtFile tells m H (went H) n a b =
    subst (λ (x : ℕ). WorksAtFile tells x H (went H) n a b) number (jobs_alone tells Advances n H a b ready calls) in
    record {
      works = record {
        at_file = joined_at_file tells m H H w n p a b d mid puts.at_file;
        sound = λ told sound.
            let first : StaysSound m H (went H) a b =
            subst (λ (x : ℕ). IsSound x H a.jobs → StaysSound x H (went H) a b) number
            (looked_sound tells n H a b told ready (calls told)) sound in
            stays_joined m H H w a b d (extends_refl H) (extends_trans H (stood w)
            (aimed w) puts.at_file.grows.to_stood puts.at_file.grows.to_aimed) first
            (λ behind. puts_sound tells m now (looking t (answer_looked answer)) H result p b d told puts.at_file (alone told)
            (few_looked t answer) legal behind
            (fits_looked t answer a.jobs b.jobs (looks told)));
      };
      saved = puts.saved;
      room = puts.room;
    }

-- one type for another
as_told : {A B : Type 0} → A ≡ B → A → B
as_told is a = subst (λ (X : Type 0). X) is a

-- what is exchanged for a look, behind aborts or none
look_due : (forced : Bool) (m : ℕ) (H : List Event) (o : ℕ) (aborts : List (Tag × AbortAnswer)) (t : Tag) (answer : LookAnswer)
    → (forced ≡ true → map (λ a. a.0) aborts ≡ open_of H o)
    → IsExchangeOf m H o (look_at forced t) (look_exchange forced aborts t answer)
look_due true m H o aborts t answer all = (refl, all refl)
look_due false m H o aborts t answer all = refl

look_alone : (forced : Bool) (aborts : List (Tag × AbortAnswer)) (t : Tag) (answer : LookAnswer)
    → IsWithoutPeer (look_exchange forced aborts t answer)
look_alone true aborts t answer = tt
look_alone false aborts t answer = tt

-- it is answered as the look is, and what that appends, and how the act ends, is as of a look
look_answered_so : (forced : Bool) (xs : List Change) (aborts : List (Tag × AbortAnswer)) (t : Tag) (answer : LookAnswer)
    → answer_in xs (look_exchange forced aborts t answer) ≡ answer_looked answer
look_answered_so true xs aborts t answer = refl
look_answered_so false xs aborts t answer = refl

look_appends : (forced : Bool) (o : ℕ) (t : Tag) (answer : Answer) → appended o (look_at forced t) answer ≡ looking t answer
look_appends true o t answer = refl
look_appends false o t answer = refl

look_ending : (forced : Bool) (t : Tag) (answer : LookAnswer)
    → ending (Look t) (answer_looked answer) ≡ ending (look_at forced t) (answer_looked answer)
look_ending false t answer = refl
look_ending true t look.Absent = refl
look_ending true t look.Running = refl
look_ending true t (look.Done name) = refl
look_ending true t (look.Broken code) = refl
look_ending true t look.Aborted = refl
look_ending true t look.Failed = refl

-- and the jobs are as of a look
look_jobs : (forced : Bool) (aborts : List (Tag × AbortAnswer)) (t : Tag) (answer : LookAnswer) (xs ys : List Job)
    → JobsDo (look_exchange forced aborts t answer) xs ys ≡ (Advances xs ys × LooksAs t answer xs ys)
look_jobs true aborts t answer xs ys = refl
look_jobs false aborts t answer xs ys = refl

ends_alike : (result : Result Acted WorkFault) (one two : Acted) → one ≡ two → IfOk result (λ done. done ≡ one)
    → IfOk result (λ done. done ≡ two)
ends_alike (Ok done) one two same ends = ends ∙ same
ends_alike (Err why) one two same ends = tt

-- an attempt whose job was looked at, behind aborts or none
pub inquired_attempt : (tells : Type 0) (m z now : ℕ) (H : List Event) (o : ℕ) (forced : Bool) (aborts : List (Tag × AbortAnswer))
    (t : Tag) (answer : LookAnswer) (result : Result Acted WorkFault) (n p : Managed) (a b d : SiteState) (two : Type 0)
    (i j k : SiteCounts) → next_action H o ≡ Some (look_at forced t)
    → (forced ≡ true → map (λ a. a.0) aborts ≡ open_of H o)
    → IsLegal m (with_events now (looking t (answer_looked answer)) H) → n.ledger.manager ≡ m → IsReady tells n H a
    → Inquires tells (look_exchange forced aborts t answer) (shows a i) (shows b j)
    → Puts tells (point m z now H) (looking t (answer_looked answer)) result p b d → (tells → KeepsJobs b d)
    → (result ≡ Err fault.Memory → ⊥) → IfOk result (λ done. done ≡ ending (Look t) (answer_looked answer))
    → OnlyDiskFails two j k
    → (x : Deed) × (x.occ ≡ o) × Attempts tells (point m z now H) x result p (shows a i) (shows d k)
inquired_attempt tells m z now H o forced aborts t answer result n p a b d two i j k next all legal number ready asks puts alone memory
    ends behind =
    let x : Exchange = look_exchange forced aborts t answer in
    let done : Deed = record { occ = o; action = look_at forced t; exchange = x } in
    let told : answered H done ≡ answer_looked answer = look_answered_so forced (changes H o) aborts t answer in
    let kinds : kinds_of H done ≡ looking t (answer_looked answer) =
    ap (appended o (look_at forced t)) told ∙ look_appends forced o t (answer_looked answer) in
    let saw : tells → Advances a.jobs b.jobs × LooksAs t answer a.jobs b.jobs =
    λ tells. as_told (look_jobs forced aborts t answer a.jobs b.jobs) (asks.jobs tells) in (
      done,
      refl,
      record {
        tried = record {
          next = next;
          exchange = inl (look_due forced m H o aborts t answer all);
          ended = looked_ends forced aborts t answer result memory;
        };
        alone = look_alone forced aborts t answer;
        handled = record {
          jobs = λ tells. as_told (sym (look_jobs forced aborts t answer a.jobs d.jobs)) (
            advances-then a.jobs b.jobs d.jobs (saw tells).0 (kept_jobs b d (alone tells)),
            looks_on t answer a.jobs b.jobs d.jobs (saw tells).1 (kept_jobs b d (alone tells)),
          );
          answers = λ tells. (alone tells).answers ∙ asks.answers tells;
          counts = subst (λ (c : SiteCounts). CountJobsAlike c k) asks.counts (alike_disk two j k behind);
        };
        records = subst (λ (ks : List EventKind). Records tells (point m z now H) ks result p a d) (sym kinds)
            (looked_records tells m z now H t answer result n p a b d legal number ready asks.calls (λ tells. (saw tells).1) puts alone);
        ended = ends_alike result (ending (Look t) (answer_looked answer)) (ending (look_at forced t) (answered H done))
            (look_ending forced t answer ∙ ap (ending (look_at forced t)) (sym told)) ends;
      },
    )

-- behind a reservation the manager is as ready as before
pub ready_kept : (tells : Type 0) (m n : Managed) (H : List Event) (a : SiteState) → IsReady tells m H a → n.ledger ≡ m.ledger → KeepsOn m n
    → IsReady tells n H a
ready_kept tells m n H a ready same keeps = record {
  usable = subst (λ (l : Ledger). l.closed ≡ false) (sym same) ready.usable;
  keeps = keeps H ready.keeps;
  stands = λ told.
      let stands = ready.stands told in
      record { journal = subst (λ (l : Ledger). Stands a l) (sym same) stands.journal; records = stands.records; events = stands.events };
}

-- and nothing was done
pub kept_idle : (tells : Type 0) (m n : Managed) (H : List Event) (a : SiteState) → IsReady tells m H a → n.ledger ≡ m.ledger → KeepsOn m n
    → Works tells m.ledger.manager H (went H) n a a
kept_idle tells m n H a ready same keeps =
    subst (λ (l : Ledger). Works tells l.manager H (went H) n a a) same (idle tells n H a (ready_kept tells m n H a ready same keeps))

-- an attempt that is the next action may begin
pub begin_allowed : NextActionsAreAllowed → (m : ℕ) (H : List Event) (t : Tag) → IsLegal m H → IsActive H t.occ
    → next_action H t.occ ≡ Some (Begin t) → IsAllowed m H (Intent t)
begin_allowed allows m H t legal is next = (allows window m H (omega arith) legal t.occ 0 (Begin t) BeginTaken
    (active_asked H t.occ is) next tt).0

is_answer_begun : (H : List Event) (o : ℕ) (answer : BeginAnswer) → IsAnswer H o (answer_begun answer)
is_answer_begun H o begin.Begun = tt
is_answer_begun H o (begin.Refused code) = tt
is_answer_begun H o begin.Failed = tt

-- and what it appends for each answer is allowed
pub begin_legal : NextActionsAreAllowed → (m now : ℕ) (H : List Event) (t : Tag) (answer : BeginAnswer) → IsLegal m H → IsActive H t.occ
    → next_action H t.occ ≡ Some (Begin t)
    → IsLegal m (with_events now (beginning t (answer_begun answer)) H)
begin_legal allows m now H t answer legal is next =
    allows window m H (omega arith) legal t.occ now (Begin t) (answer_begun answer) (active_asked H t.occ is) next
    (is_answer_begun H t.occ answer)

is_answer_looked : (H : List Event) (o : ℕ) (answer : LookAnswer) → IsAnswer H o (answer_looked answer)
is_answer_looked H o look.Absent = tt
is_answer_looked H o look.Running = tt
is_answer_looked H o (look.Done name) = tt
is_answer_looked H o (look.Broken code) = tt
is_answer_looked H o look.Aborted = tt
is_answer_looked H o look.Failed = tt

-- so it is for a look, behind an abort too
pub look_legal : NextActionsAreAllowed → (forced : Bool) (m now : ℕ) (H : List Event) (o : ℕ) (t : Tag) (answer : LookAnswer) → IsLegal m H
    → IsActive H o
    → next_action H o ≡ Some (look_at forced t) → IsLegal m (with_events now (looking t (answer_looked answer)) H)
look_legal allows true m now H o t answer legal is next =
    allows window m H (omega arith) legal o now (AbortAndLook t) (answer_looked answer) (active_asked H o is) next
    (is_answer_looked H o answer)
look_legal allows false m now H o t answer legal is next =
    allows window m H (omega arith) legal o now (Look t) (answer_looked answer) (active_asked H o is) next (is_answer_looked H o answer)

-- and the attempt that is looked at is open
pub look_open : NextActionsAreAllowed → (forced : Bool) (m : ℕ) (H : List Event) (o : ℕ) (t : Tag) → IsLegal m H → IsActive H o
    → next_action H o ≡ Some (look_at forced t)
    → is_open H t ≡ true
look_open allows forced m H o t legal is next = (look_legal allows forced m 0 H o t look.Absent legal is next).0

-- what holds anyhow holds where it went well
pub ok_anyhow : {T E : Type 0} → (result : Result T E) (P : Type 0) → P → OnOk result P
ok_anyhow (Ok done) P holds = holds
ok_anyhow (Err why) P holds = tt
