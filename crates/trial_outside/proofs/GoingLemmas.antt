-- What is always so of a trial's site stays so through each call.
use Rattle.std.proofs.Common.{◌≡◌, ◌∙◌, sym, ap, subst, refl, arith, ⊎_elim, ℕ, ◌+◌, ◌%◌}
use Rattle.std.proofs.Common.{◌<◌, Bool}
use Rattle.std.proofs.Common.{true, false, if◌then◌else◌, ◌==◌, nat_le, List, [], ◌∷◌, ◌++◌, length, map, reverse, All}
use Rattle.std.proofs.Common.{get_or}
use Rattle.std.specs.Prelude.{IsSome}
use Rattle.std.proofs.lemmas.Bool.Decides.{nat_tests}
use Rattle.std.proofs.lemmas.List.{nil_from_length}
use Rattle.lcm_events.specs.declared.acts.Act.{Act}
use Rattle.lcm_events.specs.declared.attempts.Tag.{Tag}
use Rattle.site_traits.specs.declared.jobs.BeginAnswer.{BeginAnswer}
use Rattle.site_traits.specs.declared.jobs.BeginAnswer.TheVariants as begin
use Rattle.site_traits.specs.declared.jobs.LookAnswer.{LookAnswer}
use Rattle.site_traits.specs.declared.jobs.LookAnswer.TheVariants as look
use Rattle.site_traits.specs.declared.mem_jobs.Arrival.{Arrival}
use Rattle.site_traits.specs.declared.mem_jobs.Arrival.TheVariants as arrival
use Rattle.site_traits.specs.declared.mem_jobs.JobPlan.{JobPlan}
use Rattle.site_traits.specs.declared.mem_jobs.KeptJob.{KeptJob}
use Rattle.site_traits.specs.declared.mem_site.MemSite.{MemSite}
use Rattle.site_traits.specs.declared.past.Past.{Past}
use Rattle.site_traits.specs.declared.past.SiteCall.{SiteCall}
use Rattle.site_traits.specs.Book.{BeginRuns, HasWork, LookRuns, LooksAt, LooksInVain, Runs, next_plan, unplanned}
use Rattle.site_traits.specs.Counts.{one_more}
use Rattle.site_traits.specs.Disk.{change_of}
use Rattle.site_traits.specs.Jobs.{Answered, begin_answered, look_answered, phase_of, unanswered}
use Rattle.site_traits.specs.KeptJobs.{IsEarly, arrived, arrives, begin_of}
use Rattle.site_traits.specs.MemSite.{IsFresh, state_of}
use Rattle.site_traits.specs.Past.{IsBegun, IsNotBegun, answers_of, arrival_by}
use Rattle.site_traits.specs.Site.{Begins, Looks}
use Rattle.site_traits.proofs.DiskLemmas.{early_calls}
use Rattle.site_traits.proofs.KeptLemmas.{jobs_counted}
use Rattle.trial_outside.specs.Going.{GoesAsPlanned}
use Rattle.trial_outside.specs.Planned.{AreDone, ArePlaced, ArePlanned, IsDone, planned}
use Rattle.trial_outside.specs.Taken.{AreTaken, IsWork, coming, plan_of}
use Rattle.trial_outside.proofs.TakenLemmas.{Grows, arrives_taken, done_told, looks_few, looks_taken, placed_told}

-- the jobs are placed where those that are kept were taken
placed_now : (m : MemSite) → AreTaken (reverse m.book.past.kept.items) → ArePlaced (state_of m).jobs
placed_now m are =
    let past = m.book.past in
    let early = early_calls past.log.calls past.kept.items past.early in
    placed_told (length (map change_of past.log.calls)) past.kept.items early are

-- one call on jobs more may have failed
pub faulted : (m : MemSite) (begins faults : ℕ) → GoesAsPlanned m begins faults
    → GoesAsPlanned m begins (one_more faults)
faulted m begins faults goes = record {
  planned = goes.planned;
  done = goes.done;
  aborted = goes.aborted;
  placed = goes.placed;
  counted = goes.counted;
  within = goes.within;
  work = goes.work;
  most = goes.most;
  next = λ none. goes.next (omega (arith, none));
  taken = goes.taken;
  few = goes.few;
}

-- a site on which nothing was done
pub fresh_goes : (m : MemSite) (work : List JobPlan) → IsFresh m [] [] → HasWork [] work 65536 m.book → IsWork work
    → GoesAsPlanned m 0 0
fresh_goes m work fresh has is =
    let past = m.book.past in
    let calls = past.log.calls in
    let answers : (state_of m).answers ≡ unanswered = ap answers_of fresh.log in
    let E : ℕ → Type 0 = λ k. All (IsEarly k) past.kept.items in
    let early : All (IsEarly 0) past.kept.items = subst E (ap length fresh.log) past.early in
    let none : past.kept.items ≡ [] = nil_from_length past.kept.items
    (sym (jobs_counted 0 past.kept.items early) ∙ ap length fresh.jobs_are) in
    let A : Answered → Type 0 = λ a. ArePlanned a.begins in
    let D : Answered → Type 0 = λ a. AreDone a.looks in
    let T : List KeptJob → Type 0 = λ v. AreTaken (reverse v) in
    let taken : AreTaken (reverse past.kept.items) = subst T (sym none) tt in
    let length_none = ap length none in
    record {
      planned = subst A (sym answers) tt;
      done = subst D (sym answers) tt;
      aborted = ap (λ (a : Answered). a.aborted) answers;
      placed = placed_now m taken;
      counted = sym (ap (λ (a : Answered). length a.begins) answers);
      within = omega arith;
      work = subst IsWork (sym has.work_is) is;
      most = has.most;
      next = λ never. has.begins;
      taken = taken;
      few = omega (arith, length_none);
    }

-- a call on the file
pub filed_goes : (m n : MemSite) (begins faults : ℕ) (what : SiteCall) (bytes : List ℕ) (succeeds : Bool)
    → GoesAsPlanned m begins faults → (state_of n).answers ≡ (state_of m).answers
    → Runs what bytes succeeds m.book n.book
    → GoesAsPlanned n begins faults
filed_goes m n begins faults what bytes succeeds goes same runs =
    let A : Answered → Type 0 = λ a. ArePlanned a.begins in
    let D : Answered → Type 0 = λ a. AreDone a.looks in
    let T : List KeptJob → Type 0 = λ v. AreTaken (reverse v) in
    let taken : AreTaken (reverse n.book.past.kept.items) = subst T (sym runs.kept) goes.taken in
    let kept = ap length runs.kept in
    let few = goes.few in
    record {
      planned = subst A (sym same) goes.planned;
      done = subst D (sym same) goes.done;
      aborted = ap (λ (a : Answered). a.aborted) same ∙ goes.aborted;
      placed = placed_now n taken;
      counted = goes.counted ∙ sym (ap (λ (a : Answered). length a.begins) same);
      within = goes.within;
      work = subst IsWork (sym (ap (λ v. v.items) runs.work)) goes.work;
      most = runs.most ∙ goes.most;
      next = λ none. runs.begins ∙ goes.next none;
      taken = taken;
      few = omega (arith, kept, few);
    }

-- what is planned of the next begin, and its answer
plan_is : (m : MemSite) (begins faults : ℕ) → GoesAsPlanned m begins faults → faults ≡ 0 → begins < 65536
    → next_plan m.book ≡ plan_of (begins + 1)
plan_is m begins faults goes none more =
    let all = goes.work.all in
    ap (λ k. get_or m.book.work.items k unplanned) (goes.next none) ∙ goes.work.each begins (omega (arith, all, more))

arrival_is : (m : MemSite) (begins faults : ℕ) (plan : JobPlan) → GoesAsPlanned m begins faults → begins < 65536
    → arrival_by plan m.book.past ≡ plan.arrival
arrival_is m begins faults plan goes more =
    let most = goes.most in
    let few = goes.few in
    let room : nat_le m.book.past.most (length m.book.past.kept.items) ≡ false =
    grind (arith, nat_tests, most, few, more) in
    ap (λ (b : Bool). if b then arrival.Refused 1 else plan.arrival) room

answer_coming : (place : ℕ) → begin_of (coming place) ≡ planned place
answer_coming place = of (place % 16 == 0) where
  of : (b : Bool) → begin_of (if b then arrival.Refused 9 else arrival.Taken)
      ≡ (if b then begin.Refused 9 else begin.Begun)
  of true = refl
  of false = refl

planned_answered : (place : ℕ) (l : Answered) → begin_answered (planned place) l
    ≡ record l { begins = planned place ∷ l.begins }
planned_answered place l = of (place % 16 == 0) where
  of : (b : Bool) → begin_answered (if b then begin.Refused 9 else begin.Begun) l
      ≡ record l { begins = (if b then begin.Refused 9 else begin.Begun) ∷ l.begins }
  of true = refl
  of false = refl

planned_comes : (place : ℕ) → planned place ≡ begin.Failed → ⊥
planned_comes place = of (place % 16 == 0) where
  of : (b : Bool) → (if b then begin.Refused 9 else begin.Begun) ≡ begin.Failed → ⊥
  of true is = cc
  of false is = cc

-- a begin that is on record
begun_goes : (m n : MemSite) (begins faults : ℕ) (tag : Tag) (act : Act) (plan : JobPlan) (came : Arrival)
    (answer : BeginAnswer)
    → GoesAsPlanned m begins faults → plan ≡ plan_of (begins + 1) → came ≡ coming (begins + 1) → begins < 65536
    → (state_of n).answers ≡ begin_answered answer (state_of m).answers
    → IsBegun tag act plan came answer m.book.past n.book.past
    → n.book.work ≡ m.book.work → n.book.begins ≡ one_more m.book.begins
    → GoesAsPlanned n (begins + 1) faults
begun_goes m n begins faults tag act plan came answer goes plan_is came_is more answers begun work begins_on =
    let place = begins + 1 in
    let l = (state_of m).answers in
    let kept = m.book.past.kept.items in
    let now = length m.book.past.log.calls + 1 in
    let is : answer ≡ planned place = begun.answered ∙ ap begin_of came_is ∙ answer_coming place in
    let told : (state_of n).answers ≡ record l { begins = planned place ∷ l.begins } =
    answers ∙ ap (λ a. begin_answered a l) is ∙ planned_answered place l in
    let A : Answered → Type 0 = λ a. ArePlanned a.begins in
    let D : Answered → Type 0 = λ a. AreDone a.looks in
    let put : n.book.past.kept.items
    ≡ (if arrives came then kept ++ arrived tag act (plan_of place) now kept ∷ [] else kept) =
    begun.kept ∙ ap (λ (p : JobPlan). if arrives came then kept ++ arrived tag act p now kept ∷ [] else kept) plan_is in
    let grows : Grows kept n.book.past.kept.items =
    subst (Grows kept) (sym put) (arrives_taken tag act place now (arrives came) kept goes.taken) in
    let few = goes.few in
    let grown = grows.few in
    let counted = goes.counted in
    let one = ap (λ (a : Answered). length a.begins) told in
    record {
      planned = subst A (sym told) (ap (λ k. planned (k + 1)) goes.counted, goes.planned);
      done = subst D (sym told) goes.done;
      aborted = ap (λ (a : Answered). a.aborted) told ∙ goes.aborted;
      placed = placed_now n grows.taken;
      counted = omega (arith, counted, one);
      within = omega (arith, more);
      work = subst IsWork (sym (ap (λ v. v.items) work)) goes.work;
      most = begun.most ∙ goes.most;
      next = λ none. (let next = goes.next none in omega (arith, next, begins_on, more));
      taken = grows.taken;
      few = omega (arith, few, grown);
    }

-- a begin that is not
lost_goes : (m n : MemSite) (begins faults : ℕ) (came : Arrival) (answer : BeginAnswer) → GoesAsPlanned m begins faults
    → (state_of n).answers ≡ begin_answered answer (state_of m).answers
    → IsNotBegun came answer m.book.past n.book.past → n.book.work ≡ m.book.work
    → GoesAsPlanned n begins (one_more faults)
lost_goes m n begins faults came answer goes answers lost work =
    let same : (state_of n).answers ≡ (state_of m).answers =
    answers ∙ ap (λ a. begin_answered a (state_of m).answers) lost.answered in
    let A : Answered → Type 0 = λ a. ArePlanned a.begins in
    let D : Answered → Type 0 = λ a. AreDone a.looks in
    let T : List KeptJob → Type 0 = λ v. AreTaken (reverse v) in
    let taken : AreTaken (reverse n.book.past.kept.items) = subst T (sym lost.stays.kept) goes.taken in
    let kept = ap length lost.stays.kept in
    let few = goes.few in
    record {
      planned = subst A (sym same) goes.planned;
      done = subst D (sym same) goes.done;
      aborted = ap (λ (a : Answered). a.aborted) same ∙ goes.aborted;
      placed = placed_now n taken;
      counted = goes.counted ∙ sym (ap (λ (a : Answered). length a.begins) same);
      within = goes.within;
      work = subst IsWork (sym (ap (λ v. v.items) work)) goes.work;
      most = lost.stays.most ∙ goes.most;
      next = λ none. absurd (omega (arith, none));
      taken = taken;
      few = omega (arith, kept, few);
    }

module _ (m n : MemSite) (begins faults : ℕ) (tag : Tag) (act : Act) (answer : BeginAnswer)
    (goes : GoesAsPlanned m begins faults) (none : faults ≡ 0) (more : begins < 65536)
    (told : Begins tag act answer (state_of m) (state_of n)) (runs : BeginRuns tag act answer m.book n.book) where
  came : Arrival
  came = arrival_by (next_plan m.book) m.book.past

  came_is : arrival_by (next_plan m.book) m.book.past ≡ coming (begins + 1)
  came_is = arrival_is m begins faults (next_plan m.book) goes more
      ∙ ap (λ (p : JobPlan). p.arrival) (plan_is m begins faults goes none more)

  -- a begin that was answered
  pub begins_goes : (answer ≡ begin.Failed → ⊥) → GoesAsPlanned n (begins + 1) faults
  begins_goes came_back = ⊎_elim
      (λ (b : IsBegun tag act (next_plan m.book) (arrival_by (next_plan m.book) m.book.past) answer m.book.past
      n.book.past).
      begun_goes m n begins faults tag act (next_plan m.book) _ answer goes (plan_is m begins faults goes none more)
      came_is more told.answers b runs.plan.work runs.begins)
      (λ (b : IsNotBegun (arrival_by (next_plan m.book) m.book.past) answer m.book.past n.book.past).
      absurd (came_back b.answered))
      runs.past

  -- a begin that failed
  pub begin_lost : answer ≡ begin.Failed → GoesAsPlanned n begins (one_more faults)
  begin_lost failed = ⊎_elim
      (λ (b : IsBegun tag act (next_plan m.book) (arrival_by (next_plan m.book) m.book.past) answer m.book.past
      n.book.past).
      absurd (planned_comes (begins + 1)
      (sym (b.answered ∙ ap begin_of came_is ∙ answer_coming (begins + 1)) ∙ failed)))
      (λ (b : IsNotBegun (arrival_by (next_plan m.book) m.book.past) answer m.book.past n.book.past).
      lost_goes m n begins faults _ answer goes told.answers b runs.plan.work)
      runs.past

-- what a look does to the answers
look_begins : (tag : Tag) (answer : LookAnswer) (l : Answered) → (look_answered tag answer l).begins ≡ l.begins
look_begins tag look.Absent l = refl
look_begins tag look.Running l = refl
look_begins tag (look.Done name) l = refl
look_begins tag (look.Broken code) l = refl
look_begins tag look.Aborted l = refl
look_begins tag look.Failed l = refl

look_aborted : (tag : Tag) (answer : LookAnswer) (l : Answered) → (look_answered tag answer l).aborted ≡ l.aborted
look_aborted tag look.Absent l = refl
look_aborted tag look.Running l = refl
look_aborted tag (look.Done name) l = refl
look_aborted tag (look.Broken code) l = refl
look_aborted tag look.Aborted l = refl
look_aborted tag look.Failed l = refl

looks_done : (tag : Tag) (answer : LookAnswer) (l : Answered) → IsDone answer → AreDone l.looks
    → AreDone (look_answered tag answer l).looks
looks_done tag (look.Done name) l is are = (tt, are)
looks_done tag look.Absent l is are = absurd is
looks_done tag look.Running l is are = absurd is
looks_done tag (look.Broken code) l is are = absurd is
looks_done tag look.Aborted l is are = absurd is
looks_done tag look.Failed l is are = absurd is

-- what a look does to the jobs that are kept
pub record Looked (old new : Past) (tag : Tag) (answer : LookAnswer) (l : Answered) : Type 0 where
  pub taken : AreTaken (reverse new.kept.items)
  pub few : length new.kept.items ≡ length old.kept.items
  pub most : new.most ≡ old.most
  pub done : AreDone (look_answered tag answer l).looks

looked_by : (m n : MemSite) (begins faults : ℕ) (tag : Tag) (answer : LookAnswer) → GoesAsPlanned m begins faults
    → IsSome (phase_of tag (state_of m).jobs) → LookRuns tag answer m.book n.book
    → Looked m.book.past n.book.past tag answer (state_of m).answers
looked_by m n begins faults tag answer goes there runs =
    let was = m.book.past in
    let now = length was.log.calls + 1 in
    let l = (state_of m).answers in
    let T : List KeptJob → Type 0 = λ v. AreTaken (reverse v) in
    let D : LookAnswer → Type 0 = λ a. AreDone (look_answered tag a l).looks in
    let I : LookAnswer → Type 0 = λ a. IsDone a in
    ⊎_elim
    (λ (at : LooksAt tag answer m.book n.book).
    record {
      taken = subst T (sym at.looks.kept) (looks_taken tag now was.kept.items goes.taken);
      few = ap length at.looks.kept ∙ looks_few tag now was.kept.items;
      most = at.looks.most;
      done = looks_done tag answer l
          (subst I (sym at.looks.answered)
          (done_told tag (length (map change_of was.log.calls)) was.kept.items
          (early_calls was.log.calls was.kept.items was.early) goes.taken there))
          goes.done;
    })
    (λ (vain : LooksInVain answer m.book n.book).
    record {
      taken = subst T (sym vain.stays.kept) goes.taken;
      few = ap length vain.stays.kept;
      most = vain.stays.most;
      done = subst D (sym vain.answered) goes.done;
    })
    runs.past

-- a look at a job that is there
pub looked_goes : (m n : MemSite) (begins faults : ℕ) (tag : Tag) (answer : LookAnswer) → GoesAsPlanned m begins faults
    → IsSome (phase_of tag (state_of m).jobs) → Looks tag answer (state_of m) (state_of n)
    → LookRuns tag answer m.book n.book
    → GoesAsPlanned n begins faults
looked_goes m n begins faults tag answer goes there told runs =
    let l = (state_of m).answers in
    let by : Looked m.book.past n.book.past tag answer l = looked_by m n begins faults tag answer goes there runs in
    let D : Answered → Type 0 = λ a. AreDone a.looks in
    let same : (state_of n).answers.begins ≡ l.begins =
    ap (λ (a : Answered). a.begins) told.answers ∙ look_begins tag answer l in
    let kept = by.few in
    let few = goes.few in
    record {
      planned = subst ArePlanned (sym same) goes.planned;
      done = subst D (sym told.answers) by.done;
      aborted = ap (λ (a : Answered). a.aborted) told.answers ∙ look_aborted tag answer l ∙ goes.aborted;
      placed = placed_now n by.taken;
      counted = goes.counted ∙ sym (ap length same);
      within = goes.within;
      work = subst IsWork (sym (ap (λ v. v.items) runs.asks.plan.work)) goes.work;
      most = by.most ∙ goes.most;
      next = λ none. runs.asks.begins ∙ goes.next none;
      taken = by.taken;
      few = omega (arith, kept, few);
    }
