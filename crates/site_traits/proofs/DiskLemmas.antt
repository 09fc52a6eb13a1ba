-- One call more on a site in memory: what it then tells.
use Rattle.std.proofs.Common.{◌≡◌, ◌⊎◌, ◌∙◌, sym, ap, subst, inl, inr, ⊎_elim, ℕ, ◌+◌, ◌≤◌, ◌<◌, min, List, [], ◌∷◌, ◌++◌, length, take}
use Rattle.std.proofs.Common.{map, reverse, Result, refl, arith, Bool, if◌then◌else◌, replicate, All, Err}
use Rattle.std.specs.Prelude.{leb, true, false}
use Rattle.std.proofs.lemmas.Bool.Decides.{leb_tells}
use Rattle.std.proofs.lemmas.List.{take-append-le, take_all, length_push, map_push, take-map, length-map, length-replicate, reverse-append}
use Rattle.std.proofs.lemmas.List.{reverse-reverse}
use Rattle.std.proofs.lemmas.List.Sums.{fold-append}
use Rattle.lcm_events.specs.declared.acts.Act.{Act}
use Rattle.lcm_events.specs.declared.attempts.Tag.{Tag}
use Rattle.site_traits.specs.declared.past.SiteCall.{SiteCall}
use Rattle.site_traits.specs.declared.jobs.Phase.TheVariants as phase
use Rattle.site_traits.specs.declared.jobs.AbortAnswer.TheVariants as abort
use Rattle.site_traits.specs.declared.mem_jobs.Arrival.{Arrival}
use Rattle.site_traits.specs.declared.mem_jobs.Arrival.TheVariants as came
use Rattle.site_traits.specs.declared.mem_jobs.JobPlan.{JobPlan}
use Rattle.site_traits.specs.declared.mem_jobs.KeptJob.{KeptJob}
use Rattle.site_traits.specs.Site.{Pair, SiteState, pair_of, Passes, FileStep, OnFile, JobStep, OnJobs, Same, Torn, Cut, Reads, Writes}
use Rattle.site_traits.specs.Site.{Cuts, Syncs, Begins, Looks, Aborts}
use Rattle.site_traits.specs.Disk.{Change, wrote, cut, synced, kept, change_of, Disk, overlaid, after, Reaches, fresh, disk, LeftSince}
use Rattle.site_traits.specs.Disk.{told, told_by, seen_reached, overlaid_torn, put_over, chosen, chosen_all, stopped_image, Takes}
use Rattle.site_traits.specs.declared.mem_file.Choice.{Choice}
use Rattle.site_traits.specs.declared.mem_file.Choice.TheVariants as choice
use Rattle.site_traits.specs.Jobs.{Job, Advances, Arrives, MayArrive, BeginsAs, LooksAs, Answered, unanswered, begin_answered}
use Rattle.site_traits.specs.Jobs.{look_answered, abort_answered}
use Rattle.site_traits.specs.KeptJobs.{jobs_of, jobs_at, IsEarly, begin_of, arrives, arrived, look_of, found_of, latest_of, latest_changed}
use Rattle.site_traits.specs.KeptJobs.{looked, aborted_at, is_of, first_changed}
use Rattle.site_traits.specs.Log.{Recorded, with_call}
use Rattle.site_traits.specs.Past.{answered_by, answers_of}
use Rattle.site_traits.specs.Advancing.{advances-refl}
use Rattle.site_traits.proofs.KeptLemmas.{GoesTo, AllGo, all_same, all_changed, all_reversed, jobs_advance, jobs_before, jobs_there}
use Rattle.site_traits.proofs.KeptLemmas.{jobs_later, looks_as, go_looked, go_aborted}
use Rattle.site_traits.specs.Moments.{on_file-refl, reads-refl}
use Rattle.site_traits.proofs.Writes.{torn-refl, on_ok_anyway}

-- the disk after one call more
pub disk_push : (first : List ℕ) (cs : List Change) (c : Change) → disk first (cs ++ c ∷ []) ≡ after (disk first cs) c
disk_push first cs c = fold-append after (fresh first) cs (c ∷ [])

-- what a stop at the last moment leaves
Reached : Disk → List ℕ → Type 0
Reached d i = Reaches d.base d.pending i

-- a moment past the calls but for the last is the last
is_last : (cs : List Change) (c : Change) (k : ℕ) → length cs < k → k ≤ length (cs ++ c ∷ []) → k ≡ length cs + 1
is_last cs c k over le = let l = length_push cs c in omega arith

at_last : (first : List ℕ) (cs : List Change) (c : Change) (p : Pair) (k : ℕ) → length cs < k → k ≤ length (cs ++ c ∷ [])
    → Reached (disk first (take k (cs ++ c ∷ []))) p.image → Reached (after (disk first cs) c) p.image
at_last first cs c p k over le reached =
    let P : List Change → Type 0 = λ v. Reached (disk first v) p.image in
    let Q : Disk → Type 0 = λ v. Reached v p.image in
    subst Q (disk_push first cs c) (subst P (take_all k (cs ++ c ∷ []) (let l = length_push cs c in omega arith)) reached)

-- no moment up to the last one before the call sees a change of the jobs
abbrev pub KeepsMoments : ℕ → List KeptJob → List KeptJob → Type 0
KeepsMoments now js ks = (k : ℕ) → k ≤ now → jobs_at k ks ≡ jobs_at k js

-- what a stop at an earlier moment leaves
earlier_left : (first : List ℕ) (cs : List Change) (c : Change) (js ks : List KeptJob) (t : ℕ) (p : Pair) (k : ℕ)
    → KeepsMoments (length cs) js ks → t ≤ k → k ≤ length cs
    → Reached (disk first (take k (cs ++ c ∷ []))) p.image → p.jobs ≡ jobs_at k ks → LeftSince first cs js t p
unfolding Reached
earlier_left first cs c js ks t p k keeps since le reached jobs = record {
  jobs_are = jobs ∙ keeps k le;
  moment = k;
  since = since;
  has_been = le;
  reached = (let P : List Change → Type 0 = λ v. Reaches (disk first v).base (disk first v).pending p.image in
      subst P (take-append-le k cs (c ∷ []) le) reached);
}

-- what a stop at the last moment leaves: a file that is reached, and the jobs of that moment
record IsLeft (first : List ℕ) (cs : List Change) (c : Change) (ks : List KeptJob) (p : Pair) : Type 0 where
  image : Reached (after (disk first cs) c) p.image
  jobs : p.jobs ≡ jobs_at (length cs + 1) ks

-- a stop since a moment leaves what it left before, or what a stop at the last moment leaves
split_left : (first : List ℕ) (cs : List Change) (c : Change) (js ks : List KeptJob) (t : ℕ) (p : Pair) → KeepsMoments (length cs) js ks
    → LeftSince first (cs ++ c ∷ []) ks t p
    → LeftSince first cs js t p ⊎ IsLeft first cs c ks p
unfolding Reached
split_left first cs c js ks t p keeps left =
    ⊎_elim
    (λ (le : (leb left.moment (length cs) ≡ true) × (left.moment ≤ length cs)).
    inl (earlier_left first cs c js ks t p left.moment keeps left.since le.1 left.reached left.jobs_are))
    (λ (over : (leb left.moment (length cs) ≡ false) × (length cs < left.moment)).
    inr (record {
      image = at_last first cs c p left.moment over.1 left.has_been left.reached;
      jobs = left.jobs_are ∙ ap (λ (k : ℕ). jobs_at k ks) (is_last cs c left.moment over.1 left.has_been);
    }))
    (leb_tells left.moment (length cs))

-- what was left may be left still
keeps_left : (first : List ℕ) (cs : List Change) (c : Change) (js ks : List KeptJob) (t : ℕ) (p : Pair) → KeepsMoments (length cs) js ks
    → LeftSince first cs js t p → LeftSince first (cs ++ c ∷ []) ks t p
keeps_left first cs c js ks t p keeps left = record {
  moment = left.moment;
  since = left.since;
  has_been = (let h = left.has_been in let l = length_push cs c in omega arith);
  reached = (let P : List Change → Type 0 = λ v. Reaches (disk first v).base (disk first v).pending p.image in
      subst P (sym (take-append-le left.moment cs (c ∷ []) left.has_been)) left.reached);
  jobs_are = left.jobs_are ∙ sym (keeps left.moment left.has_been);
}

-- what a stop now may leave is what a stop at the last moment leaves
left_last : (first : List ℕ) (cs : List Change) (js : List KeptJob) (p : Pair)
    → Reaches (disk first cs).base (disk first cs).pending p.image → p.jobs ≡ jobs_at (length cs) js → LeftSince first cs js (length cs) p
left_last first cs js p reached jobs = record {
  jobs_are = jobs;
  moment = length cs;
  since = omega arith;
  has_been = omega arith;
  reached = (let P : List Change → Type 0 = λ v. Reaches (disk first v).base (disk first v).pending p.image in
      subst P (sym (take_all (length cs) cs (omega arith))) reached);
}

last_left : (first : List ℕ) (cs : List Change) (js : List KeptJob) (p : Pair) → LeftSince first cs js (length cs) p
    → Reaches (disk first cs).base (disk first cs).pending p.image
last_left first cs js p left =
    let P : List Change → Type 0 = λ v. Reaches (disk first v).base (disk first v).pending p.image in
    subst P (take_all left.moment cs left.since) left.reached

-- what was left at the last moment, by the law
newly_left : (first : List ℕ) (cs : List Change) (c : Change) (ks : List KeptJob) (p : Pair) → IsLeft first cs c ks p
    → LeftSince first (cs ++ c ∷ []) ks (length cs) p
unfolding Reached
newly_left first cs c ks p left =
    let l = length_push cs c in
    record {
      jobs_are = left.jobs ∙ ap (λ (k : ℕ). jobs_at k ks) (sym l);
      moment = length (cs ++ c ∷ []);
      since = omega (arith, l);
      has_been = omega arith;
      reached = (let P : List Change → Type 0 = λ v. Reached (disk first v) p.image in let Q : Disk → Type 0 = λ v. Reached v p.image in
          subst P (sym (take_all (length (cs ++ c ∷ [])) (cs ++ c ∷ []) (omega arith))) (subst Q (sym (disk_push first cs c)) left.image));
    }

-- the law on moments, where what the call leaves comes by this step
passes_push : (step : Pair → Pair → Type 0) (first : List ℕ) (cs : List Change) (c : Change) (js ks : List KeptJob) (ls ms : Answered)
    → KeepsMoments (length cs) js ks
    → ((p : Pair) → step p p)
    → ((p : Pair) → IsLeft first cs c ks p → (i : List ℕ) × Reached (disk first cs) i × step (pair_of i (jobs_at (length cs) js)) p)
    → Passes step (told first cs js ls) (told first (cs ++ c ∷ []) ks ms)
unfolding Reached
passes_push step first cs c js ks ls ms keeps stays leads = record {
  later = (let l = length_push cs c in omega arith);
  during = λ p left. ⊎_elim
      (λ (old : LeftSince first cs js (length cs) p). (p, old, stays p))
      (λ (now : IsLeft first cs c ks p).
      let from = leads p now in
      let before : Pair = pair_of from.0 (jobs_at (length cs) js) in
      (before, left_last first cs js before from.1 refl, from.2))
      (split_left first cs c js ks (length cs) p keeps left);
  nothing_else = λ t p le left. ⊎_elim
      (λ (old : LeftSince first cs js t p). inl old)
      (λ (now : IsLeft first cs c ks p). inr (newly_left first cs c ks p now))
      (split_left first cs c js ks t p keeps left);
  keeps = λ t p le left. keeps_left first cs c js ks t p keeps left;
}

-- jobs to which nothing is done are the same at the next moment
pub jobs_stay : (now : ℕ) (js : List KeptJob) → All (IsEarly now) js → Advances (jobs_at now js) (jobs_at (now + 1) js)
jobs_stay now js early = jobs_advance now (reverse js) (reverse js) (all_same now (reverse js) (all_reversed now js early))

-- a call on the file
file_push : (step : List ℕ → List ℕ → Type 0) (first : List ℕ) (cs : List Change) (c : Change) (js : List KeptJob) (ls : Answered)
    → All (IsEarly (length cs)) js → ((i : List ℕ) → step i i)
    → ((i : List ℕ) → Reached (after (disk first cs) c) i → (j : List ℕ) × Reached (disk first cs) j × step j i)
    → OnFile step (told first cs js ls) (told first (cs ++ c ∷ []) js ls)
unfolding Reached
file_push step first cs c js ls early stays leads = record {
  passes = passes_push (FileStep step) first cs c js js ls ls (λ k le. refl)
      (λ p. record { image = stays p.image; jobs = advances-refl p.jobs })
      (λ p now.
      let from = leads p.image now.image in
      let P : List Job → Type 0 = λ v. Advances (jobs_at (length cs) js) v in
      (from.0, from.1, record { image = from.2; jobs = subst P (sym now.jobs) (jobs_stay (length cs) js early) }));
  answers = refl;
}

-- what a read gives after one call more
seen_push : (first : List ℕ) (cs : List Change) (c : Change) → (disk first (cs ++ c ∷ [])).seen ≡ (after (disk first cs) c).seen
seen_push first cs c = ap (λ (v : Disk). v.seen) (disk_push first cs c)

-- a call that changes nothing
pub reads_push : (first : List ℕ) (cs : List Change) (js : List KeptJob) (ls : Answered) → All (IsEarly (length cs)) js
    → Reads (told first cs js ls) (told first (cs ++ kept ∷ []) js ls)
unfolding Reached
reads_push first cs js ls early = record {
  on_file = file_push Same first cs kept js ls early (λ i. refl) (λ i reached. (i, reached, refl));
  same = seen_push first cs kept;
  settled = λ settled. record {
    image = λ p left.
        let P : Disk → Type 0 = λ v. Reached v p.image in
        let now : Reached (disk first cs) p.image = subst P (disk_push first cs kept) (last_left first (cs ++ kept ∷ []) js p left) in
        let was : Pair = pair_of p.image (jobs_at (length cs) js) in
        settled.image was (left_last first cs js was now refl) ∙ sym (seen_push first cs kept);
  };
}

abbrev overlaid_at : List ℕ → List ℕ → ℕ → List ℕ
overlaid_at old bytes at = overlaid old at bytes

-- a write at a place within the file
pub writes_push : {T E : Type 0} (r : Result T E) (first : List ℕ) (cs : List Change) (js : List KeptJob) (ls : Answered) (at : ℕ)
    (bytes : List ℕ) → All (IsEarly (length cs)) js
    → at ≤ length (disk first cs).seen → Writes at bytes r (told first cs js ls) (told first (cs ++ wrote at bytes ∷ []) js ls)
unfolding Reached
writes_push r first cs js ls at bytes early le =
    let place : min at (length (disk first cs).seen) ≡ at = omega arith in
    record {
      on_file = file_push (Torn at (length bytes)) first cs (wrote at bytes) js ls early (torn-refl at (length bytes))
          (λ i reached. let P : ℕ → Type 0 = λ v. Torn v (length bytes) reached.0 i in (reached.0, reached.1, subst P place reached.2));
      holds = on_ok_anyway r (seen_push first cs (wrote at bytes) ∙ ap (overlaid_at (disk first cs).seen bytes) place);
    }

-- a cut
pub cuts_push : {T E : Type 0} (r : Result T E) (first : List ℕ) (cs : List Change) (js : List KeptJob) (ls : Answered) (to : ℕ)
    → All (IsEarly (length cs)) js
    → Cuts to r (told first cs js ls) (told first (cs ++ cut to ∷ []) js ls)
unfolding Reached
cuts_push r first cs js ls to early = record {
  on_file = file_push (Cut to) first cs (cut to) js ls early (λ i. inl refl) (λ i reached. (reached.0, reached.1, reached.2));
  cut = on_ok_anyway r (seen_push first cs (cut to));
}

-- a sync
pub syncs_push : {T E : Type 0} (r : Result T E) (first : List ℕ) (cs : List Change) (js : List KeptJob) (ls : Answered)
    → All (IsEarly (length cs)) js
    → Syncs r (told first cs js ls) (told first (cs ++ synced ∷ []) js ls)
unfolding Reached
syncs_push r first cs js ls early = record {
  on_file = file_push Same first cs synced js ls early (λ i. refl) (λ i reached. ((disk first cs).seen, seen_reached first cs, reached));
  same = seen_push first cs synced;
  settled = on_ok_anyway r (record {
    image = λ p left.
        let P : Disk → Type 0 = λ v. Reached v p.image in
        subst P (disk_push first cs synced) (last_left first (cs ++ synced ∷ []) js p left) ∙ sym (seen_push first cs synced);
  });
}

-- a call on the jobs: the file stays, and the jobs take this step
jobs_push : (step : List Job → List Job → Type 0) (first : List ℕ) (cs : List Change) (js ks : List KeptJob) (ls ms : Answered)
    → ((xs : List Job) → step xs xs)
    → KeepsMoments (length cs) js ks → step (jobs_at (length cs) js) (jobs_at (length cs + 1) ks)
    → OnJobs step (told first cs js ls) (told first (cs ++ kept ∷ []) ks ms)
unfolding Reached
jobs_push step first cs js ks ls ms stays keeps steps = record {
  passes = passes_push (JobStep step) first cs kept js ks ls ms keeps
      (λ p. record { image = refl; jobs = stays p.jobs })
      (λ p now.
      let P : List Job → Type 0 = λ v. step (jobs_at (length cs) js) v in
      (p.image, now.image, record { image = refl; jobs = subst P (sym now.jobs) steps }));
  same = seen_push first cs kept;
}

-- the jobs of a tag of which the latest was changed so
changed_steps : (now : ℕ) (tag : Tag) (change : KeptJob → KeptJob) (js : List KeptJob)
    → ((w : KeptJob) → IsEarly now w → GoesTo now w (change w)) → All (IsEarly now) js
    → AllGo now (reverse js) (reverse (latest_changed tag change js))
changed_steps now tag change js goes early =
    let P : List KeptJob → Type 0 = λ v. AllGo now (reverse js) v in
    subst P (sym (reverse-reverse (first_changed (is_of tag) change (reverse js))))
    (all_changed now (is_of tag) change goes (reverse js) (all_reversed now js early))

-- a look that is on record
pub look_push : (tag : Tag) (first : List ℕ) (cs : List Change) (js : List KeptJob) (ls : Answered) → All (IsEarly (length cs)) js
    → Looks tag (look_of (found_of (latest_of tag js))) (told first cs js ls)
    (told first (cs ++ kept ∷ []) (latest_changed tag (looked (length cs + 1)) js)
    (look_answered tag (look_of (found_of (latest_of tag js))) ls))
look_push tag first cs js ls early =
    let now = length cs in
    let change = looked (now + 1) in
    let ks = latest_changed tag change js in
    let go : AllGo now (reverse js) (reverse ks) = changed_steps now tag change js (λ w first. go_looked now w first) early in
    let back : reverse ks ≡ first_changed (is_of tag) change (reverse js) =
    reverse-reverse (first_changed (is_of tag) change (reverse js)) in
    let P : ℕ → Type 0 = λ k. LooksAs tag (look_of (found_of (latest_of tag js))) (jobs_at now js) (jobs_at k ks) in
    let Q : List KeptJob → Type 0 = λ v. LooksAs tag (look_of (found_of (latest_of tag js))) (jobs_at now js) (jobs_of (now + 1) v) in
    record {
      on_jobs = jobs_push Advances first cs js ks ls (look_answered tag (look_of (found_of (latest_of tag js))) ls) (λ xs. advances-refl xs)
          (λ k le. jobs_before now k (reverse js) (reverse ks) le go)
          (jobs_advance now (reverse js) (reverse ks) go);
      looks = subst P (sym (length_push cs kept)) (subst Q (sym back) (looks_as tag now (reverse js) (all_reversed now js early)));
      answers = refl;
    }

-- an abort that is on record
pub abort_push : (tag : Tag) (first : List ℕ) (cs : List Change) (js : List KeptJob) (ls : Answered) → All (IsEarly (length cs)) js
    → Aborts tag abort.Asked (told first cs js ls) (told first (cs ++ kept ∷ []) (latest_changed tag (aborted_at (length cs + 1)) js)
    (abort_answered tag abort.Asked ls))
abort_push tag first cs js ls early =
    let now = length cs in
    let change = aborted_at (now + 1) in
    let ks = latest_changed tag change js in
    let go : AllGo now (reverse js) (reverse ks) = changed_steps now tag change js (λ w first. go_aborted now w first) early in
    record {
      on_jobs = jobs_push Advances first cs js ks ls (abort_answered tag abort.Asked ls) (λ xs. advances-refl xs)
          (λ k le. jobs_before now k (reverse js) (reverse ks) le go)
          (jobs_advance now (reverse js) (reverse ks) go);
      answers = refl;
    }

-- a job that arrives at the next moment: earlier ones don't see it, and there it runs
new_before : (tag : Tag) (act : Act) (plan : JobPlan) (now : ℕ) (js : List KeptJob)
    → KeepsMoments now js (js ++ arrived tag act plan (now + 1) js ∷ [])
new_before tag act plan now js = λ k le.
    ap (jobs_of k) (reverse-append js (arrived tag act plan (now + 1) js ∷ []))
    ∙ jobs_later k (arrived tag act plan (now + 1) js) (reverse js) (omega (arith, le))

new_arrives : (tag : Tag) (act : Act) (plan : JobPlan) (now : ℕ) (js : List KeptJob) → All (IsEarly now) js
    → Arrives tag act phase.Running (jobs_at now js) (jobs_at (now + 1) (js ++ arrived tag act plan (now + 1) js ∷ []))
new_arrives tag act plan now js early = record {
  earlier = jobs_at (now + 1) js;
  advances = jobs_stay now js early;
  is = ap (jobs_of (now + 1)) (reverse-append js (arrived tag act plan (now + 1) js ∷ []))
      ∙ jobs_there (now + 1) (arrived tag act plan (now + 1) js) (reverse js) (omega arith);
}

-- what a begin leaves of the jobs, by what comes of it
abbrev pub jobs_with : Arrival → Tag → Act → JobPlan → ℕ → List KeptJob → List KeptJob
jobs_with came tag act plan now js = if arrives came then js ++ arrived tag act plan now js ∷ [] else js

begins_as : (came : Arrival) (tag : Tag) (act : Act) (plan : JobPlan) (now : ℕ) (js : List KeptJob) → All (IsEarly now) js
    → BeginsAs tag act (begin_of came) (jobs_at now js) (jobs_at (now + 1) (jobs_with came tag act plan (now + 1) js))
begins_as came.Taken tag act plan now js early = (phase.Running, new_arrives tag act plan now js early)
begins_as came.FailedArrived tag act plan now js early = inr (phase.Running, new_arrives tag act plan now js early)
begins_as came.FailedLost tag act plan now js early = inl (jobs_stay now js early)
begins_as (came.Refused code) tag act plan now js early = inl (jobs_stay now js early)

may_arrive : (came : Arrival) (tag : Tag) (act : Act) (plan : JobPlan) (now : ℕ) (js : List KeptJob) → All (IsEarly now) js
    → MayArrive tag act (jobs_at now js) (jobs_at (now + 1) (jobs_with came tag act plan (now + 1) js))
may_arrive came.Taken tag act plan now js early = inr (phase.Running, new_arrives tag act plan now js early)
may_arrive came.FailedArrived tag act plan now js early = inr (phase.Running, new_arrives tag act plan now js early)
may_arrive came.FailedLost tag act plan now js early = inl (jobs_stay now js early)
may_arrive (came.Refused code) tag act plan now js early = inl (jobs_stay now js early)

begun_before : (came : Arrival) (tag : Tag) (act : Act) (plan : JobPlan) (now : ℕ) (js : List KeptJob)
    → KeepsMoments now js (jobs_with came tag act plan (now + 1) js)
begun_before came.Taken tag act plan now js = new_before tag act plan now js
begun_before came.FailedArrived tag act plan now js = new_before tag act plan now js
begun_before came.FailedLost tag act plan now js = λ k le. refl
begun_before (came.Refused code) tag act plan now js = λ k le. refl

-- a begin that is on record
pub begin_push : (came : Arrival) (tag : Tag) (act : Act) (plan : JobPlan) (first : List ℕ) (cs : List Change) (js : List KeptJob)
    (ls : Answered) → All (IsEarly (length cs)) js
    → Begins tag act (begin_of came) (told first cs js ls) (told first (cs ++ kept ∷ []) (jobs_with came tag act plan (length cs + 1) js)
    (begin_answered (begin_of came) ls))
begin_push came tag act plan first cs js ls early =
    let now = length cs in
    let ks = jobs_with came tag act plan (now + 1) js in
    let P : ℕ → Type 0 = λ k. BeginsAs tag act (begin_of came) (jobs_at now js) (jobs_at k ks) in
    record {
      on_jobs = jobs_push (MayArrive tag act) first cs js ks ls (begin_answered (begin_of came) ls) (λ xs. inl (advances-refl xs))
          (begun_before came tag act plan now js)
          (may_arrive came tag act plan now js early);
      begins = subst P (sym (length_push cs kept)) (begins_as came tag act plan now js early);
      answers = refl;
    }

-- the changes with one call more on record
pub changes_push : (log new : List (SiteCall × List ℕ)) (e : SiteCall × List ℕ) → new ≡ log ++ e ∷ []
    → map change_of new ≡ map change_of log ++ change_of e ∷ []
changes_push log new e is = ap (map change_of) is ∙ map_push change_of log e

-- and the answers
answers_push : (log new : List (SiteCall × List ℕ)) (e : SiteCall × List ℕ) → new ≡ log ++ e ∷ []
    → answers_of new ≡ answered_by e.0 (answers_of log)
answers_push log new e is = ap answers_of is ∙ fold-append (λ l (e : SiteCall × List ℕ). answered_by e.0 l) unanswered log (e ∷ [])

-- what holds of the site with one call more as it is told holds of it as the calls stand on record
pub on_record : (P : SiteState → Type 0) (first : List ℕ) (log new : List (SiteCall × List ℕ)) (e : SiteCall × List ℕ) (c : Change)
    (js ks : List KeptJob) (ls : Answered)
    → new ≡ log ++ e ∷ [] → change_of e ≡ c → answered_by e.0 (answers_of log) ≡ ls → ks ≡ js
    → P (told first (map change_of log ++ c ∷ []) js ls) → P (told_by first new ks)
on_record P first log new e c js ks ls is what answers same holds =
    let cs = map change_of log in
    let A : List Change → Type 0 = λ v. P (told first v js ls) in
    let B : Answered → Type 0 = λ v. P (told first (map change_of new) js v) in
    let C : List KeptJob → Type 0 = λ v. P (told first (map change_of new) v (answers_of new)) in
    subst C (sym same)
    (subst B (sym (answers_push log new e is ∙ answers))
    (subst A (sym (changes_push log new e is ∙ ap (λ v. cs ++ v ∷ []) what)) holds))

-- the jobs are early after as many changes as calls
pub early_calls : (log : List (SiteCall × List ℕ)) (js : List KeptJob) → All (IsEarly (length log)) js
    → All (IsEarly (length (map change_of log))) js
early_calls log js early = let P : ℕ → Type 0 = λ k. All (IsEarly k) js in subst P (sym (length-map log change_of)) early

-- the same, as the calls stand on record
pub reads_told : (first : List ℕ) (log new : List (SiteCall × List ℕ)) (js ks : List KeptJob) (e : SiteCall × List ℕ)
    → All (IsEarly (length log)) js → new ≡ log ++ e ∷ [] → ks ≡ js
    → change_of e ≡ kept → ((l : Answered) → answered_by e.0 l ≡ l) → Reads (told_by first log js) (told_by first new ks)
reads_told first log new js ks e early is same what silent =
    on_record (λ b. Reads (told_by first log js) b) first log new e kept js ks (answers_of log) is what (silent (answers_of log)) same
    (reads_push first (map change_of log) js (answers_of log) (early_calls log js early))

pub writes_told : {T E : Type 0} (r : Result T E) (first : List ℕ) (log new : List (SiteCall × List ℕ)) (js ks : List KeptJob)
    (e : SiteCall × List ℕ) (at : ℕ) (bytes : List ℕ)
    → All (IsEarly (length log)) js → new ≡ log ++ e ∷ [] → ks ≡ js → change_of e ≡ wrote at bytes
    → ((l : Answered) → answered_by e.0 l ≡ l)
    → at ≤ length (disk first (map change_of log)).seen → Writes at bytes r (told_by first log js) (told_by first new ks)
writes_told r first log new js ks e at bytes early is same what silent le =
    on_record (λ b. Writes at bytes r (told_by first log js) b) first log new e (wrote at bytes) js ks (answers_of log) is what
    (silent (answers_of log)) same
    (writes_push r first (map change_of log) js (answers_of log) at bytes (early_calls log js early) le)

pub cuts_told : {T E : Type 0} (r : Result T E) (first : List ℕ) (log new : List (SiteCall × List ℕ)) (js ks : List KeptJob)
    (e : SiteCall × List ℕ) (to : ℕ)
    → All (IsEarly (length log)) js → new ≡ log ++ e ∷ [] → ks ≡ js → change_of e ≡ cut to → ((l : Answered) → answered_by e.0 l ≡ l)
    → Cuts to r (told_by first log js) (told_by first new ks)
cuts_told r first log new js ks e to early is same what silent =
    on_record (λ b. Cuts to r (told_by first log js) b) first log new e (cut to) js ks (answers_of log) is what
    (silent (answers_of log)) same
    (cuts_push r first (map change_of log) js (answers_of log) to (early_calls log js early))

pub syncs_told : {T E : Type 0} (r : Result T E) (first : List ℕ) (log new : List (SiteCall × List ℕ)) (js ks : List KeptJob)
    (e : SiteCall × List ℕ)
    → All (IsEarly (length log)) js → new ≡ log ++ e ∷ [] → ks ≡ js → change_of e ≡ synced → ((l : Answered) → answered_by e.0 l ≡ l)
    → Syncs r (told_by first log js) (told_by first new ks)
syncs_told r first log new js ks e early is same what silent =
    on_record (λ b. Syncs r (told_by first log js) b) first log new e synced js ks (answers_of log) is what (silent (answers_of log)) same
    (syncs_push r first (map change_of log) js (answers_of log) (early_calls log js early))

-- what holds of the site holds of it where its calls on record and its jobs stay
pub unchanged : (P : SiteState → Type 0) (first : List ℕ) (log new : List (SiteCall × List ℕ)) (js ks : List KeptJob) → new ≡ log → ks ≡ js
    → P (told_by first log js) → P (told_by first new ks)
unchanged P first log new js ks is same holds =
    let A : List (SiteCall × List ℕ) → Type 0 = λ v. P (told_by first v js) in
    let B : List KeptJob → Type 0 = λ v. P (told_by first new v) in
    subst B (sym same) (subst A (sym is) holds)

-- a call on the file that failed and is not on record
pub reads_lost : (first : List ℕ) (log new : List (SiteCall × List ℕ)) (js ks : List KeptJob) → new ≡ log → ks ≡ js
    → Reads (told_by first log js) (told_by first new ks)
reads_lost first log new js ks is same = let a = told_by first log js in
    unchanged (λ b. Reads a b) first log new js ks is same (reads-refl a)

pub writes_lost : {T E : Type 0} (e : E) (first : List ℕ) (log new : List (SiteCall × List ℕ)) (js ks : List KeptJob) (at : ℕ)
    (bytes : List ℕ) → new ≡ log → ks ≡ js
    → Writes {T = T} at bytes (Err e) (told_by first log js) (told_by first new ks)
writes_lost {T} e first log new js ks at bytes is same =
    let a = told_by first log js in
    unchanged (λ b. Writes {T = T} at bytes (Err e) a b) first log new js ks is same
    (record { on_file = on_file-refl (Torn at (length bytes)) a (torn-refl at (length bytes)); holds = tt })

pub cuts_lost : {T E : Type 0} (e : E) (first : List ℕ) (log new : List (SiteCall × List ℕ)) (js ks : List KeptJob) (to : ℕ) → new ≡ log
    → ks ≡ js
    → Cuts {T = T} to (Err e) (told_by first log js) (told_by first new ks)
cuts_lost {T} e first log new js ks to is same =
    let a = told_by first log js in
    unchanged (λ b. Cuts {T = T} to (Err e) a b) first log new js ks is same
    (record { on_file = on_file-refl (Cut to) a (λ i. inl refl); cut = tt })

pub syncs_lost : {T E : Type 0} (e : E) (first : List ℕ) (log new : List (SiteCall × List ℕ)) (js ks : List KeptJob) → new ≡ log → ks ≡ js
    → Syncs {T = T} (Err e) (told_by first log js) (told_by first new ks)
syncs_lost {T} e first log new js ks is same =
    let a = told_by first log js in
    unchanged (λ b. Syncs {T = T} (Err e) a b) first log new js ks is same
    (record { on_file = on_file-refl Same a (λ i. refl); same = refl; settled = tt })

-- bytes over others are one of the ways in which a write may be cut short
put_torn : (old : List ℕ) (at : ℕ) (bytes : List ℕ) → Torn at (length bytes) old (put_over old at bytes)
put_torn old at bytes = ⊎_elim
    (λ (is : (leb at (length old) ≡ true) × (at ≤ length old)).
    let P : Bool → Type 0 = λ b. Torn at (length bytes) old (if b then overlaid old at bytes else old) in
    subst P (sym is.0) (overlaid_torn old at bytes is.1))
    (λ (not : (leb at (length old) ≡ false) × (length old < at)).
    let P : Bool → Type 0 = λ b. Torn at (length bytes) old (if b then overlaid old at bytes else old) in
    subst P (sym not.0) (torn-refl at (length bytes) old))
    (leb_tells at (length old))

-- what a choice makes of a change is one of the ways in which a stop may
chosen_takes : (ch : Choice) (c : Change) (old : List ℕ) → Takes c old (chosen ch c old)
chosen_takes choice.Old (wrote at bytes) old = torn-refl at (length bytes) old
chosen_takes choice.Old (cut to) old = inl refl
chosen_takes choice.Old synced old = refl
chosen_takes choice.Old kept old = refl
chosen_takes choice.New (wrote at bytes) old = put_torn old at bytes
chosen_takes choice.New (cut to) old = inr refl
chosen_takes choice.New synced old = refl
chosen_takes choice.New kept old = refl
chosen_takes choice.Torn (wrote at bytes) old =
    let P : ℕ → Type 0 = λ n. Torn at n old (put_over old at (replicate (length bytes) 165)) in
    subst P (length-replicate (length bytes) 165) (put_torn old at (replicate (length bytes) 165))
chosen_takes choice.Torn (cut to) old = inr refl
chosen_takes choice.Torn synced old = refl
chosen_takes choice.Torn kept old = refl

-- what a choice leaves may be left
chosen_reached : (ch : Choice) (base : List ℕ) (pending : List Change) → Reaches base pending (chosen_all ch base pending)
chosen_reached ch base [] = refl
chosen_reached ch base (c ∷ earlier) = (
  chosen_all ch base earlier,
  chosen_reached ch base earlier,
  chosen_takes ch c (chosen_all ch base earlier),
)

-- so a stop at that moment may leave it, with the jobs of that moment
pub stopped_allowed : (ch : Choice) (first image : List ℕ) (log : List (SiteCall × List ℕ)) (js : List KeptJob) (jobs : List Job) (k : ℕ)
    → k ≤ length log
    → image ≡ stopped_image ch first (map change_of (take k log)) → jobs ≡ jobs_at k js
    → LeftSince first (map change_of log) js k (pair_of image jobs)
stopped_allowed ch first image log js jobs k le is jobs_are =
    let cs = take k (map change_of log) in
    let same : map change_of (take k log) ≡ cs = sym (take-map change_of k log) in
    let d = disk first cs in
    record {
      moment = k;
      since = omega arith;
      has_been = omega (arith, length-map log change_of);
      reached = (let P : List ℕ → Type 0 = λ v. Reaches d.base d.pending v in
          subst P (sym (is ∙ ap (stopped_image ch first) same)) (chosen_reached ch d.base d.pending));
      jobs_are = jobs_are;
    }

-- what a read gives stays, whether a call that leaves it is put on record or not
pub seen_stays : (first file : List ℕ) (what : SiteCall) (came : Bool) (old new : Recorded SiteCall)
    → ((d : Disk) → (after d (change_of (what, []))).seen ≡ d.seen)
    → new ≡ (if came then with_call what [] old else old) → file ≡ (disk first (map change_of old.calls)).seen
    → file ≡ (disk first (map change_of new.calls)).seen
seen_stays first file what true old new same is was =
    was ∙ sym (ap (λ (r : Recorded SiteCall). (disk first (map change_of r.calls)).seen) is
    ∙ ap (λ (cs : List Change). (disk first cs).seen) (map_push change_of old.calls (what, []))
    ∙ seen_push first (map change_of old.calls) (change_of (what, [])) ∙ same (disk first (map change_of old.calls)))
seen_stays first file what false old new same is was = was ∙ sym
    (ap (λ (r : Recorded SiteCall). (disk first (map change_of r.calls)).seen) is)
