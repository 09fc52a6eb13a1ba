-- Aborts of open attempts' jobs, and the look behind them.
use Rattle.std.proofs.Common.{◌≡◌, ◌≤◌, ◌<◌, ◌∙◌, ◌+◌, ◌++◌, ℕ, List, [], ◌∷◌, true, false, Some, add-one, ap, sym, refl, length, map}
use Rattle.std.proofs.Common.{reverse, take}
use Rattle.std.proofs.Common.{slice_index_or}
use Rattle.std.proofs.Math.Seq.{take-suc}
use Rattle.std.proofs.lemmas.List.{reverse-append, reverse-reverse, take_all}
use Rattle.lcm_events.specs.declared.attempts.Tag.{Tag}
use Rattle.lcm_events.specs.declared.events.Event.{Event}
use Rattle.lcm_model.specs.Attempts.{open_of}
use Rattle.occ_table.proofs.JudgeLaws.{found_row}
use Rattle.occ_table.specs.Rows.{occurrence, pending_of}
use Rattle.occ_table.specs.declared.pending.Pending.{Pending}
use Rattle.occ_table.specs.declared.rows.OccRow.{OccRow}
use Rattle.site_traits.specs.Advancing.{advances-refl, advances-then}
use Rattle.site_traits.specs.Counts.{OnlyDiskFails, SiteCounts, abort_counts, look_counts, one_more}
use Rattle.site_traits.specs.Jobs.{Advances, abort_answered, look_answered}
use Rattle.site_traits.specs.Moments.{passes-refl, passes-then}
use Rattle.site_traits.specs.Site.{Aborts, JobStep, Looks, OnJobs, SiteState}
use Rattle.site_traits.specs.declared.jobs.AbortAnswer.{AbortAnswer}
use Rattle.site_traits.specs.declared.jobs.AbortAnswer.TheVariants as abort
use Rattle.site_traits.specs.declared.jobs.LookAnswer.{LookAnswer}
use Rattle.site_traits.specs.declared.jobs.LookAnswer.TheVariants as look
use Rattle.occ_work.specs.Around.{DiskFails, aborts_counted}
use Rattle.occ_work.specs.Attempting.{AbortsEach, Inquires, shows}
use Rattle.occ_work.specs.Deeds.{look_exchange}
use Rattle.occ_work.proofs.BeginLemmas.{jobs_on}
use Rattle.occ_work.proofs.JobLemmas.{looks_before}

-- two calls in which running jobs may end are one
on_twice : (a b c : SiteState) → OnJobs Advances a b → OnJobs Advances b c → OnJobs Advances a c
on_twice a b c one two = record {
  passes = passes-then (JobStep Advances) (JobStep Advances) (JobStep Advances) a b c one.passes two.passes
      (λ p. record { image = refl; jobs = advances-refl p.jobs }) (λ p. record { image = refl; jobs = advances-refl p.jobs })
      (λ p q r to on. record { image = on.image ∙ to.image; jobs = advances-then p.jobs q.jobs r.jobs to.jobs on.jobs });
  same = two.same ∙ one.same;
}

-- none were aborted
pub aborts_none : (tells : Type 0) (a : SiteState) (i : SiteCounts) → AbortsEach tells [] (shows a i) (shows a i)
aborts_none tells a i = record {
  calls = λ told. record {
    passes = passes-refl (JobStep Advances) a (λ p. record { image = refl; jobs = advances-refl p.jobs });
    same = refl;
  };
  answers = λ told. refl;
  counts = refl;
}

-- one more was aborted
pub aborts_more : (tells : Type 0) (each : List (Tag × AbortAnswer)) (t : Tag) (answer : AbortAnswer) (a b c : SiteState)
    (i j k : SiteCounts)
    → AbortsEach tells each (shows a i) (shows b j) → (tells → Aborts t answer b c) → k ≡ abort_counts answer j
    → AbortsEach tells ((t, answer) ∷ each) (shows a i) (shows c k)
aborts_more tells each t answer a b c i j k before aborts called = record {
  calls = λ told. on_twice a b c (before.calls told) (aborts told).on_jobs;
  answers = λ told. (aborts told).answers ∙ ap (abort_answered t answer) (before.answers told);
  counts = called ∙ ap (abort_counts answer) before.counts;
}

-- the look alone
pub looks_alone : (tells : Type 0) (each : List (Tag × AbortAnswer)) (t : Tag) (answer : LookAnswer) (a b : SiteState) (i j : SiteCounts)
    → (tells → Looks t answer a b) → j ≡ look_counts answer i
    → Inquires tells (look_exchange false each t answer) (shows a i) (shows b j)
looks_alone tells each t answer a b i j looks called = record {
  calls = λ told. (looks told).on_jobs;
  jobs = λ told. (jobs_on Advances a b (looks told).on_jobs, (looks told).looks);
  answers = λ told. (looks told).answers;
  counts = called;
}

-- the look behind aborts
pub looks_behind : (tells : Type 0) (each : List (Tag × AbortAnswer)) (t : Tag) (answer : LookAnswer) (a b c : SiteState)
    (i j k : SiteCounts)
    → AbortsEach tells each (shows a i) (shows b j) → (tells → Looks t answer b c) → k ≡ look_counts answer j
    → Inquires tells (look_exchange true each t answer) (shows a i) (shows c k)
looks_behind tells each t answer a b c i j k before looks called = record {
  calls = λ told. on_twice a b c (before.calls told) (looks told).on_jobs;
  jobs = λ told. (
    jobs_on Advances a c (on_twice a b c (before.calls told) (looks told).on_jobs),
    looks_before t answer a.jobs b.jobs c.jobs (jobs_on Advances a b (before.calls told)) (looks told).looks,
  );
  answers = λ told. (looks told).answers ∙ ap (look_answered t answer) (before.answers told);
  counts = called ∙ ap (look_counts answer) before.counts;
}

-- an abort and a look leave the count of disk faults
abort_disk : (answer : AbortAnswer) (c : SiteCounts) → (abort_counts answer c).disk ≡ c.disk
abort_disk abort.Asked c = refl
abort_disk abort.Failed c = refl

pub look_disk : (answer : LookAnswer) (c : SiteCounts) → (look_counts answer c).disk ≡ c.disk
look_disk look.Absent c = refl
look_disk look.Running c = refl
look_disk (look.Done name) c = refl
look_disk (look.Broken code) c = refl
look_disk look.Aborted c = refl
look_disk look.Failed c = refl

-- and so do all aborts
aborts_disk : (each : List (Tag × AbortAnswer)) (c : SiteCounts) → (aborts_counted each c).disk ≡ c.disk
aborts_disk [] c = refl
aborts_disk ((t, answer) ∷ earlier) c = abort_disk answer (aborts_counted earlier c) ∙ aborts_disk earlier c

-- the look behind aborts leaves it too
pub aborts_then_look : (tells : Type 0) (each : List (Tag × AbortAnswer)) (answer : LookAnswer) (a b : SiteState) (i j k : SiteCounts)
    → AbortsEach tells each (shows a i) (shows b j) → k ≡ look_counts answer j → k.disk ≡ i.disk
aborts_then_look tells each answer a b i j k before called =
    ap (λ (c : SiteCounts). c.disk) called ∙ (look_disk answer j ∙ (ap (λ (c : SiteCounts). c.disk) before.counts ∙ aborts_disk each i))

-- behind calls that leave it, it is the recording alone that may count a disk fault
pub disk_behind : (failed : Type 0) (a b c : SiteCounts) → b.disk ≡ a.disk → OnlyDiskFails failed b c → DiskFails failed a c
disk_behind failed a b c same only = record { rose = λ is. only.rose is ∙ ap one_more same; stays = λ never. only.stays never ∙ same }

-- the row's open attempts are those of the history, the first that began first
pub row_opens : (H : List Event) (o : ℕ) (row : OccRow) → occurrence H o ≡ Some row → map (λ p. p.tag) (reverse row.pending) ≡ open_of H o
row_opens H o row found =
    let mine = found_row H o row found in
    ap (λ (x : OccRow). map (λ p. p.tag) (reverse x.pending)) (sym mine.3)
    ∙ (ap (map (λ (p : Pending). p.tag)) (reverse-reverse (map (pending_of H) (open_of H mine.0.occ)))
    ∙ (tags (open_of H mine.0.occ) ∙ ap (open_of H) mine.2)) where
      tags : (ts : List Tag) → map (λ p. p.tag) (map (pending_of H) ts) ≡ ts
      tags [] = refl
      tags (t ∷ ts) = ap (λ us. t ∷ us) (tags ts)

-- the tags of one more, the latest first
pub tags_more : (ps : List Pending) (n : ℕ) (d : Pending) (ts : List Tag) → n < length ps
    → ts ≡ map (λ q. q.tag) (reverse (take n ps)) → (slice_index_or ps n d).tag ∷ ts ≡ map (λ q. q.tag) (reverse (take (n + 1) ps))
tags_more ps n d ts less before =
    let more : take (n + 1) ps ≡ take n ps ++ slice_index_or ps n d ∷ [] = ap (λ (k : ℕ). take k ps) (add-one n) ∙ take-suc ps n d less in
    ap (λ (us : List Tag). (slice_index_or ps n d).tag ∷ us) before
    ∙ sym (ap (λ (qs : List Pending). map (λ q. q.tag) (reverse qs)) more
    ∙ ap (map (λ (q : Pending). q.tag)) (reverse-append (take n ps) (slice_index_or ps n d ∷ [])))

-- and those of all
pub tags_all : (ps : List Pending) (n : ℕ) (ts : List Tag) → length ps ≤ n → ts ≡ map (λ q. q.tag) (reverse (take n ps))
    → ts ≡ map (λ q. q.tag) (reverse ps)
tags_all ps n ts all is = is ∙ ap (λ (qs : List Pending). map (λ q. q.tag) (reverse qs)) (take_all n ps all)
