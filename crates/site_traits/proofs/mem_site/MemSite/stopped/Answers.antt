use Rattle.std.proofs.Common.{◌≡◌, ◌∙◌, ◌≤◌, ap, subst, sym, ℕ, List, [], map, take, length, All, Result, Ok, Err}
use Rattle.std.specs.Result.{IfOk}
use Rattle.std.specs.declared.alloc.AllocError.{AllocError}
use Rattle.site_traits.specs.declared.mem_site.MemSite.{MemSite}
use Rattle.site_traits.specs.declared.mem_file.Choice.{Choice}
use Rattle.site_traits.specs.declared.mem_jobs.KeptJob.{KeptJob}
use Rattle.site_traits.specs.declared.past.SiteCall.{SiteCall}
use Rattle.site_traits.specs.Book.{IsPlanned}
use Rattle.site_traits.specs.Disk.{change_of, disk, LeftSince, stopped_image}
use Rattle.site_traits.specs.Jobs.{Job}
use Rattle.site_traits.specs.KeptJobs.{IsEarly, jobs_at, kept_at}
use Rattle.site_traits.specs.Log.{Recorded}
use Rattle.site_traits.specs.MemSite.{IsFresh, image_of, state_of}
use Rattle.site_traits.specs.Site.{pair_of}
use Rattle.site_traits.proofs.DiskLemmas.{stopped_allowed}
use Rattle.site_traits.proofs.KeptLemmas.{jobs_stood, kept_early}
use Rattle.site_traits.proofs.mem_site.MemSite.stopped.Goals as goal

pub made-requires : goal.made-requires
made-requires c =
    let P : List KeptJob → Type 0 = λ v. All (IsEarly 0) v in
    record { early = subst P (sym c.in_ok-kept.ensures) (kept_early c.args.moment c.args.self.now.book.past.kept.items) }

-- what was made of this file and these jobs is fresh
fresh_of : (m : MemSite) (file left : List ℕ) (kept js : List KeptJob) (k room : ℕ) → left ≡ file → kept ≡ kept_at k js
    → m.first.items ≡ left → m.book.past.kept.items ≡ kept
    → IsPlanned [] room m.book → IsFresh m file (jobs_at k js)
fresh_of m file left kept js k room is stood first has planned = record {
  first = first ∙ is;
  log = ap (λ (r : Recorded SiteCall). r.calls) planned.log;
  jobs_are = ap (jobs_at 0) (has ∙ stood) ∙ jobs_stood k js;
}

fresh_made : (r : Result MemSite AllocError) (file left : List ℕ) (kept js : List KeptJob) (k room : ℕ) → left ≡ file → kept ≡ kept_at k js
    → IfOk r (λ m. m.first.items ≡ left)
    → IfOk r (λ m. m.book.past.kept.items ≡ kept) → IfOk r (λ m. IsPlanned [] room m.book) → IfOk r (λ m. IsFresh m file (jobs_at k js))
fresh_made (Ok m) file left kept js k room is stood first has planned = fresh_of m file left kept js k room is stood first has planned
fresh_made (Err e) file left kept js k room is stood first has planned = tt

-- what it tells is what it was made of
fresh_image : (m : MemSite) (file : List ℕ) (jobs : List Job) → IsFresh m file jobs → image_of m ≡ file
fresh_image m file jobs fresh = ap (λ v. (disk m.first.items (map change_of v)).seen) fresh.log ∙ fresh.first

fresh_jobs : (m : MemSite) (file : List ℕ) (jobs : List Job) → IsFresh m file jobs → (state_of m).jobs ≡ jobs
fresh_jobs m file jobs fresh = ap (λ v. jobs_at (length (map change_of v)) m.book.past.kept.items) fresh.log ∙ fresh.jobs_are

allowed : (r : Result MemSite AllocError) (ch : Choice) (first : List ℕ) (log : List (SiteCall × List ℕ)) (js : List KeptJob) (k : ℕ)
    → k ≤ length log
    → IfOk r (λ m. IsFresh m (stopped_image ch first (map change_of (take k log))) (jobs_at k js))
    → IfOk r (λ m. LeftSince first (map change_of log) js k (pair_of (image_of m) (state_of m).jobs))
allowed (Ok m) ch first log js k le fresh =
    let file = stopped_image ch first (map change_of (take k log)) in
    stopped_allowed ch first (image_of m) log js (state_of m).jobs k le (fresh_image m file (jobs_at k js) fresh)
    (fresh_jobs m file (jobs_at k js) fresh)
allowed (Err e) ch first log js k le fresh = tt

-- none of its calls fail that were to fail by this list
none_planned : (r : Result MemSite AllocError) (failing : List ℕ) (room : ℕ) → failing ≡ [] → IfOk r (λ m. IsPlanned failing room m.book)
    → IfOk r (λ m. IsPlanned [] room m.book)
none_planned r failing room is planned = let P : List ℕ → Type 0 = λ v. IfOk r (λ m. IsPlanned v room m.book) in subst P is planned

pub returns-clause-image : goal.returns-clause-image
returns-clause-image c =
    fresh_made c.made.result _ c.deref.result.now c.in_ok-kept.kept.items c.args.self.now.book.past.kept.items c.args.moment _
    (c.deref.ensures.value ∙ c.in_ok-left.ensures)
    c.in_ok-kept.ensures c.made.ensures.first c.made.ensures.kept (none_planned c.made.result _ _ c.new.ensures.items c.made.ensures.plan)

pub returns-clause-allowed : goal.returns-clause-allowed
returns-clause-allowed c =
    allowed c.made.result c.args.choice c.args.self.now.first.items c.args.self.now.book.past.log.calls c.args.self.now.book.past.kept.items
    c.args.moment c.requires
    (fresh_made c.made.result _ c.deref.result.now c.in_ok-kept.kept.items c.args.self.now.book.past.kept.items c.args.moment _
    (c.deref.ensures.value ∙ c.in_ok-left.ensures)
    c.in_ok-kept.ensures c.made.ensures.first c.made.ensures.kept (none_planned c.made.result _ _ c.new.ensures.items c.made.ensures.plan))
