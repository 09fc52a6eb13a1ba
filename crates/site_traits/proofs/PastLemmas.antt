-- What a site in memory tells of a call on its jobs, by what is on record of it.
use Rattle.std.proofs.Common.{◌⊎◌, ◌∙◌, sym, ap, subst, ⊎_elim, refl, ℕ, ◌≡◌, ◌+◌, List, [], ◌∷◌, ◌++◌, map, length}
use Rattle.std.proofs.lemmas.List.{length-map}
use Rattle.lcm_events.specs.declared.acts.Act.{Act}
use Rattle.lcm_events.specs.declared.attempts.Tag.{Tag}
use Rattle.site_traits.specs.declared.jobs.BeginAnswer.{BeginAnswer}
use Rattle.site_traits.specs.declared.jobs.LookAnswer.{LookAnswer}
use Rattle.site_traits.specs.declared.jobs.AbortAnswer.{AbortAnswer}
use Rattle.site_traits.specs.declared.jobs.BeginAnswer.TheVariants as begin
use Rattle.site_traits.specs.declared.jobs.LookAnswer.TheVariants as look
use Rattle.site_traits.specs.declared.jobs.AbortAnswer.TheVariants as abort
use Rattle.site_traits.specs.declared.mem_jobs.JobPlan.{JobPlan}
use Rattle.site_traits.specs.declared.mem_book.Book.{Book}
use Rattle.site_traits.specs.declared.past.Past.{Past}
use Rattle.site_traits.specs.declared.past.SiteCall.{SiteCall}
use Rattle.site_traits.specs.declared.past.SiteCall.TheVariants as call
use Rattle.site_traits.specs.Log.{Recorded}
use Rattle.site_traits.specs.Site.{SiteState, Begins, Looks, Aborts}
use Rattle.site_traits.specs.Disk.{kept, change_of, told_by}
use Rattle.site_traits.specs.Jobs.{begin_answered, look_answered, abort_answered}
use Rattle.site_traits.specs.declared.mem_jobs.KeptJob.{KeptJob}
use Rattle.site_traits.specs.KeptJobs.{arrived, begin_of, look_of, found_of, latest_of, latest_changed, looked, aborted_at}
use Rattle.site_traits.specs.Past.{Stays, IsBegun, IsNotBegun, BeginsBy, IsLookedAt, IsAborted, answers_of, arrival_by}
use Rattle.site_traits.specs.Book.{LooksAt, LooksInVain, AbortsAt, AbortsInVain}
use Rattle.site_traits.proofs.DiskLemmas.{jobs_with, begin_push, look_push, abort_push, on_record, unchanged, early_calls}
use Rattle.site_traits.specs.Moments.{lost_begin, lost_look, lost_abort}

-- what the site tells with this past
abbrev pub told_of : List ℕ → Past → SiteState
told_of first p = told_by first p.log.calls p.kept.items

-- what holds of the site holds of it where its past stays
pub past_stays : (P : SiteState → Type 0) (first : List ℕ) (old new : Past) → Stays old new → P (told_of first old) → P (told_of first new)
past_stays P first old new stays holds =
    unchanged P first old.log.calls new.log.calls old.kept.items new.kept.items
    (ap (λ (r : Recorded SiteCall). r.calls) stays.log) stays.kept holds

-- a begin that is on record, and one that is not
begun_told : (first : List ℕ) (tag : Tag) (act : Act) (plan : JobPlan) (answer : BeginAnswer) (old new : Past)
    → IsBegun tag act plan (arrival_by plan old) answer old new
    → Begins tag act answer (told_of first old) (told_of first new)
begun_told first tag act plan answer old new b =
    let came = arrival_by plan old in
    let log = old.log.calls in
    let js = old.kept.items in
    let cs = map change_of log in
    let a = told_of first old in
    let P : BeginAnswer → Type 0 = λ v. Begins tag act v a (told_of first new) in
    subst P (sym b.answered)
    (on_record (λ s. Begins tag act (begin_of came) a s) first log new.log.calls (call.Began tag came, []) kept
    (jobs_with came tag act plan (length cs + 1) js) new.kept.items
    (begin_answered (begin_of came) (answers_of log))
    (ap (λ (r : Recorded SiteCall). r.calls) b.log) refl refl
    (b.kept ∙ ap (λ (n : ℕ). jobs_with came tag act plan (n + 1) js) (sym (length-map log change_of)))
    (begin_push came tag act plan first cs js (answers_of log) (early_calls log js old.early)))

not_begun_told : (first : List ℕ) (tag : Tag) (act : Act) (plan : JobPlan) (answer : BeginAnswer) (old new : Past)
    → IsNotBegun (arrival_by plan old) answer old new
    → Begins tag act answer (told_of first old) (told_of first new)
not_begun_told first tag act plan answer old new b =
    let a = told_of first old in
    let P : BeginAnswer → Type 0 = λ v. Begins tag act v a (told_of first new) in
    subst P (sym b.answered) (past_stays (λ s. Begins tag act begin.Failed a s) first old new b.stays (lost_begin tag act a))

pub begins_told : (first : List ℕ) (tag : Tag) (act : Act) (plan : JobPlan) (answer : BeginAnswer) (old new : Past)
    → BeginsBy tag act plan answer old new
    → Begins tag act answer (told_of first old) (told_of first new)
begins_told first tag act plan answer old new begins = ⊎_elim (begun_told first tag act plan answer old new)
    (not_begun_told first tag act plan answer old new) begins

-- a look that is on record, and one that is not
looked_told : (first : List ℕ) (tag : Tag) (answer : LookAnswer) (old new : Past) → IsLookedAt tag answer old new
    → Looks tag answer (told_of first old) (told_of first new)
looked_told first tag answer old new b =
    let log = old.log.calls in
    let js = old.kept.items in
    let cs = map change_of log in
    let a = told_of first old in
    let found = found_of (latest_of tag js) in
    let P : LookAnswer → Type 0 = λ v. Looks tag v a (told_of first new) in
    subst P (sym b.answered)
    (on_record (λ s. Looks tag (look_of found) a s) first log new.log.calls (call.Looked tag found, []) kept
    (latest_changed tag (looked (length cs + 1)) js) new.kept.items
    (look_answered tag (look_of found) (answers_of log))
    (ap (λ (r : Recorded SiteCall). r.calls) b.log) refl refl
    (b.kept ∙ ap (λ (n : ℕ). latest_changed tag (looked (n + 1)) js) (sym (length-map log change_of)))
    (look_push tag first cs js (answers_of log) (early_calls log js old.early)))

pub looks_told : (first : List ℕ) (tag : Tag) (answer : LookAnswer) (old new : Book)
    → LooksAt tag answer old new ⊎ LooksInVain answer old new
    → Looks tag answer (told_of first old.past) (told_of first new.past)
looks_told first tag answer old new looks =
    let a = told_of first old.past in
    let P : LookAnswer → Type 0 = λ v. Looks tag v a (told_of first new.past) in
    ⊎_elim (λ (at : LooksAt tag answer old new). looked_told first tag answer old.past new.past at.looks)
    (λ (vain : LooksInVain answer old new). subst P (sym vain.answered)
    (past_stays (λ s. Looks tag look.Failed a s) first old.past new.past vain.stays (lost_look tag a)))
    looks

-- an abort that is on record, and one that is not
aborted_told : (first : List ℕ) (tag : Tag) (answer : AbortAnswer) (old new : Past) → IsAborted tag answer old new
    → Aborts tag answer (told_of first old) (told_of first new)
aborted_told first tag answer old new b =
    let log = old.log.calls in
    let js = old.kept.items in
    let cs = map change_of log in
    let a = told_of first old in
    let P : AbortAnswer → Type 0 = λ v. Aborts tag v a (told_of first new) in
    subst P (sym b.answered)
    (on_record (λ s. Aborts tag abort.Asked a s) first log new.log.calls (call.Aborted tag, []) kept
    (latest_changed tag (aborted_at (length cs + 1)) js) new.kept.items
    (abort_answered tag abort.Asked (answers_of log))
    (ap (λ (r : Recorded SiteCall). r.calls) b.log) refl refl
    (b.kept ∙ ap (λ (n : ℕ). latest_changed tag (aborted_at (n + 1)) js) (sym (length-map log change_of)))
    (abort_push tag first cs js (answers_of log) (early_calls log js old.early)))

pub aborts_told : (first : List ℕ) (tag : Tag) (answer : AbortAnswer) (old new : Book)
    → AbortsAt tag answer old new ⊎ AbortsInVain answer old new
    → Aborts tag answer (told_of first old.past) (told_of first new.past)
aborts_told first tag answer old new aborts =
    let a = told_of first old.past in
    let P : AbortAnswer → Type 0 = λ v. Aborts tag v a (told_of first new.past) in
    ⊎_elim (λ (at : AbortsAt tag answer old new). aborted_told first tag answer old.past new.past at.aborts)
    (λ (vain : AbortsInVain answer old new). subst P (sym vain.answered)
    (past_stays (λ s. Aborts tag abort.Failed a s) first old.past new.past vain.stays (lost_abort tag a)))
    aborts

-- the job that is put last is the one that arrives
pub arrives_last : (tag : Tag) (act copy : Act) (plan : JobPlan) (now at place : ℕ) (jobs : List KeptJob) → copy ≡ act → at ≡ now
    → place ≡ length jobs + 1
    → jobs ++ record (arrived tag copy plan at jobs) { place = place } ∷ [] ≡ jobs ++ arrived tag act plan now jobs ∷ []
arrives_last tag act copy plan now at place jobs same moment behind = cc
