-- The plan of a site in memory, and what was done by it.
use Rattle.std.specs.Prelude.{◌≡◌, ◌⊎◌, ◌≤◌, ◌↔◌, ℕ, ◌+◌, ◌*◌, ◌-◌, ◌^◌, min, List, length, get_or, Contains, Bool}
use Rattle.std.specs.Prelude.{true, IsTrue, if◌then◌else◌}
use Rattle.lcm_events.specs.declared.acts.Act.{Act}
use Rattle.lcm_events.specs.declared.attempts.Tag.{Tag}
use Rattle.site_traits.specs.Counts.{SiteCounts, asked, disk_failed, one_more, begin_counts, look_counts, abort_counts}
use Rattle.site_traits.specs.Counts.Ask.{write, cut, sync}
use Rattle.site_traits.specs.Log.{HasRoom, with_call, empty}
use Rattle.site_traits.specs.Past.{Stays, BeginsBy, IsLookedAt, IsAborted}
use Rattle.site_traits.specs.declared.jobs.BeginAnswer.{BeginAnswer}
use Rattle.site_traits.specs.declared.jobs.LookAnswer.{LookAnswer}
use Rattle.site_traits.specs.declared.jobs.LookAnswer.TheVariants as look
use Rattle.site_traits.specs.declared.jobs.AbortAnswer.{AbortAnswer}
use Rattle.site_traits.specs.declared.jobs.AbortAnswer.TheVariants as abort
use Rattle.site_traits.specs.declared.mem_jobs.Arrival.TheVariants.{Taken}
use Rattle.site_traits.specs.declared.mem_jobs.JobEnd.TheVariants.{Done}
use Rattle.site_traits.specs.declared.mem_jobs.JobPlan.{JobPlan}
use Rattle.site_traits.specs.declared.mem_book.Book.{Book}
use Rattle.site_traits.specs.declared.past.SiteCall.{SiteCall}
use Rattle.site_traits.specs.declared.past.SiteCall.TheVariants as call

-- nothing was counted yet
abbrev pub none_counted : SiteCounts
none_counted = record { disk = 0; vim = 0; look = 0; refusals = 0; writes = 0; cuts = 0; syncs = 0 }

-- the counts that the book keeps
abbrev pub counts_in : Book → SiteCounts
counts_in b = record {
  disk = b.faults;
  vim = b.vim_faults;
  look = b.look_faults;
  refusals = b.refusals;
  writes =
      b.writes;
  cuts = b.cuts;
  syncs = b.syncs;
}

-- the counts once this call was asked for
abbrev pub counted : SiteCall → SiteCounts → SiteCounts
counted (call.Wrote at) c = asked write c
counted (call.Cut to) c = asked cut c
counted call.Synced c = asked sync c
counted other c = c

-- no call was made: these are to fail, and there is room for a file of so many bytes, for 1,048,576 calls and for twice
-- as many bytes written (own rule)
pub record IsPlanned (failing : List ℕ) (room : ℕ) (b : Book) : Type 0 where
  pub failing_are : b.failing.items ≡ failing
  pub calls : b.calls ≡ 0
  pub counts : counts_in b ≡ none_counted
  pub room_is : b.room ≡ room
  pub log : b.past.log ≡ empty 1048576 (min (room * 2) (2 ^ 64 - 1))

-- a write lies within the room for the file
abbrev pub IsWithinRoom : SiteCall → List ℕ → Book → Type 0
IsWithinRoom (call.Wrote at) bytes b = at + length bytes ≤ b.room
IsWithinRoom other bytes b = Unit {0}

-- the next call is served: the plan does not name it as one that fails, and it has room (own rule)
pub record IsServed (what : SiteCall) (bytes : List ℕ) (b : Book) : Type 0 where
  pub unnamed : Contains b.failing.items (one_more b.calls) → ⊥
  pub room : IsWithinRoom what bytes b
  pub on_record : HasRoom (length bytes) b.past.log

-- the plan stays, and the room for the file
pub record SamePlan (old new : Book) : Type 0 where
  pub failing : new.failing ≡ old.failing
  pub unreachable : new.unreachable ≡ old.unreachable
  pub work : new.work ≡ old.work
  pub room : new.room ≡ old.room

-- a call on the file succeeds exactly where it is served, and is on record then; it is counted, and so is its fault;
-- jobs stay (own rule)
pub record Runs (what : SiteCall) (bytes : List ℕ) (succeeds : Bool) (old new : Book) : Type 0 where
  pub served : IsTrue succeeds ↔ IsServed what bytes old
  pub failing : new.failing ≡ old.failing
  pub room : new.room ≡ old.room
  pub calls : new.calls ≡ one_more old.calls
  pub log : new.past.log ≡ (if succeeds then with_call what bytes old.past.log else old.past.log)
  pub counts : counts_in new ≡ (if succeeds then counted what (counts_in old)
      else disk_failed (counted what (counts_in old)))
  pub unreachable : new.unreachable ≡ old.unreachable
  pub work : new.work ≡ old.work
  pub kept : new.past.kept.items ≡ old.past.kept.items
  pub most : new.past.most ≡ old.past.most
  pub begins : new.begins ≡ old.begins
  pub asked : new.asked ≡ old.asked

-- No begin, look or abort was made: looks and aborts with these numbers are to fail, begins come out by this work in
-- order, and there is room for so many jobs (own rule).
pub record HasWork (unreachable : List ℕ) (work : List JobPlan) (jobs : ℕ) (b : Book) : Type 0 where
  pub unreachable_are : b.unreachable.items ≡ unreachable
  pub work_is : b.work.items ≡ work
  pub begins : b.begins ≡ 0
  pub asked : b.asked ≡ 0
  pub most : b.past.most ≡ jobs

-- how a job goes on of which nothing is planned: it is taken, ends at the first look and can be aborted
abbrev pub unplanned : JobPlan
unplanned = record { arrival = Taken; looks = 0; end = Done; abortable = true }

-- the plan of the next begin: the n-th begin has the n-th plan
abbrev pub next_plan : Book → JobPlan
next_plan b = get_or b.work.items b.begins unplanned

-- a begin has the next plan, and is counted by its answer (own rule)
pub record BeginRuns (tag : Tag) (act : Act) (answer : BeginAnswer) (old new : Book) : Type 0 where
  pub past : BeginsBy tag act (next_plan old) answer old.past new.past
  pub begins : new.begins ≡ one_more old.begins
  pub counts : counts_in new ≡ begin_counts answer (counts_in old)
  pub plan : SamePlan old new
  pub calls : new.calls ≡ old.calls
  pub asked : new.asked ≡ old.asked

-- the next look or abort is named as one that fails
abbrev pub IsNamed : Book → Type 0
IsNamed b = Contains b.unreachable.items (one_more b.asked)

-- what a look or an abort does beside its answer: it is counted (own rule)
pub record IsAsked (old new : Book) : Type 0 where
  pub asked : new.asked ≡ one_more old.asked
  pub plan : SamePlan old new
  pub calls : new.calls ≡ old.calls
  pub begins : new.begins ≡ old.begins

-- a look that is named as one that fails, or finds no room on record
pub record LooksInVain (answer : LookAnswer) (old new : Book) : Type 0 where
  pub cause : IsNamed old ⊎ (HasRoom 0 old.past.log → ⊥)
  pub answered : answer ≡ look.Failed
  pub stays : Stays old.past new.past

-- any other look is on record, and answers how its job stands
pub record LooksAt (tag : Tag) (answer : LookAnswer) (old new : Book) : Type 0 where
  pub unnamed : IsNamed old → ⊥
  pub looks : IsLookedAt tag answer old.past new.past

-- what a look does, by the plan (own rule)
pub record LookRuns (tag : Tag) (answer : LookAnswer) (old new : Book) : Type 0 where
  pub past : LooksAt tag answer old new ⊎ LooksInVain answer old new
  pub counts : counts_in new ≡ look_counts answer (counts_in old)
  pub asks : IsAsked old new

-- an abort that is named as one that fails, or finds no room on record
pub record AbortsInVain (answer : AbortAnswer) (old new : Book) : Type 0 where
  pub cause : IsNamed old ⊎ (HasRoom 0 old.past.log → ⊥)
  pub answered : answer ≡ abort.Failed
  pub stays : Stays old.past new.past

-- any other abort is on record, and may end its job
pub record AbortsAt (tag : Tag) (answer : AbortAnswer) (old new : Book) : Type 0 where
  pub unnamed : IsNamed old → ⊥
  pub aborts : IsAborted tag answer old.past new.past

-- what an abort does, by the plan (own rule)
pub record AbortRuns (tag : Tag) (answer : AbortAnswer) (old new : Book) : Type 0 where
  pub past : AbortsAt tag answer old new ⊎ AbortsInVain answer old new
  pub counts : counts_in new ≡ abort_counts answer (counts_in old)
  pub asks : IsAsked old new
