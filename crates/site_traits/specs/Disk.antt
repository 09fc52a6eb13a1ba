-- A file in memory, by the calls that were made on it since it stood as it was at first, and beside it the jobs of each
-- moment.
use Rattle.std.specs.Prelude.{◌≡◌, ◌≤◌, ℕ, ◌+◌, min, List, [], ◌∷◌, ◌++◌, length, take, drop, map, replicate, fold}
use Rattle.std.specs.Prelude.{if◌then◌else◌, nat_le}
use Rattle.std.proofs.Common.{arith, subst, refl, inr, ap, sym, ◌∙◌, append_assoc, length-append, length-drop}
use Rattle.std.proofs.lemmas.List.{take_at, drop_at, take_all, length-take-le}
use Rattle.site_traits.specs.declared.past.SiteCall.{SiteCall}
use Rattle.site_traits.specs.declared.past.SiteCall.TheVariants as call
use Rattle.site_traits.specs.declared.mem_jobs.KeptJob.{KeptJob}
use Rattle.site_traits.specs.declared.mem_file.Choice.{Choice}
use Rattle.site_traits.specs.declared.mem_file.Choice.TheVariants as choice
use Rattle.site_traits.specs.Jobs.{Answered}
use Rattle.site_traits.specs.KeptJobs.{jobs_at}
use Rattle.site_traits.specs.Past.{answers_of}
use Rattle.site_traits.specs.Site.{Pair, SiteState, pair_of, Torn, Cut}

-- what a call does to the file: bytes written at a place, a cut to a length, a sync, or nothing
pub data Change : Type 0 where
  wrote : ℕ → List ℕ → Change
  cut : ℕ → Change
  synced : Change
  kept : Change

-- what this call does, given the bytes that were written
abbrev pub change_by : SiteCall → List ℕ → Change
change_by (call.Wrote at) bytes = wrote at bytes
change_by (call.Cut to) bytes = cut to
change_by call.Synced bytes = synced
change_by other bytes = kept

-- what a call on record does
abbrev pub change_of : SiteCall × List ℕ → Change
change_of e = change_by e.0 e.1

-- what a read gives, what was synced last, and the writes and cuts since, the newest first
pub record Disk : Type 0 where
  pub seen : List ℕ
  pub base : List ℕ
  pub pending : List Change

-- these bytes at this place of the old ones
abbrev pub overlaid : List ℕ → ℕ → List ℕ → List ℕ
overlaid old at bytes = take at old ++ bytes ++ drop (at + length bytes) old

-- the disk after one call more; a write past the end would begin at the end
abbrev pub after : Disk → Change → Disk
after d (wrote at bytes) = record {
  seen = overlaid d.seen (min at (length d.seen)) bytes;
  base = d.base;
  pending =
      wrote (min at (length d.seen)) bytes ∷ d.pending;
}
after d (cut to) = record { seen = take to d.seen; base = d.base; pending = cut to ∷ d.pending }
after d synced = record { seen = d.seen; base = d.seen; pending = [] }
after d kept = d

-- what a stop makes of a change that isn't synced
abbrev pub Takes : Change → List ℕ → List ℕ → Type 0
Takes (wrote at bytes) old new = Torn at (length bytes) old new
Takes (cut to) old new = Cut to old new
Takes other old new = new ≡ old

-- what a stop leaves of what was synced last and the changes since
abbrev pub Reaches : List ℕ → List Change → List ℕ → Type 0
Reaches base [] c = c ≡ base
Reaches base (change ∷ earlier) c = (d : List ℕ) × Reaches base earlier d × Takes change d c

-- the disk of a file that nothing was done to
abbrev pub fresh : List ℕ → Disk
fresh first = record { seen = first; base = first; pending = [] }

-- the disk after these calls
abbrev pub disk : List ℕ → List Change → Disk
disk first changes = fold after (fresh first) changes

-- A stop at a moment since t may leave this. A moment is a number of calls.
pub record LeftSince (first : List ℕ) (changes : List Change) (jobs : List KeptJob) (t : ℕ) (p : Pair) : Type 0 where
  pub moment : ℕ
  pub since : t ≤ moment
  pub has_been : moment ≤ length changes
  pub reached : Reaches (disk first (take moment changes)).base (disk first (take moment changes)).pending p.image
  pub jobs_are : p.jobs ≡ jobs_at moment jobs

pub left_earlier : (first : List ℕ) (changes : List Change) (jobs : List KeptJob) (t u : ℕ) (p : Pair) → t ≤ u
    → LeftSince first changes jobs u p → LeftSince first changes jobs t p
left_earlier first changes jobs t u p le left =
    record {
      moment = left.moment;
      since = omega (arith, left.since, le);
      has_been = left.has_been;
      reached =
          left.reached;
      jobs_are = left.jobs_are;
    }

-- a write that was not cut short is one of the ways in which it may be
pub overlaid_torn : (old : List ℕ) (at : ℕ) (bytes : List ℕ) → at ≤ length old
    → Torn at (length bytes) old (overlaid old at bytes)
overlaid_torn old at bytes le =
    let n = length bytes in
    let front = take at old in
    let rest = drop (at + n) old in
    let front_length : length front ≡ at = length-take-le at old le in
    let both : length (front ++ bytes) ≡ at + n = length-append front bytes ∙ (omega arith) in
    record {
      before = ap (take at) (append_assoc front bytes rest) ∙ take_at front (bytes ++ rest) at front_length;
      after = drop_at (front ++ bytes) rest (at + n) both;
      no_shorter = omega (arith, length-append (front ++ bytes) rest, length-drop (at + n) old);
      no_longer = omega (arith, length-append (front ++ bytes) rest, length-drop (at + n) old);
    }

-- what a read gives is one of the files that a stop may leave
IsSeen : Disk → Type 0
IsSeen d = Reaches d.base d.pending d.seen

seen_after : (d : Disk) (c : Change) → IsSeen d → IsSeen (after d c)
unfolding IsSeen
seen_after d (wrote at bytes) seen = (d.seen, seen, overlaid_torn d.seen (min at (length d.seen)) bytes (omega arith))
seen_after d (cut to) seen = (d.seen, seen, inr refl)
seen_after d synced seen = refl
seen_after d kept seen = seen

seen_fold : (changes : List Change) (d : Disk) → IsSeen d → IsSeen (fold after d changes)
seen_fold [] d seen = seen
seen_fold (c ∷ changes) d seen = seen_fold changes (after d c) (seen_after d c seen)

pub seen_reached : (first : List ℕ) (changes : List Change)
    → Reaches (disk first changes).base (disk first changes).pending (disk first changes).seen
unfolding IsSeen
seen_reached first changes = seen_fold changes (fresh first) refl

pub left_now : (first : List ℕ) (changes : List Change) (jobs : List KeptJob)
    → LeftSince first changes jobs (length changes) (pair_of (disk first changes).seen (jobs_at (length changes) jobs))
left_now first changes jobs = record {
  moment = length changes;
  since = omega arith;
  has_been = omega arith;
  reached = (let P : List Change → Type 0 = λ v. Reaches (disk first v).base (disk first v).pending
      (disk first changes).seen in
      subst P (sym (take_all (length changes) changes (omega arith))) (seen_reached first changes));
  jobs_are = refl;
}

-- a stop now leaves the jobs as they are
pub left_stays : (first : List ℕ) (changes : List Change) (jobs : List KeptJob) (p : Pair)
    → LeftSince first changes jobs (length changes) p → p.jobs ≡ jobs_at (length changes) jobs
left_stays first changes jobs p left =
    let now : left.moment ≡ length changes = omega (arith, left.since, left.has_been) in
    left.jobs_are ∙ ap (λ (k : ℕ). jobs_at k jobs) now

-- what a site in memory tells, by what the calls did to its file, its jobs and what was answered of them
abbrev pub told : List ℕ → List Change → List KeptJob → Answered → SiteState
told first changes jobs answers = record {
  image = (disk first changes).seen;
  jobs = jobs_at (length changes) jobs;
  answers = answers;
  moment = length changes;
  since = LeftSince first changes jobs;
  earlier = left_earlier first changes jobs;
  now = left_now first changes jobs;
  stay = left_stays first changes jobs;
}

-- what it tells by the calls on record
abbrev pub told_by : List ℕ → List (SiteCall × List ℕ) → List KeptJob → SiteState
told_by first calls jobs = told first (map change_of calls) jobs (answers_of calls)

-- these bytes at this place of the old ones, where it lies within them
abbrev pub put_over : List ℕ → ℕ → List ℕ → List ℕ
put_over old at bytes = if nat_le at (length old) then overlaid old at bytes else old

-- what a choice makes of a change that isn't synced: nothing, the change, or the byte 165 in a written range
abbrev pub chosen : Choice → Change → List ℕ → List ℕ
chosen choice.Old change old = old
chosen choice.New (wrote at bytes) old = put_over old at bytes
chosen choice.New (cut to) old = take to old
chosen choice.New other old = old
chosen choice.Torn (wrote at bytes) old = put_over old at (replicate (length bytes) 165)
chosen choice.Torn (cut to) old = take to old
chosen choice.Torn other old = old

-- what it makes of these changes
abbrev pub chosen_all : Choice → List ℕ → List Change → List ℕ
chosen_all c base [] = base
chosen_all c base (change ∷ earlier) = chosen c change (chosen_all c base earlier)

-- the file that this choice leaves of a stop after these calls
abbrev pub stopped_image : Choice → List ℕ → List Change → List ℕ
stopped_image c first changes = chosen_all c (disk first changes).base (disk first changes).pending

-- the change with its place within so many bytes
abbrev pub clip : ℕ → Change → Change
clip n (wrote at bytes) = wrote (min at n) bytes
clip n other = other

-- what the choice leaves after one call more, given what a read gave and what it left before
abbrev pub left_after : Choice → Change → List ℕ → List ℕ → List ℕ
left_after c synced seen left = seen
left_after c other seen left = chosen c (clip (length seen) other) left
