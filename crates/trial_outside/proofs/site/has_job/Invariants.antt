use Rattle.std.proofs.Common.{◌≤◌, All, drop, length, reverse}
use Rattle.site_traits.specs.MemSite.{state_of}
use Rattle.trial_outside.proofs.FindLemmas.{IsOther}
use Rattle.trial_outside.proofs.site.has_job.Given as goal

-- no job from here on has the tag
abbrev pub invariant-loop-place : goal.invariant-loop-place
invariant-loop-place l =
    (l.place ≤ length (state_of l.site).jobs) × All (IsOther l.tag) (drop l.place (reverse (state_of l.site).jobs))

abbrev pub decreases-loop-place : goal.decreases-loop-place
decreases-loop-place l = l.place
