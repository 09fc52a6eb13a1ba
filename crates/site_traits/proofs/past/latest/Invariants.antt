use Rattle.std.proofs.Common.{◌≤◌, length, drop}
use Rattle.site_traits.specs.KeptJobs.{HasNone}
use Rattle.site_traits.proofs.past.latest.Given as goal

-- no job from here on has the tag
abbrev pub invariant-loop-k : goal.invariant-loop-k
invariant-loop-k l = (l.k ≤ length l.kept) × HasNone l.tag (drop l.k l.kept)

abbrev pub decreases-loop-k : goal.decreases-loop-k
decreases-loop-k l = l.k
