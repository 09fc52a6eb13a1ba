use Rattle.std.proofs.Common.{◌≡◌, take}
use Rattle.site_traits.specs.KeptJobs.{kept_at}
use Rattle.site_traits.proofs.past.Past.kept_at.Given as goal

-- the jobs so far that were there
abbrev pub invariant-loop-job : goal.invariant-loop-job
invariant-loop-job l = l.kept.items ≡ kept_at l.moment (take l.job-index l.self.kept.items)
