-- A turn of the loop takes the first of those that are left.
use Rattle.std.proofs.Common.{arith}
use Rattle.std.proofs.lemmas.Grind.{common_steps}
use Rattle.site_traits.proofs.past.Past.kept_at.Goals as goal

pub loop-job-preserved : goal.loop-job-preserved
loop-job-preserved c = grind (arith, common_steps)
