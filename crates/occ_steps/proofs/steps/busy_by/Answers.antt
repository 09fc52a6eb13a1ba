-- No attempt is marked before the first.
use Rattle.std.proofs.Common.{false, refl}
use Rattle.std.proofs.lemmas.List.{get_or-replicate}
use Rattle.occ_steps.proofs.steps.busy_by.Goals as goal

pub loop-attempt-init : goal.loop-attempt-init
loop-attempt-init c = record { whole = refl; marked = λ k less. get_or-replicate 5000 k false false less }
