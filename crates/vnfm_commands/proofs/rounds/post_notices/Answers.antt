-- The deliveries went through, or ended in a fault.
use Rattle.vnfm_commands.proofs.DiskLemmas.{posts_fail}
use Rattle.vnfm_commands.proofs.RoundLemmas.{posted_all, posted_some}
use Rattle.vnfm_commands.proofs.rounds.post_notices.Goals as goal

pub returns-in-Ok-clause-posts : goal.returns-in-Ok-clause-posts
returns-in-Ok-clause-posts g c = λ H ready.
    let it = c.in-Ok.ensures.delivers H ready in
    (it.0, it.1, it.2, posted_all c.in-Ok.field-0 it.0 it.1 it.3)

pub returns-in-Err-clause-posts : goal.returns-in-Err-clause-posts
returns-in-Err-clause-posts g c = λ H ready.
    let it = c.in-Err.ensures.delivers H ready in
    (it.0, it.1, it.2, posted_some c.in-Err.fault c.from.result it.0 it.1 it.3 c.from.ensures)

pub returns-in-Err-clause-disk : goal.returns-in-Err-clause-disk
returns-in-Err-clause-disk g c = posts_fail c.in-Err.fault c.from.result _ _ c.from.ensures c.in-Err.ensures.disk
