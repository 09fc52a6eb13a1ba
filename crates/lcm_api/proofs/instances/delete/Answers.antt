-- Nothing refuses the deletion of the instance that was found.
use Rattle.lcm_api.proofs.InstanceLemmas.{deletes}
use Rattle.lcm_api.proofs.instances.delete.Goals as goal

pub returns-in-None : goal.returns-in-None
returns-in-None g c = λ H keeps.
    let found = c.in-Some.ensures.own H keeps in
    deletes c.args.manager.now H c.args.now c.args.request.now c.in-Some.row.now c.deleted.result c.deletion.result
    (rw c.asked_id.ensures at (c.in-Some.ensures.named H keeps)) found
    (c.in-None.ensures H keeps found) c.deletion.ensures c.deleted.ensures
