-- The numbers of the history decide.
use Rattle.std.proofs.Common.{arith, sym}
use Rattle.lcm_api.proofs.StepLemmas.{step_creates}
use Rattle.lcm_api.proofs.create.create_as.Goals as goal

pub returns : goal.returns
returns g c = λ H keeps.
    let number = c.next_instance-n.ensures.number H keeps in
    let live = c.live.ensures H keeps in
    let few = c.if-live-ge-MAX_INSTANCES.false in
    step_creates c.args.manager.now H c.args.now c.args.body c.args.last c.in-Some.vnfd.now c.in_ok-reply.reply c.creation.result
    (sym (c.in-Some.ensures H keeps))
    (omega (arith, live, few)) (rw number at c.creation.ensures) (rw (c.number.ensures, number) at c.in_ok-reply.ensures)
