use Rattle.std.proofs.Common.{arith}
use Rattle.site_traits.proofs.DoorLemmas.{left-less, ready-more}
use Rattle.site_traits.proofs.mem_door.make_ready.Goals as goal

pub loop-plan-preserved : goal.loop-plan-preserved
loop-plan-preserved c =
    let was = c.loop-plan.invariant in
    record {
      left = left-less c.args.plans.items c.loop-plan.plans.items c.pop.new.self.items c.in-Some.plan c.in-Some.ensures.items was.left;
      count = omega (arith, was.count, c.in-Some.ensures.len, c.in_ok-push.ensures.len);
      each = ready-more _ c.args.plans.items c.loop-plan.plans.items c.pop.new.self.items c.in-Some.plan c.loop-plan.ready.items
          c.push.new.self.items _
          c.in-Some.ensures.items was.left was.count c.in_ok-push.ensures.items c.in_ok-ready_one.ensures was.each;
    }
