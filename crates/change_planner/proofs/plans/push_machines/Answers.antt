use Rattle.std.proofs.Common.{map, ◌+◌}
use Rattle.lcm_events.specs.declared.changes.Verb.TheVariants.{Create}
use Rattle.lcm_model.specs.Plans.{change}
use Rattle.lcm_model.specs.Vnfcs.{def_of}
use Rattle.change_planner.proofs.RangeLaws.{made_on}
use Rattle.change_planner.proofs.plans.push_machines.Goals as goal

pub loop-at-preserved : goal.loop-at-preserved
loop-at-preserved c =
    made_on (change Create) (λ s. map (def_of c.args.kind c.args.vdu s) c.args.items.now) c.loop-at.list.items _ _
    (c.args.top + 1) c.loop-at.at c.args.missing
    c.loop-at-test.true c.in_ok-push_machine.ensures c.loop-at.invariant
