use Rattle.std.proofs.Common.{drop, map, ◌++◌, ◌≡◌}
use Rattle.lcm_events.specs.declared.changes.Verb.TheVariants.{Create}
use Rattle.lcm_model.specs.Plans.{change}
use Rattle.lcm_model.specs.Vnfcs.{link_def}
use Rattle.change_planner.proofs.plans.push_links.Given as goal

abbrev pub invariant-loop-link : goal.invariant-loop-link
invariant-loop-link l =
    l.list.items ++ map (change Create) (map link_def (drop l.link-index l.links))
    ≡ l.fn.list.items ++ map (change Create) (map link_def l.links)
