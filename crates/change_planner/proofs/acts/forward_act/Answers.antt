use Rattle.std.proofs.Common.{rules}
use Rattle.change_planner.specs.Acts.{act, place_of}
use Rattle.change_planner.specs.Tags.{act_of}
use Rattle.change_planner.proofs.TagLaws.{forward_work, ok_is}
use Rattle.change_planner.proofs.acts.forward_act.Goals as goal

pub returns-clause-work : goal.returns-clause-work
returns-clause-work c = search rules

pub returns-clause-of_attempt : goal.returns-clause-of_attempt
returns-clause-of_attempt c H t s way granted =
    let w = act c.args.vnfd.now c.args.holding.now c.args.change.now.verb c.args.change.now.def
    (place_of c.args.holding.now c.args.change.now.verb c.args.change.now.def c.args.place.now) in
    ok_is c.act_in.result w (act_of H t) (returns-clause-work c) (forward_work c.args.vnfd.now c.args.holding.now c.args.change.now H t
    c.args.place.now s way granted)
