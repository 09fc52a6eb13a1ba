use Rattle.std.proofs.Common.{rules}
use Rattle.change_planner.specs.Acts.{act}
use Rattle.change_planner.specs.Tags.{act_of}
use Rattle.change_planner.proofs.TagLaws.{ok_is, undo_work}
use Rattle.lcm_model.specs.Operations.{undo}
use Rattle.rollback_plan.proofs.undo_act.Goals as goal

pub returns-clause-work : goal.returns-clause-work
returns-clause-work c = search rules

pub returns-clause-of_attempt : goal.returns-clause-of_attempt
returns-clause-of_attempt c H t s way stood =
    let w = act c.args.vnfd.now c.args.holding.now (undo c.args.change.now.verb) c.args.change.now.def c.args.place.now in
    ok_is c.act_in.result w (act_of H t) (returns-clause-work c) (undo_work c.args.vnfd.now c.args.holding.now c.args.change.now H t
    c.args.place.now s way stood)
