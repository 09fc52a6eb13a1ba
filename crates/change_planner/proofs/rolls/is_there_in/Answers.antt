use Rattle.std.proofs.Common.{ap, arith, length, ltb, ◌<◌, ◌≤◌, ◌∙◌}
use Rattle.std.specs.Prelude.{filter}
use Rattle.change_planner.specs.Rolls.{is_at}
use Rattle.change_planner.proofs.RollLaws.{there_known, there_unknown}
use Rattle.change_planner.proofs.rolls.is_there_in.Goals as goal

pub returns-then-vnfc-len : goal.returns-then-vnfc-len
returns-then-vnfc-len c =
    let less : c.args.vnfc.now.vdu < length c.args.vnfd.now.vdus =
    (let known = c.if-vnfc-len.true in let size = c.len.ensures in omega (arith, known, size)) in
    there_known c.args.vnfd.now c.args.holding.now c.args.to.now c.args.vnfc.now.vdu c.args.vnfc.now.serial _ c.requires
    (c.items_at-standing.ensures ∙ ap (filter (is_at c.args.vnfc.now.vdu c.args.vnfc.now.serial)) c.as_slice.ensures) less

pub returns-else-vnfc-len : goal.returns-else-vnfc-len
returns-else-vnfc-len c =
    let past : length c.args.vnfd.now.vdus ≤ c.args.vnfc.now.vdu =
    (let unknown = c.if-vnfc-len.false in let size = c.len.ensures in omega (arith, unknown, size)) in
    ap (ltb c.args.vnfc.now.vdu) c.len.ensures
    ∙ there_unknown c.args.vnfd.now c.args.holding.now c.args.to.now c.args.vnfc.now.vdu c.args.vnfc.now.serial _ c.requires
    (c.items_at-standing.ensures ∙ ap (filter (is_at c.args.vnfc.now.vdu c.args.vnfc.now.serial)) c.as_slice.ensures) past
