use Rattle.std.proofs.Common.{arith}
use Rattle.change_planner.proofs.SpanLaws.{serial_span, serial_span_fits}
use Rattle.change_planner.proofs.spans.items_at.Goals as goal

pub between-requires-clause-order : goal.between-requires-clause-order
between-requires-clause-order c =
    let fits = serial_span_fits c.args.vdu c.args.serial c.args.items.now in
    let start = c.count_before-start.ensures.value in
    let end = c.count_before-end.ensures.value in
    omega (arith, fits, start, end)

pub returns : goal.returns
returns c = rw (c.between.ensures, c.count_before-start.ensures.value, c.count_before-end.ensures.value)
    (serial_span c.args.vdu c.args.serial c.args.items.now c.requires)
