use Rattle.std.proofs.Common.{arith}
use Rattle.request_pool.specs.Gateway.{open_parts}
use Rattle.request_pool.proofs.FrontLaws.{parts_same}
use Rattle.request_pool.proofs.gateway.is_open_form.Goals as goal

pub returns : goal.returns
returns c = λ told. parts_same c.args.found (open_parts c.args.parts) (omega arith) (c.is_same_span.ensures c.if-not-is_same_span.false)
    (c.is_same_span-2.ensures c.if-not-is_same_span-2.false) (c.is_same_span_if_any.ensures c.if-not-is_same_span_if_any.false)
    (c.is_same_body.ensures told) c.if-found.false
