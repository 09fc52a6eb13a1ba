use Rattle.std.proofs.Common.{sym, ◌∙◌}
use Rattle.http_frames.proofs.FieldLaws.{asks_to_close-none, none_asks, one_asks}
use Rattle.httparse.specs.Spans.{header_bytes}
use Rattle.http_frames.proofs.framing.closes.Goals as goal

pub loop-header-init : goal.loop-header-init
loop-header-init c = asks_to_close-none

pub returns-then-asks : goal.returns-then-asks
returns-then-asks c = sym (one_asks (header_bytes c.args.buf.now) c.args.headers.now c.loop-header.header-index _ c.loop-header-test.true
    (sym c.asks.ensures ∙ c.if-asks.true))

pub loop-header-preserved : goal.loop-header-preserved
loop-header-preserved c = none_asks (header_bytes c.args.buf.now) c.args.headers.now c.loop-header.header-index _ c.loop-header-test.true
    c.loop-header.invariant (sym c.asks.ensures ∙ c.if-asks.false)
