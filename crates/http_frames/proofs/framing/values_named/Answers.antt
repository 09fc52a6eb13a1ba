use Rattle.httparse.specs.Spans.{header_bytes}
use Rattle.http_frames.proofs.FieldLaws.{values_of-none, holds_more}
use Rattle.http_frames.proofs.framing.values_named.Goals as goal

pub loop-header-init : goal.loop-header-init
loop-header-init c = values_of-none _

pub loop-header-preserved : goal.loop-header-preserved
loop-header-preserved c = holds_more _ _ _ (header_bytes c.args.buf.now) c.args.headers.now c.loop-header.header-index _
    c.loop-header-test.true
    (c.with-found.ensures _ c.loop-header.invariant)
