use Rattle.std.proofs.Common.{◌≡◌, false, map, take}
use Rattle.httparse.specs.Spans.{header_bytes}
use Rattle.http_frames.specs.Framing.{asks_to_close}
use Rattle.http_frames.proofs.framing.closes.Given as goal

abbrev pub invariant-loop-header : goal.invariant-loop-header
invariant-loop-header l = asks_to_close (map (header_bytes l.buf) (take l.header-index l.headers)) ≡ false
