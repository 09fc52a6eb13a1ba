use Rattle.std.proofs.Common.{map, take}
use Rattle.httparse.specs.Spans.{header_bytes}
use Rattle.http_frames.specs.Framing.{values_of}
use Rattle.http_frames.specs.Answers.{HoldsValues}
use Rattle.http_frames.proofs.framing.values_named.Given as goal

abbrev pub invariant-loop-header : goal.invariant-loop-header
invariant-loop-header l = HoldsValues l.buf l.found (values_of l.name (map (header_bytes l.buf) (take l.header-index l.headers)))
