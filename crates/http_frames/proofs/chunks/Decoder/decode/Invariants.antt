use Rattle.std.proofs.Common.{◌-◌, length}
use Rattle.http_frames.specs.Steps.{HasDecoded}
use Rattle.http_frames.proofs.chunks.Decoder.decode.Given as goal

abbrev pub invariant-loop-self : goal.invariant-loop-self
invariant-loop-self l = HasDecoded l.bytes l.self

abbrev pub decreases-loop-self : goal.decreases-loop-self
decreases-loop-self l = length l.bytes - l.self.at
