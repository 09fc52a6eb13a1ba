use Rattle.std.proofs.Common.{List, ℕ, ◌++◌, take}
use Rattle.http_frames.specs.Lines.{IsSizeFront}
use Rattle.http_frames.proofs.lines.SizeLine.read.Given as goal

abbrev pub invariant-loop-place : goal.invariant-loop-place
invariant-loop-place l = (front : List ℕ) → IsSizeFront front l.fn.self → IsSizeFront (front ++ take l.place l.bytes) l.line
