use Rattle.std.proofs.Common.{List, ℕ, ◌++◌, ◌+◌, take, drop, sym, subst, arith, append-nil}
use Rattle.std.proofs.lemmas.List.{take_all}
use Rattle.httparse.specs.Grammar.{NeverHasChunkLine}
use Rattle.http_frames.specs.Lines.{IsSizeFront, IsSizeLine}
use Rattle.http_frames.proofs.SizeLineLaws.{one_byte_more, passed_whole, never_grows}
use Rattle.http_frames.proofs.lines.SizeLine.read.Goals as goal

pub loop-place-init : goal.loop-place-init
loop-place-init c = λ front is. subst (λ (x : List ℕ). IsSizeFront x c.args.self) (sym (append-nil front)) is

pub with-requires : goal.with-requires
with-requires c = (c.requires.0 ++ take c.loop-place.place c.args.bytes.now, c.loop-place.invariant c.requires.0 c.requires.1)

pub returns-in-Whole : goal.returns-in-Whole
returns-in-Whole c = λ front is.
    let bytes = c.args.bytes.now in
    let n = c.loop-place.place in
    let line = c.in-Whole.ensures (front ++ take n bytes) (c.loop-place.invariant front is) in (
      front ++ take (n + 1) bytes,
      subst (λ (x : List ℕ). IsSizeLine x c.in-Whole.size) (one_byte_more front bytes n (omega arith)) line,
      passed_whole front bytes (n + 1),
      omega arith,
      omega arith,
    )

pub returns-in-Broken : goal.returns-in-Broken
returns-in-Broken c = λ front is.
    let bytes = c.args.bytes.now in
    let n = c.loop-place.place in
    let never = subst (λ (x : List ℕ). NeverHasChunkLine x) (one_byte_more front bytes n (omega arith))
    (c.in-Broken.ensures (front ++ take n bytes) (c.loop-place.invariant front is)) in
    subst (λ (x : List ℕ). NeverHasChunkLine x) (sym (passed_whole front bytes (n + 1)))
    (never_grows (front ++ take (n + 1) bytes) (drop (n + 1) bytes) never)

pub loop-place-preserved : goal.loop-place-preserved
loop-place-preserved c = λ front is.
    subst (λ (x : List ℕ). IsSizeFront x c.in-Open.longer) (one_byte_more front c.args.bytes.now c.loop-place.place (omega arith))
    (c.in-Open.ensures (front ++ take c.loop-place.place c.args.bytes.now) (c.loop-place.invariant front is))

pub returns : goal.returns
returns c = λ front is.
    subst (λ (x : List ℕ). IsSizeFront (front ++ x) c.loop-place.line) (take_all c.loop-place.place c.args.bytes.now (omega arith))
    (c.loop-place.invariant front is)
