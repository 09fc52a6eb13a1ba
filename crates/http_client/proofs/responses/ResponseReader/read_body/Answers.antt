use Rattle.std.proofs.Common.{◌≡◌, ◌<◌, ◌≤◌, length, drop, sym, ap, ◌∙◌, subst, arith}
use Rattle.http_frames.specs.declared.TheConstants.{BODY_BYTES}
use Rattle.http_frames.specs.declared.framing.Frame.{Frame}
use Rattle.http_frames.specs.Heads.{frame_as}
use Rattle.http_client.specs.Responses.{BreaksBody, PassesLimit}
use Rattle.http_client.proofs.ReadingLaws.{head_there, length_fits, says_bad, says_big}
use Rattle.http_client.proofs.responses.ResponseReader.read_body.Goals as goal

pub returns-in-Sized-2-clause-is : goal.returns-in-Sized-2-clause-is
returns-in-Sized-2-clause-is c =
    let there = head_there _ _ c.args.parts _ c.requires.head c.requires.read.last in
    let tail : c.rest-tail.result.now ≡ drop c.args.parts.len (drop c.args.self.now.passed c.args.bytes.now) =
    c.rest-tail.ensures ∙ ap (drop c.args.parts.len) c.rest-left.ensures in
    let over : c.in-Sized-2.length < length (drop c.args.parts.len (drop c.args.self.now.passed c.args.bytes.now)) =
    omega (arith, c.if-tail-length-2.true, ap length tail) in
    says_bad c.args.ended c.args.bytes.now c.args.self.now c.args.parts c.requires.read there.0
    (subst (λ (f : Frame). BreaksBody f (drop c.args.parts.len (drop c.args.self.now.passed c.args.bytes.now)))
    (sym (ap frame_as c.in-Sized-2.is)) over)

pub returns-in-Empty-clause-is : goal.returns-in-Empty-clause-is
returns-in-Empty-clause-is c =
    let there = head_there _ _ c.args.parts _ c.requires.head c.requires.read.last in
    let tail : c.rest-tail.result.now ≡ drop c.args.parts.len (drop c.args.self.now.passed c.args.bytes.now) =
    c.rest-tail.ensures ∙ ap (drop c.args.parts.len) c.rest-left.ensures in
    let over : BODY_BYTES < length (drop c.args.parts.len (drop c.args.self.now.passed c.args.bytes.now)) =
    omega (arith, c.if-tail-gt-BODY_BYTES.true, ap length tail) in
    says_big c.args.ended c.args.bytes.now c.args.self.now c.args.parts c.requires.read there.0
    (subst (λ (f : Frame). PassesLimit f (drop c.args.parts.len (drop c.args.self.now.passed c.args.bytes.now)))
    (sym (ap frame_as c.in-Empty.is)) over)

pub hear-requires-clause-fits : goal.hear-requires-clause-fits
hear-requires-clause-fits c =
    let there = head_there _ _ c.args.parts _ c.requires.head c.requires.read.last in
    let fits : c.in-Sized-2.length ≤ BODY_BYTES = length_fits _ c.args.parts c.in-Sized-2.length there.0 (ap frame_as c.in-Sized-2.is) in
    omega (arith, fits, c.if-tail-length-2.false)
