use Rattle.std.proofs.Common.{◌<◌, ◌≤◌, ℕ, List, length, take, drop, sym, ap, ◌∙◌, subst, inl, inr, arith}
use Rattle.std.proofs.lemmas.List.{take_all}
use Rattle.http_frames.specs.declared.TheConstants.{CHUNKED_BYTES}
use Rattle.http_frames.specs.declared.framing.Frame.{Frame}
use Rattle.http_frames.specs.declared.chunks.Decoded.TheVariants as decoded
use Rattle.http_frames.specs.Heads.{frame_as}
use Rattle.http_frames.specs.Answers.{ChunksCut}
use Rattle.http_frames.specs.Steps.{HasDecoded, DecodedIs}
use Rattle.http_client.specs.Responses.{HoldsBody, CutsBody, BreaksBody, PassesLimit}
use Rattle.http_client.specs.Reading.{IsHeard}
use Rattle.http_client.proofs.ReadingLaws.{head_there, keeps, says_heard, says_cut, says_bad, says_big, chunks_held, chunks_behind}
use Rattle.http_client.proofs.responses.ResponseReader.read_chunks.Goals as goal

pub decode-requires : goal.decode-requires
decode-requires c =
    let there = head_there _ _ c.args.parts _ c.requires.head c.requires.read.last in
    let window = c.front-window.ensures ∙ ap (λ x. take CHUNKED_BYTES x)
    (c.rest-tail.ensures ∙ ap (drop c.args.parts.len) c.rest-left.ensures) in
    subst (λ (x : List ℕ). HasDecoded x c.args.self.now.decoder) (sym window) there.1

pub returns-in-Ok-Whole-clause-is : goal.returns-in-Ok-Whole-clause-is
returns-in-Ok-Whole-clause-is c =
    let there = head_there _ _ c.args.parts _ c.requires.head c.requires.read.last in
    let left : List ℕ = drop c.args.self.now.passed c.args.bytes.now in
    let tail = c.rest-tail.ensures ∙ ap (drop c.args.parts.len) c.rest-left.ensures in
    let window = c.front-window.ensures ∙ ap (λ x. take CHUNKED_BYTES x) tail in
    let body : List ℕ = c.decode.new.self.body.items in
    let v = subst (λ (x : List ℕ). DecodedIs x body (decoded.Whole c.in-Ok-Whole.end)) window
    (rw c.in-Ok-Whole.field-0-is at c.in-Ok-Whole.ensures.verdict) in
    let held = chunks_held c.args.ended (drop c.args.parts.len left) body c.in-Ok-Whole.end v (c.if-end-tail.true ∙ ap length tail) in
    let holds = subst (λ (f : Frame). HoldsBody c.args.ended f (drop c.args.parts.len left) body)
    (sym (ap frame_as c.requires.chunked)) held in
    let heard = subst (λ (x : List ℕ). IsHeard x c.args.parts body c.hear.new.heard c.hear.result) c.rest-left.ensures
    (subst (λ (x : List ℕ). IsHeard c.rest-left.result.now c.args.parts x c.hear.new.heard c.hear.result) c.deref.ensures.value
    c.hear.ensures) in
    says_heard c.args.ended c.args.bytes.now c.args.self.now c.args.parts body c.hear.new.heard c.hear.result c.requires.read there.0 holds
    heard

pub returns-in-Ok-Whole-2-clause-is : goal.returns-in-Ok-Whole-2-clause-is
returns-in-Ok-Whole-2-clause-is c =
    let there = head_there _ _ c.args.parts _ c.requires.head c.requires.read.last in
    let left : List ℕ = drop c.args.self.now.passed c.args.bytes.now in
    let tail = c.rest-tail.ensures ∙ ap (drop c.args.parts.len) c.rest-left.ensures in
    let window = c.front-window.ensures ∙ ap (λ x. take CHUNKED_BYTES x) tail in
    let v = subst (λ (x : List ℕ). DecodedIs x c.decode.new.self.body.items (decoded.Whole c.in-Ok-Whole.end)) window
    (rw c.in-Ok-Whole.field-0-is at c.in-Ok-Whole.ensures.verdict) in
    let behind = chunks_behind (drop c.args.parts.len left) c.decode.new.self.body.items c.in-Ok-Whole.end v
    (λ e. c.if-end-tail.false (e ∙ sym (ap length tail))) in
    says_bad c.args.ended c.args.bytes.now c.args.self.now c.args.parts c.requires.read there.0
    (subst (λ (f : Frame). BreaksBody f (drop c.args.parts.len left)) (sym (ap frame_as c.requires.chunked)) (inr behind))

pub returns-in-Ok-More-clause-is : goal.returns-in-Ok-More-clause-is
returns-in-Ok-More-clause-is c =
    let there = head_there _ _ c.args.parts _ c.requires.head c.requires.read.last in
    let left : List ℕ = drop c.args.self.now.passed c.args.bytes.now in
    let tail = c.rest-tail.ensures ∙ ap (drop c.args.parts.len) c.rest-left.ensures in
    let window = c.front-window.ensures ∙ ap (λ x. take CHUNKED_BYTES x) tail in
    let v = subst (λ (x : List ℕ). DecodedIs x c.decode.new.self.body.items decoded.More) window
    (rw c.in-Ok-More.field-0-is at c.in-Ok-More.ensures.verdict) in
    let over : CHUNKED_BYTES < length (drop c.args.parts.len left) = omega (arith, c.if-tail-gt-CHUNKED_BYTES.true, ap length tail) in
    says_big c.args.ended c.args.bytes.now c.args.self.now c.args.parts c.requires.read there.0
    (subst (λ (f : Frame). PassesLimit f (drop c.args.parts.len left)) (sym (ap frame_as c.requires.chunked)) (inr (over, v)))

pub returns-in-Ok-More-2-clause-is : goal.returns-in-Ok-More-2-clause-is
returns-in-Ok-More-2-clause-is c =
    let there = head_there _ _ c.args.parts _ c.requires.head c.requires.read.last in
    let left : List ℕ = drop c.args.self.now.passed c.args.bytes.now in
    let tail = c.rest-tail.ensures ∙ ap (drop c.args.parts.len) c.rest-left.ensures in
    let window = c.front-window.ensures ∙ ap (λ x. take CHUNKED_BYTES x) tail in
    let v = subst (λ (x : List ℕ). DecodedIs x c.decode.new.self.body.items decoded.More) window
    (rw c.in-Ok-More.field-0-is at c.in-Ok-More.ensures.verdict) in
    let short : length (drop c.args.parts.len left) ≤ CHUNKED_BYTES = omega (arith, c.if-tail-gt-CHUNKED_BYTES.false, ap length tail) in
    says_cut c.args.ended c.args.bytes.now c.args.self.now c.args.parts c.requires.read there.0
    (subst (λ (f : Frame). CutsBody c.args.ended f (drop c.args.parts.len left)) (sym (ap frame_as c.requires.chunked))
    (short, subst (ChunksCut 0) (take_all CHUNKED_BYTES (drop c.args.parts.len left) short) v))

pub returns-in-Ok-Malformed-clause-is : goal.returns-in-Ok-Malformed-clause-is
returns-in-Ok-Malformed-clause-is c =
    let there = head_there _ _ c.args.parts _ c.requires.head c.requires.read.last in
    let left : List ℕ = drop c.args.self.now.passed c.args.bytes.now in
    let window = c.front-window.ensures ∙ ap (λ x. take CHUNKED_BYTES x)
    (c.rest-tail.ensures ∙ ap (drop c.args.parts.len) c.rest-left.ensures) in
    let v = subst (λ (x : List ℕ). DecodedIs x c.decode.new.self.body.items decoded.Malformed) window
    (rw c.in-Ok-Malformed.field-0-is at c.in-Ok-Malformed.ensures.verdict) in
    says_bad c.args.ended c.args.bytes.now c.args.self.now c.args.parts c.requires.read there.0
    (subst (λ (f : Frame). BreaksBody f (drop c.args.parts.len left)) (sym (ap frame_as c.requires.chunked)) (inl v))

pub returns-in-Ok-TooLarge-clause-is : goal.returns-in-Ok-TooLarge-clause-is
returns-in-Ok-TooLarge-clause-is c =
    let there = head_there _ _ c.args.parts _ c.requires.head c.requires.read.last in
    let left : List ℕ = drop c.args.self.now.passed c.args.bytes.now in
    let window = c.front-window.ensures ∙ ap (λ x. take CHUNKED_BYTES x)
    (c.rest-tail.ensures ∙ ap (drop c.args.parts.len) c.rest-left.ensures) in
    let v = subst (λ (x : List ℕ). DecodedIs x c.decode.new.self.body.items decoded.TooLarge) window
    (rw c.in-Ok-TooLarge.field-0-is at c.in-Ok-TooLarge.ensures.verdict) in
    says_big c.args.ended c.args.bytes.now c.args.self.now c.args.parts c.requires.read there.0
    (subst (λ (f : Frame). PassesLimit f (drop c.args.parts.len left)) (sym (ap frame_as c.requires.chunked)) (inl v))

pub returns-in-Ok-Whole-2-clause-kept : goal.returns-in-Ok-Whole-2-clause-kept
returns-in-Ok-Whole-2-clause-kept c =
    let x = c.requires.read in
    let there = head_there _ _ c.args.parts _ c.requires.head x.last in
    let window = c.front-window.ensures ∙ ap (λ y. take CHUNKED_BYTES y)
    (c.rest-tail.ensures ∙ ap (drop c.args.parts.len) c.rest-left.ensures) in
    let d = subst (λ (y : List ℕ). HasDecoded y c.decode.new.self) window c.in-Ok-Whole.ensures.kept in
    record {
      within = x.within;
      interims = x.interims;
      passed = x.passed;
      last =
          keeps _ _ c.args.parts c.decode.new.self c.requires.head there.0 d;
      lines = x.lines;
    }

pub returns-in-Ok-More-clause-kept : goal.returns-in-Ok-More-clause-kept
returns-in-Ok-More-clause-kept c =
    let x = c.requires.read in
    let there = head_there _ _ c.args.parts _ c.requires.head x.last in
    let window = c.front-window.ensures ∙ ap (λ y. take CHUNKED_BYTES y)
    (c.rest-tail.ensures ∙ ap (drop c.args.parts.len) c.rest-left.ensures) in
    let d = subst (λ (y : List ℕ). HasDecoded y c.decode.new.self) window c.in-Ok-More.ensures.kept in
    record {
      within = x.within;
      interims = x.interims;
      passed = x.passed;
      last =
          keeps _ _ c.args.parts c.decode.new.self c.requires.head there.0 d;
      lines = x.lines;
    }

pub returns-in-Ok-More-2-clause-kept : goal.returns-in-Ok-More-2-clause-kept
returns-in-Ok-More-2-clause-kept c =
    let x = c.requires.read in
    let there = head_there _ _ c.args.parts _ c.requires.head x.last in
    let window = c.front-window.ensures ∙ ap (λ y. take CHUNKED_BYTES y)
    (c.rest-tail.ensures ∙ ap (drop c.args.parts.len) c.rest-left.ensures) in
    let d = subst (λ (y : List ℕ). HasDecoded y c.decode.new.self) window c.in-Ok-More.ensures.kept in
    record {
      within = x.within;
      interims = x.interims;
      passed = x.passed;
      last =
          keeps _ _ c.args.parts c.decode.new.self c.requires.head there.0 d;
      lines = x.lines;
    }
