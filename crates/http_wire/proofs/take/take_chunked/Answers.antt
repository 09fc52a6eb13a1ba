use Rattle.std.proofs.Common.{◌≡◌, ◌+◌, ◌-◌, ◌≤◌, List, ℕ, length, drop, refl, sym, ap, ◌∙◌, subst, arith}
use Rattle.std.proofs.lemmas.List.{length-drop}
use Rattle.http_frames.specs.declared.TheConstants.{HEAD_BYTES, CHUNKED_BYTES}
use Rattle.http_frames.specs.declared.chunks.Decoded.TheVariants as decoded
use Rattle.http_frames.specs.Steps.{DecodedIs, HasDecoded, HasMoreChunks}
use Rattle.http_frames.specs.Messages.{HasNoMessage}
use Rattle.http_wire.specs.Wire.{window}
use Rattle.http_wire.proofs.IntakeLaws.{takes_none, takes_on, rose_since}
use Rattle.http_wire.proofs.TakeLaws.{head_stays, chunked_held, chunked_end_fits, chunked_breaks, chunked_overflows, chunked_goes_on}
use Rattle.http_wire.proofs.TakeLaws.{chunked_needs_more, chunked_breaks_off, chunked_has_none, window_grows, wants_to_read, wants_chunks}
use Rattle.http_wire.proofs.take.take_chunked.Goals as goal

pub looks-init : goal.looks-init
looks-init g c = (
  takes_none g.D.Door.tells c.args.intake.now,
  c.requires.head,
  c.new-decoder.ensures (window c.args.intake.now.held c.args.head),
  refl,
)

pub overflow_add-result : goal.overflow_add-result
overflow_add-result g c =
    let v = subst (λ (x : List ℕ). DecodedIs (window x c.args.head) c.decode_held.new.decoder.body.items (decoded.Whole c.in-Ok-Whole.n))
    c.held-held.ensures
    (rw c.in-Ok-Whole.field-0-is at c.in-Ok-Whole.ensures.verdict) in
    let fits : c.args.head.len + c.in-Ok-Whole.n ≤ HEAD_BYTES + CHUNKED_BYTES =
    chunked_end_fits c.looks.intake.held c.args.head c.in-Ok-Whole.n c.looks.invariant.1 v.1 in
    omega arith

pub returns-in-Ok-Whole-clause-came : goal.returns-in-Ok-Whole-clause-came
returns-in-Ok-Whole-clause-came g c =
    let v = subst (λ (x : List ℕ). DecodedIs (window x c.args.head) c.decode_held.new.decoder.body.items (decoded.Whole c.in-Ok-Whole.n))
    c.held-held.ensures
    (rw c.in-Ok-Whole.field-0-is at c.in-Ok-Whole.ensures.verdict) in
    chunked_held c.looks.intake.held c.args.head c.in-Ok-Whole.n c.decode_held.new.decoder.body.items c.looks.invariant.1 c.requires.chunked
    v

pub returns-in-Ok-Malformed-clause-came : goal.returns-in-Ok-Malformed-clause-came
returns-in-Ok-Malformed-clause-came g c = λ told.
    let v = subst (λ (x : List ℕ). DecodedIs (window x c.args.head) c.decode_held.new.decoder.body.items decoded.Malformed)
    c.held-held.ensures
    (rw c.in-Ok-Malformed.field-0-is at c.in-Ok-Malformed.ensures.verdict) in
    chunked_breaks c.looks.intake c.args.head c.looks.invariant.1 c.requires.chunked v

pub returns-in-Ok-TooLarge-clause-came : goal.returns-in-Ok-TooLarge-clause-came
returns-in-Ok-TooLarge-clause-came g c = λ told.
    let v = subst (λ (x : List ℕ). DecodedIs (window x c.args.head) c.decode_held.new.decoder.body.items decoded.TooLarge)
    c.held-held.ensures
    (rw c.in-Ok-TooLarge.field-0-is at c.in-Ok-TooLarge.ensures.verdict) in
    chunked_overflows c.looks.intake c.args.head c.looks.invariant.1 c.requires.chunked v

pub returns-then-behind-gt-CHUNKED_BYTES-clause-came : goal.returns-then-behind-gt-CHUNKED_BYTES-clause-came
returns-then-behind-gt-CHUNKED_BYTES-clause-came g c = λ told.
    let v = subst (λ (x : List ℕ). DecodedIs (window x c.args.head) c.decode_held.new.decoder.body.items decoded.More) c.held-held.ensures
    (rw c.in-Ok-More.field-0-is at c.in-Ok-More.ensures.verdict) in
    let behind : length (drop c.args.head.len c.looks.intake.held) ≡ length c.looks.intake.held - c.args.head.len =
    length-drop c.args.head.len c.looks.intake.held in
    let same : length c.held-held.result.now ≡ length c.looks.intake.held = ap length c.held-held.ensures in
    chunked_goes_on c.looks.intake c.args.head c.looks.invariant.1 c.requires.chunked (omega arith) v

pub read_on-requires-clause-needs : goal.read_on-requires-clause-needs
read_on-requires-clause-needs g c =
    let v = subst (λ (x : List ℕ). DecodedIs (window x c.args.head) c.decode_held.new.decoder.body.items decoded.More) c.held-held.ensures
    (rw c.in-Ok-More.field-0-is at c.in-Ok-More.ensures.verdict) in
    let behind : length (drop c.args.head.len c.looks.intake.held) ≡ length c.looks.intake.held - c.args.head.len =
    length-drop c.args.head.len c.looks.intake.held in
    let same : length c.held-held.result.now ≡ length c.looks.intake.held = ap length c.held-held.ensures in
    chunked_needs_more c.looks.intake.held c.args.head c.looks.invariant.1 c.requires.chunked (omega arith) v

pub returns-in-Err-read_on-clause-takes : goal.returns-in-Err-read_on-clause-takes
returns-in-Err-read_on-clause-takes g c = takes_on g.D.Door.tells c.args.intake.now c.looks.intake c.read_on.new.self c.looks.invariant.0
    c.in-Err-read_on.ensures.takes

pub looks-preserved : goal.looks-preserved
looks-preserved g c =
    let kept = subst (λ (x : List ℕ). HasDecoded (window x c.args.head) c.decode_held.new.decoder) c.held-held.ensures
    c.decode_held.ensures.kept in (
      takes_on g.D.Door.tells c.args.intake.now c.looks.intake c.read_on.new.self c.looks.invariant.0 c.in-Ok-Bytes.ensures.takes,
      head_stays g.D.Door.tells c.looks.intake c.read_on.new.self c.args.head c.in-Ok-Bytes.ensures.takes c.looks.invariant.1,
      window_grows g.D.Door.tells c.looks.intake c.read_on.new.self c.args.head c.decode_held.new.decoder c.in-Ok-Bytes.ensures.takes
          c.looks.invariant.1 kept,
      (rw c.in-Ok-Bytes.field-0-is at c.in-Ok-Bytes.ensures.came).1 ∙ c.looks.invariant.3,
    )

pub returns-in-Ok-End-clause-takes : goal.returns-in-Ok-End-clause-takes
returns-in-Ok-End-clause-takes g c = takes_on g.D.Door.tells c.args.intake.now c.looks.intake c.read_on.new.self c.looks.invariant.0
    c.in-Ok-End.ensures.takes

pub returns-in-Ok-End-clause-came : goal.returns-in-Ok-End-clause-came
returns-in-Ok-End-clause-came g c = λ told.
    let v = subst (λ (x : List ℕ). DecodedIs (window x c.args.head) c.decode_held.new.decoder.body.items decoded.More) c.held-held.ensures
    (rw c.in-Ok-More.field-0-is at c.in-Ok-More.ensures.verdict) in
    let behind : length (drop c.args.head.len c.looks.intake.held) ≡ length c.looks.intake.held - c.args.head.len =
    length-drop c.args.head.len c.looks.intake.held in
    let same : length c.held-held.result.now ≡ length c.looks.intake.held = ap length c.held-held.ensures in
    let came = rw c.in-Ok-End.field-0-is at c.in-Ok-End.ensures.came in
    chunked_breaks_off c.read_on.new.self c.looks.intake.held c.args.head c.looks.invariant.1 c.requires.chunked (omega arith) v came.0
    (came.1 told)

pub returns-in-Ok-Failed-clause-takes : goal.returns-in-Ok-Failed-clause-takes
returns-in-Ok-Failed-clause-takes g c = takes_on g.D.Door.tells c.args.intake.now c.looks.intake c.read_on.new.self c.looks.invariant.0
    c.in-Ok-Failed.ensures.takes

pub returns-in-Ok-Failed-clause-came : goal.returns-in-Ok-Failed-clause-came
returns-in-Ok-Failed-clause-came g c =
    let v = subst (λ (x : List ℕ). DecodedIs (window x c.args.head) c.decode_held.new.decoder.body.items decoded.More) c.held-held.ensures
    (rw c.in-Ok-More.field-0-is at c.in-Ok-More.ensures.verdict) in
    let behind : length (drop c.args.head.len c.looks.intake.held) ≡ length c.looks.intake.held - c.args.head.len =
    length-drop c.args.head.len c.looks.intake.held in
    let same : length c.held-held.result.now ≡ length c.looks.intake.held = ap length c.held-held.ensures in
    let came = rw c.in-Ok-Failed.field-0-is at c.in-Ok-Failed.ensures.came in (
      rose_since c.args.intake.now.counts.faults c.looks.intake.counts.faults c.read_on.new.self.counts.faults
          c.looks.invariant.0.counts.faults (ap (λ x. x.faults) came.1),
      subst (λ (x : List ℕ). HasNoMessage x) (sym came.0) (chunked_has_none c.looks.intake.held c.args.head c.looks.invariant.1
          c.requires.chunked (omega arith) v),
    )

pub read_on-requires-clause-up : goal.read_on-requires-clause-up
read_on-requires-clause-up g c = c.looks.invariant.0.counts.up ∙ c.requires.up

pub returns-in-Err-clause-came : goal.returns-in-Err-clause-came
returns-in-Err-clause-came g c =
    wants_chunks c.looks.intake.held c.args.head (length c.decode_held.new.decoder.body.items) c.looks.invariant.1 c.requires.chunked
    (subst (λ (x : List ℕ). HasMoreChunks (window x c.args.head) (length c.decode_held.new.decoder.body.items)) c.held-held.ensures
    c.in-Err.ensures.memory)

pub returns-in-Err-read_on-clause-came : goal.returns-in-Err-read_on-clause-came
returns-in-Err-read_on-clause-came g c =
    let v = subst (λ (x : List ℕ). DecodedIs (window x c.args.head) c.decode_held.new.decoder.body.items decoded.More) c.held-held.ensures
    (rw c.in-Ok-More.field-0-is at c.in-Ok-More.ensures.verdict) in
    let behind : length (drop c.args.head.len c.looks.intake.held) ≡ length c.looks.intake.held - c.args.head.len =
    length-drop c.args.head.len c.looks.intake.held in
    let same : length c.held-held.result.now ≡ length c.looks.intake.held = ap length c.held-held.ensures in
    wants_to_read c.looks.intake c.read_on.new.self c.in-Err-read_on.ensures.came
    (chunked_needs_more c.looks.intake.held c.args.head c.looks.invariant.1 c.requires.chunked (omega arith) v)

pub decode_held-requires-clause-decoded : goal.decode_held-requires-clause-decoded
decode_held-requires-clause-decoded g c =
    subst (λ (x : List ℕ). HasDecoded (window x c.args.head) c.looks.decoder) (sym c.held-held.ensures) c.looks.invariant.2
