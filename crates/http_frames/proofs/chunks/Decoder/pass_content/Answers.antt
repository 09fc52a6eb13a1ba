use Rattle.std.proofs.Common.{◌+◌, ◌++◌, List, ℕ, [], length, take, drop, sym, ap, ◌∙◌, subst, arith}
use Rattle.std.proofs.lemmas.Result.{err_from_is_err_and}
use Rattle.http_frames.specs.Chunks.{BeginsCrLf}
use Rattle.http_frames.specs.Answers.{HasPassed}
use Rattle.http_frames.specs.Steps.{IsAt, HasMoreChunks}
use Rattle.http_frames.specs.declared.chunks.Place.{Place}
use Rattle.http_frames.proofs.DecodeLaws.{wrong_end, content_cut, passed_chunk, more_chunks}
use Rattle.http_frames.proofs.chunks.Decoder.pass_content.Goals as goal

pub returns-then-not-ends_in_crlf-clause-stop : goal.returns-then-not-ends_in_crlf-clause-stop
returns-then-not-ends_in_crlf-clause-stop c =
    let at = subst (λ (p : Place). IsAt c.args.bytes.now c.args.self.now.at c.args.self.now.body.items p) c.requires.there
    c.requires.decoded in
    wrong_end c.args.bytes.now c.args.self.now.at c.args.self.now.body.items c.args.size at
    (λ b. absurd (cc (
      c.ends_in_crlf.ensures.1 (subst (λ x. BeginsCrLf (drop c.args.size x)) (sym c.rest-left.ensures) b),
      c.if-not-ends_in_crlf.true,
    )))

pub returns-then-left-size-clause-stop : goal.returns-then-left-size-clause-stop
returns-then-left-size-clause-stop c =
    let at = subst (λ (p : Place). IsAt c.args.bytes.now c.args.self.now.at c.args.self.now.body.items p) c.requires.there
    c.requires.decoded in
    content_cut c.args.bytes.now c.args.self.now.at c.args.self.now.body.items c.args.size at
    (subst (λ x. BeginsCrLf (drop c.args.size x)) c.rest-left.ensures (c.ends_in_crlf.ensures.0 c.if-not-ends_in_crlf.false))
    (omega (arith, c.if-left-size.true, ap length c.rest-left.ensures))

pub returns-in_err-extend_from_slice-clause-memory : goal.returns-in_err-extend_from_slice-clause-memory
returns-in_err-extend_from_slice-clause-memory c =
    let at = subst (λ (p : Place). IsAt c.args.bytes.now c.args.self.now.at c.args.self.now.body.items p) c.requires.there
    c.requires.decoded in
    let more = more_chunks c.args.bytes.now c.args.self.now.at c.args.self.now.body.items c.args.size at
    (subst (λ x. BeginsCrLf (drop c.args.size x)) c.rest-left.ensures (c.ends_in_crlf.ensures.0 c.if-not-ends_in_crlf.false))
    (omega (arith, c.if-left-size.false, ap length c.rest-left.ensures)) in
    let p = err_from_is_err_and c.from_residual.result c.from_residual.ensures.1 in
    rw p.1 (subst (λ (x : List ℕ). HasMoreChunks c.args.bytes.now (length x)) (sym c.in_err-extend_from_slice.ensures.items) more)

pub returns-clause-kept : goal.returns-clause-kept
returns-clause-kept c =
    let at = subst (λ (p : Place). IsAt c.args.bytes.now c.args.self.now.at c.args.self.now.body.items p) c.requires.there
    c.requires.decoded in
    let items = c.in_ok-extend_from_slice.ensures.items ∙ ap (λ x. c.args.self.now.body.items ++ take c.args.size x) c.rest-left.ensures in
    let passed = passed_chunk c.args.bytes.now c.args.self.now.at c.args.self.now.body.items c.args.size at
    (subst (λ x. BeginsCrLf (drop c.args.size x)) c.rest-left.ensures (c.ends_in_crlf.ensures.0 c.if-not-ends_in_crlf.false))
    (omega (arith, c.if-left-size.false, ap length c.rest-left.ensures)) in
    ([], subst (λ (x : List ℕ). HasPassed c.args.bytes.now (c.args.self.now.at + (c.args.size + 2)) x []) (sym items) passed, c.new.ensures)
