use Rattle.std.proofs.Common.{◌≡◌, ◌+◌, ◌++◌, List, ℕ, [], take, drop, refl, sym, subst, arith, length-drop}
use Rattle.http_frames.specs.Chunks.{HasNoLineFeed, IsEmptyLine, ReadsChunks}
use Rattle.http_frames.specs.Lines.{IsLineFront}
use Rattle.http_frames.specs.Steps.{IsAt}
use Rattle.http_frames.specs.declared.chunks.Place.{Place}
use Rattle.http_frames.proofs.DecodeLaws.{EndsLine, all_passed_lines, cut_behind_lines, passed_full_line, ended_by_line}
use Rattle.http_frames.proofs.DecodeLaws.{feedless_where_nowhere, line_at}
use Rattle.http_frames.proofs.chunks.Decoder.pass_trailer_line.Goals as goal

pub returns-in-None-clause-kept : goal.returns-in-None-clause-kept
returns-in-None-clause-kept c =
    let at = subst (λ (p : Place). IsAt c.args.bytes.now c.args.self.now.at c.args.self.now.body.items p) c.requires.there
    c.requires.decoded in
    let none = subst HasNoLineFeed c.rest-left.ensures (feedless_where_nowhere c.rest-left.result.now c.in-None.ensures) in (
      at.0 ++ drop c.args.self.now.at c.args.bytes.now,
      all_passed_lines c.args.bytes.now c.args.self.now.at c.args.self.now.body.items at.0 at.1 none,
      subst (λ (x : List ℕ). IsLineFront (at.0 ++ x) c.with.result) c.rest-left.ensures (c.with.ensures at.0 at.2),
    )

pub returns-in-None-clause-stop : goal.returns-in-None-clause-stop
returns-in-None-clause-stop c =
    let at = subst (λ (p : Place). IsAt c.args.bytes.now c.args.self.now.at c.args.self.now.body.items p) c.requires.there
    c.requires.decoded in
    cut_behind_lines c.args.bytes.now c.args.self.now.at c.args.self.now.body.items at.0 at.1
    (subst HasNoLineFeed c.rest-left.ensures (feedless_where_nowhere c.rest-left.result.now c.in-None.ensures))

pub returns-then-is_empty-clause-stop : goal.returns-then-is_empty-clause-stop
returns-then-is_empty-clause-stop c =
    let at = subst (λ (p : Place). IsAt c.args.bytes.now c.args.self.now.at c.args.self.now.body.items p) c.requires.there
    c.requires.decoded in
    let ends = subst (λ (x : List ℕ). EndsLine x c.in-Some.n) c.rest-left.ensures
    (line_at c.rest-left.result.now c.in-Some.n c.in-Some.ensures.0 c.in-Some.ensures.1) in
    let text = at.0 ++ take c.in-Some.n c.rest-left.result.now in
    let empty : IsEmptyLine text = (c.is_empty.ensures text (c.with-in-Some.ensures at.0 at.2)).0 c.if-is_empty.true in
    let place : c.args.self.now.at + (c.in-Some.n + 1) ≡ c.args.self.now.at + c.in-Some.n + 1 = omega arith in (
      subst (λ (n : ℕ). ReadsChunks c.args.bytes.now c.args.self.now.body.items (drop n c.args.bytes.now)) place
          (ended_by_line c.args.bytes.now c.args.self.now.at c.args.self.now.body.items at.0 c.in-Some.n at.1 ends
          (subst (λ (x : List ℕ). IsEmptyLine (at.0 ++ take c.in-Some.n x)) c.rest-left.ensures empty)),
      omega (arith, at.1.within, ends.within, length-drop c.args.self.now.at c.args.bytes.now),
      at.1.fits,
    )

pub returns-else-is_empty-clause-kept : goal.returns-else-is_empty-clause-kept
returns-else-is_empty-clause-kept c =
    let at = subst (λ (p : Place). IsAt c.args.bytes.now c.args.self.now.at c.args.self.now.body.items p) c.requires.there
    c.requires.decoded in
    let ends = subst (λ (x : List ℕ). EndsLine x c.in-Some.n) c.rest-left.ensures
    (line_at c.rest-left.result.now c.in-Some.n c.in-Some.ensures.0 c.in-Some.ensures.1) in
    let text = at.0 ++ take c.in-Some.n c.rest-left.result.now in
    let full : IsEmptyLine text → ⊥ = λ e. absurd (cc (
      (c.is_empty.ensures text (c.with-in-Some.ensures at.0 at.2)).1 e,
      c.if-is_empty.false,
    )) in (
      [],
      passed_full_line c.args.bytes.now c.args.self.now.at c.args.self.now.body.items at.0 c.in-Some.n at.1 ends
          (λ e. full (subst (λ (x : List ℕ). IsEmptyLine (at.0 ++ take c.in-Some.n x)) (sym c.rest-left.ensures) e)),
      refl,
    )
