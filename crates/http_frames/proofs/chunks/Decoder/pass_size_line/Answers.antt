use Rattle.std.proofs.Common.{List, ℕ, [], ◌++◌, drop, refl, arith, length-drop, subst}
use Rattle.http_frames.specs.Lines.{SizeLineIs}
use Rattle.http_frames.specs.Steps.{IsAt}
use Rattle.http_frames.specs.declared.chunks.Place.{Place}
use Rattle.http_frames.specs.declared.lines.SizeRead.TheVariants as read
use Rattle.http_frames.proofs.DecodeLaws.{all_passed, cut_in_line, bad_in_line, line_too_much, passed_size, passed_last}
use Rattle.http_frames.proofs.chunks.Decoder.pass_size_line.Goals as goal

pub returns-in-More-clause-kept : goal.returns-in-More-clause-kept
returns-in-More-clause-kept c =
    let at = subst (λ (p : Place). IsAt c.args.bytes.now c.args.self.now.at c.args.self.now.body.items p) c.requires.there
    c.requires.decoded in
    let longer = subst (λ (x : List ℕ). SizeLineIs at.0 x (read.More c.in-More.longer)) c.rest.ensures (c.in-More.ensures at.0 at.2) in (
      at.0 ++ drop c.args.self.now.at c.args.bytes.now,
      all_passed c.args.bytes.now c.args.self.now.at c.args.self.now.body.items at.0 at.1,
      longer,
    )

pub returns-in-More-clause-stop : goal.returns-in-More-clause-stop
returns-in-More-clause-stop c =
    let at = subst (λ (p : Place). IsAt c.args.bytes.now c.args.self.now.at c.args.self.now.body.items p) c.requires.there
    c.requires.decoded in
    let longer = subst (λ (x : List ℕ). SizeLineIs at.0 x (read.More c.in-More.longer)) c.rest.ensures (c.in-More.ensures at.0 at.2) in
    cut_in_line c.args.bytes.now c.args.self.now.at c.args.self.now.body.items at.0 c.in-More.longer at.1 longer

pub returns-in-Malformed-clause-stop : goal.returns-in-Malformed-clause-stop
returns-in-Malformed-clause-stop c =
    let at = subst (λ (p : Place). IsAt c.args.bytes.now c.args.self.now.at c.args.self.now.body.items p) c.requires.there
    c.requires.decoded in
    let never = subst (λ (x : List ℕ). SizeLineIs at.0 x read.Malformed) c.rest.ensures (c.in-Malformed.ensures at.0 at.2) in
    bad_in_line c.args.bytes.now c.args.self.now.at c.args.self.now.body.items at.0 at.1 never

pub overflow_add-self : goal.overflow_add-self
overflow_add-self c =
    let at = subst (λ (p : Place). IsAt c.args.bytes.now c.args.self.now.at c.args.self.now.body.items p) c.requires.there
    c.requires.decoded in
    let whole = subst (λ (x : List ℕ). SizeLineIs at.0 x (read.Whole c.in-Whole.len c.in-Whole.size)) c.rest.ensures
    (c.in-Whole.ensures at.0 at.2) in
    omega (arith, at.1.within, whole.4, length-drop c.args.self.now.at c.args.bytes.now)

pub returns-then-size-len-clause-stop : goal.returns-then-size-len-clause-stop
returns-then-size-len-clause-stop c =
    let at = subst (λ (p : Place). IsAt c.args.bytes.now c.args.self.now.at c.args.self.now.body.items p) c.requires.there
    c.requires.decoded in
    let whole = subst (λ (x : List ℕ). SizeLineIs at.0 x (read.Whole c.in-Whole.len c.in-Whole.size)) c.rest.ensures
    (c.in-Whole.ensures at.0 at.2) in
    line_too_much c.args.bytes.now c.args.self.now.at c.args.self.now.body.items at.0 whole.0 c.in-Whole.len c.in-Whole.size at.1 whole.1
    whole.2 (omega arith)

pub returns-then-size-eq0-clause-kept : goal.returns-then-size-eq0-clause-kept
returns-then-size-eq0-clause-kept c =
    let at = subst (λ (p : Place). IsAt c.args.bytes.now c.args.self.now.at c.args.self.now.body.items p) c.requires.there
    c.requires.decoded in
    let whole = subst (λ (x : List ℕ). SizeLineIs at.0 x (read.Whole c.in-Whole.len c.in-Whole.size)) c.rest.ensures
    (c.in-Whole.ensures at.0 at.2) in (
      [],
      passed_last c.args.bytes.now c.args.self.now.at c.args.self.now.body.items at.0 whole.0 c.in-Whole.len c.in-Whole.size at.1 whole.1
          whole.4 whole.2 c.if-size-eq0.true,
      refl,
    )

pub returns-then-size-eq0-clause-stop : goal.returns-then-size-eq0-clause-stop
returns-then-size-eq0-clause-stop c =
    let at = subst (λ (p : Place). IsAt c.args.bytes.now c.args.self.now.at c.args.self.now.body.items p) c.requires.there
    c.requires.decoded in
    omega (arith, (c.in-Whole.ensures at.0 at.2).3)

pub returns-else-size-eq0-clause-kept : goal.returns-else-size-eq0-clause-kept
returns-else-size-eq0-clause-kept c =
    let at = subst (λ (p : Place). IsAt c.args.bytes.now c.args.self.now.at c.args.self.now.body.items p) c.requires.there
    c.requires.decoded in
    let whole = subst (λ (x : List ℕ). SizeLineIs at.0 x (read.Whole c.in-Whole.len c.in-Whole.size)) c.rest.ensures
    (c.in-Whole.ensures at.0 at.2) in
    passed_size c.args.bytes.now c.args.self.now.at c.args.self.now.body.items at.0 whole.0 c.in-Whole.len c.in-Whole.size at.1 whole.1
    whole.4 whole.2 (omega arith) c.if-size-eq0.false

pub returns-else-size-eq0-clause-stop : goal.returns-else-size-eq0-clause-stop
returns-else-size-eq0-clause-stop c =
    let at = subst (λ (p : Place). IsAt c.args.bytes.now c.args.self.now.at c.args.self.now.body.items p) c.requires.there
    c.requires.decoded in
    omega (arith, (c.in-Whole.ensures at.0 at.2).3)
