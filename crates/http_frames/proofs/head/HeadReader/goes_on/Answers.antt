use Rattle.std.proofs.Common.{List, ℕ, take, drop, subst, inl, inr, arith}
use Rattle.std.proofs.lemmas.List.{take-append-drop}
use Rattle.httparse.specs.Grammar.{HasNoRequest, MayBecomeRequest}
use Rattle.http_frames.proofs.LineLaws.{goes_on}
use Rattle.http_frames.proofs.head.HeadReader.goes_on.Goals as goal

pub returns-in-Ok-Partial : goal.returns-in-Ok-Partial
returns-in-Ok-Partial c = λ yes.
    let none = rw c.in-Ok-Partial.field-0-is at c.in-Ok-Partial.ensures.partial in
    let may = rw c.in-Ok-Partial.field-0-is at c.in-Ok-Partial.ensures.unfinished in
    let p = c.args.self.now.passed in
    let bytes = c.args.bytes.now in
    elim c.requires.1 [
      | inl nothing ↦ absurd (c.if-self-eq0.false nothing)
      | inr lines ↦ let g = goes_on (take p bytes) (drop p bytes) lines none may in (
        subst (λ (x : List ℕ). HasNoRequest x) (take-append-drop p bytes) g.0,
        subst (λ (x : List ℕ). MayBecomeRequest x) (take-append-drop p bytes) g.1,
        omega arith,
      )
    ]
