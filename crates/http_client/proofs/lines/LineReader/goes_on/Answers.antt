use Rattle.std.proofs.Common.{List, ℕ, take, drop, subst, inl, inr, arith}
use Rattle.std.proofs.lemmas.List.{take-append-drop}
use Rattle.httparse.specs.Grammar.{HasNoResponse, MayBecomeResponse}
use Rattle.http_client.proofs.LineLaws.{goes_on}
use Rattle.http_client.proofs.lines.LineReader.goes_on.Goals as goal

pub returns-in-Ok-Partial-clause-goes_on : goal.returns-in-Ok-Partial-clause-goes_on
returns-in-Ok-Partial-clause-goes_on c = λ yes ended.
    let none = rw c.in-Ok-Partial.field-0-is at c.in-Ok-Partial.ensures.partial in
    let may = rw c.in-Ok-Partial.field-0-is at c.in-Ok-Partial.ensures.unfinished in
    let p = c.args.self.now.passed in
    let bytes = c.args.bytes.now in
    elim c.requires.1 [
      | inl nothing ↦ absurd (c.if-self-eq0.false nothing)
      | inr lines ↦ let g = goes_on (take p bytes) (drop p bytes) lines none may in
          inl (
            omega arith,
            subst (λ (x : List ℕ). HasNoResponse x) (take-append-drop p bytes) g.0,
            subst (λ (x : List ℕ). MayBecomeResponse x) (take-append-drop p bytes) g.1,
          )
    ]
