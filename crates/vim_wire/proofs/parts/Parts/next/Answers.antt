-- The first separator ends the first part.
use Rattle.std.proofs.Common.{◌∙◌, ap, sym, arith}
use Rattle.vim_wire.specs.Parts.{parts_left}
use Rattle.vim_wire.proofs.PartLaws.{cut_at, parts_of-whole}
use Rattle.vim_wire.proofs.parts.Parts.next.Goals as goal

pub returns-in-Some : goal.returns-in-Some
returns-in-Some c =
    let found = c.in-Some.ensures {u = tt} in
    sym c.self.view_is ∙ ap (parts_left c.self.inside.separator) (c.in_ok-rest.was {u = tt})
    ∙ cut_at c.self.inside.separator c.in_ok-rest.rest.now c.in-Some.at found.0.high found.1
    (λ k below. found.0.before k (omega arith) below)

pub returns-in-None : goal.returns-in-None
returns-in-None c =
    sym c.self.view_is ∙ ap (parts_left c.self.inside.separator) (c.in_ok-rest.was {u = tt})
    ∙ parts_of-whole c.self.inside.separator c.in_ok-rest.rest.now (λ k below. c.in-None.ensures {u = tt} k (omega arith) below)
