use Rattle.std.proofs.Common.{ap, ◌∙◌, ◌++◌, ◌∷◌, [], length, arith}
use Rattle.journal_migration.specs.Packing.{Packing}
use Rattle.journal_migration.proofs.PackLemmas.{finishes_closed, finishes_empty, on_put}
use Rattle.journal_migration.proofs.packing.Packing.finish.Goals as goal

pub returns-then-len-eq0 : goal.returns-then-len-eq0
returns-then-len-eq0 c = λ m rs has.
    let long = ap (λ (p : Packing). length p.content) c.self.view_is in
    on_put c.extend_from_slice.result c.extend_from_slice.new.self.items c.self.inside.bytes.items (0 ∷ [])
    c.extend_from_slice.ensures.items
    (λ is. finishes_empty m rs c.args.self.now _ _ has (omega (arith, long, c.len.ensures, c.if-len-eq0.true))
    (is ∙ ap (λ (p : Packing). p.bytes ++ 0 ∷ []) c.self.view_is)
    (ap (λ (p : Packing). p.unfit) c.self.view_is))

pub returns : goal.returns
returns c = λ m rs has.
    let long = ap (λ (p : Packing). length p.content) c.self.view_is in
    on_put c.extend_from_slice-2.result c.extend_from_slice-2.new.self.items c.self-2.inside.bytes.items (0 ∷ [])
    c.extend_from_slice-2.ensures.items
    (λ is. finishes_closed m rs c.args.self.now c.close.new.self _ _ has (omega (arith, long, c.self.invariant))
    (omega (arith, long, c.len.ensures, c.if-len-eq0.false))
    (c.in_ok-close.ensures.file m has.batches has.hand has.at_hand has.file)
    (is ∙ ap (λ (p : Packing). p.bytes ++ 0 ∷ []) c.self-2.view_is)
    (ap (λ (p : Packing). p.unfit) c.self-2.view_is))
