use Rattle.std.proofs.Common.{◌≡◌, ◌∙◌, sym, refl, take, drop, replicate, arith}
use Rattle.std.proofs.lemmas.Bool.Decides.{Decides-eqb}
use Rattle.std.proofs.lemmas.Slice.Eq.{slice_eq-Decides}
use Rattle.std.proofs.Math.Facts.{Fits-lt-pow}
use Rattle.old_journal.proofs.HeaderLemmas.{name, rest_from_parts, parts_from_rest}
use Rattle.journal_core.proofs.HeaderLemmas.{not_false, not_true}
use Rattle.old_journal.proofs.header.is_rest_of_made.Goals as goal

pub returns-then-front-ne33 : goal.returns-then-front-ne33
returns-then-front-ne33 c = (
  λ h. cc,
  λ rest. absurd (let parts = parts_from_rest rest.0 c.args.front.now rest.1 in
      omega (arith, parts.0)),
)

pub returns-then-ne : goal.returns-then-ne
returns-then-ne c = (
  λ h. cc,
  λ rest. absurd (
      let d = slice_eq-Decides Decides-eqb (take 8 (drop 1 c.args.front.now)) name _ refl in
      not_true _ (sym c.ne.ensures ∙ c.if-ne.true) (d.1 (parts_from_rest rest.0 c.args.front.now rest.1).1)),
)

pub returns : goal.returns
returns c =
    let d = slice_eq-Decides Decides-eqb (take 20 (drop 13 c.args.front.now)) (replicate 20 0) c.eq.result c.eq.ensures
    in
    let e = slice_eq-Decides Decides-eqb (take 8 (drop 1 c.args.front.now)) name _ refl in
    let is : take 8 (drop 1 c.args.front.now) ≡ name = e.0 (not_false _ (sym c.ne.ensures ∙ c.if-ne.false)) in (
      λ t. rest_from_parts c.args.front.now (λ i. Fits-lt-pow (c.type_inv.front i)) c.if-front-ne33.false is (d.0 t),
      λ rest. let parts = parts_from_rest rest.0 c.args.front.now rest.1 in d.1 parts.2,
    )
