use Rattle.std.proofs.Common.{◌≡◌, ◌∙◌, ap, sym, ℕ, length, Some, arith}
use Rattle.std.proofs.lemmas.Bool.{false≢true}
use Rattle.old_journal.specs.Back.{FitsAt}
use Rattle.old_journal.proofs.BackLemmas.{head_gate, head_size}
use Rattle.old_journal.proofs.back.size_of.Goals as goal

pub returns-then-head-ne1-clause-size : goal.returns-then-head-ne1-clause-size
returns-then-head-ne1-clause-size c = λ bytes rest one is whole. absurd (c.if-head-ne1.true
    (head_gate c.args.head bytes rest is))

pub returns-then-fits_at-clause-size : goal.returns-then-fits_at-clause-size
returns-then-fits_at-clause-size c = λ bytes rest one is whole.
    ap (λ (v : ℕ). Some v) (c.from_be_bytes-size.ensures ∙ head_size c.args.head bytes rest one is)

pub returns-else-fits_at-clause-size : goal.returns-else-fits_at-clause-size
returns-else-fits_at-clause-size c = λ bytes rest one is whole.
    let n : c.from_be_bytes-size.result ≡ length bytes = c.from_be_bytes-size.ensures
    ∙ head_size c.args.head bytes rest one is in
    let fits : FitsAt c.args.place c.args.end c.from_be_bytes-size.result =
    record { some = omega (arith, one.some); fits = omega (arith, one.fits); whole = omega arith } in
    absurd (false≢true (sym c.if-fits_at.false ∙ c.fits_at.ensures.1 fits))
