-- The digits that are left make the number no less.
use Rattle.std.proofs.Common.{◌<◌, ◌+◌, ◌*◌, refl, sym, subst, ℕ, get_or}
use Rattle.std.specs.Char.{digit_value}
use Rattle.std.proofs.lemmas.Bool.{lt-leb}
use Rattle.vnfd_nodes.proofs.SizeLemmas.{past_limit}
use Rattle.vnfd_nodes.proofs.sizes.decimal.Goals as goal

pub returns-then-number-gt-SIZE : goal.returns-then-number-gt-SIZE
returns-then-number-gt-SIZE c =
    let Past : ℕ → Type 0 = λ v. 1152921504606846976 < v in
    let over : Past (c.loop-digit.number * 10 + digit_value (get_or c.args.digits.now c.loop-digit.digit-index 0)) =
    subst (λ d. Past (c.loop-digit.number * 10 + d)) c.digit_of.ensures.value c.if-number-gt-SIZE.true in
    let past = subst Past (sym c.loop-digit.invariant.0) (past_limit _ _ _ _ c.loop-digit-test.true over) in
    rw (lt-leb _ _ past) refl
