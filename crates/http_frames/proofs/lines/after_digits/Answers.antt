use Rattle.std.proofs.Common.{List, ℕ, [], ◌∷◌, ◌++◌, sym, subst, arith, append-nil}
use Rattle.http_frames.specs.Lines.{GrownIs}
use Rattle.http_frames.proofs.SizeLineLaws.{digit_fits, never_so_long, more_digits, never_begins, no_blanks}
use Rattle.http_frames.proofs.lines.after_digits.Goals as goal

pub overflow_mul-result : goal.overflow_mul-result
overflow_mul-result c = omega (arith, digit_fits _ _ _ 0 c.requires.1 c.if-count-eq-SIZE_DIGITS.false (omega arith))

pub overflow_add-result-in-Some-2 : goal.overflow_add-result-in-Some-2
overflow_add-result-in-Some-2 c = omega (
  arith,
  digit_fits _ _ _ c.in-Some.field-0 c.requires.1 c.if-count-eq-SIZE_DIGITS.false
      c.in-Some.ensures.value.1,
)

pub returns-in-Some : goal.returns-in-Some
returns-in-Some c = λ digits a. never_so_long digits _ _ _ a c.if-count-eq-SIZE_DIGITS.true (sym c.in-Some.ensures.found)

pub returns-in-Some-2 : goal.returns-in-Some-2
returns-in-Some-2 c = λ digits a.
    more_digits digits _ _ _ _ a c.if-count-eq-SIZE_DIGITS.false (sym c.in-Some.ensures.found) c.in-Some.ensures.value.0
    c.in-Some.ensures.value.1

pub returns-in-None : goal.returns-in-None
returns-in-None c = λ digits a. never_begins digits _ _ _ a c.if-count-eq0.true (sym c.in-None.ensures.found)

pub returns-in-None-2 : goal.returns-in-None-2
returns-in-None-2 c = λ digits a.
    subst (λ (x : List ℕ). GrownIs (x ++ c.args.byte ∷ []) c.after_blanks.result) (append-nil digits)
    (c.after_blanks.ensures digits [] (no_blanks digits _ _ a c.if-count-eq0.false) (sym c.in-None-2.ensures.found))
