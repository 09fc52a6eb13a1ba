-- The text of a number is read as that number, and is what is written of it.
use Rattle.std.proofs.Common.{◌≡◌, ◌∙◌, ap, sym, ℕ, List, true, false, Result, Ok, Some, eqb}
use Rattle.std.specs.Fmt.{decimal}
use Rattle.std.specs.Cmp.Lexicographic.{pointwise}
use Rattle.std.proofs.lemmas.Fmt.{parse-decimal}
use Rattle.std.proofs.lemmas.Slice.Eq.{bytes_eq-Decides}
use Rattle.vnfm_base.proofs.decimal.whole_number.Goals as goal

same_number : {E : Type 0} (r : Result ℕ E) (m n : ℕ) → r ≡ Ok m → r ≡ Ok n → m ≡ n
same_number r m n e f = cc

is_written : (a b : List ℕ) → pointwise eqb a b ≡ false → a ≡ b → ⊥
is_written a b other e = let same : pointwise eqb a b ≡ true = (bytes_eq-Decides a b).1 e in cc

pub returns-then-eq-clause-read : goal.returns-then-eq-clause-read
returns-then-eq-clause-read c = λ k small is.
    let reads = parse-decimal 64 k c.args.digits.now c.parse.result small small is c.parse.ensures.value.0 in
    ap Some (same_number c.parse.result c.in-Ok.number k c.in-Ok.is reads)

pub returns-else-eq-clause-read : goal.returns-else-eq-clause-read
returns-else-eq-clause-read c = λ k small is.
    let reads = parse-decimal 64 k c.args.digits.now c.parse.result small small is c.parse.ensures.value.0 in
    absurd (is_written c.format.result.now c.args.digits.now (sym c.eq.ensures ∙ c.if-eq.false)
    (c.format.ensures.text ∙ ap decimal (same_number c.parse.result c.in-Ok.number k c.in-Ok.is reads) ∙ sym is))

pub returns-in-Err-clause-read : goal.returns-in-Err-clause-read
returns-in-Err-clause-read c = λ k small is.
    let reads = parse-decimal 64 k c.args.digits.now c.parse.result small small is c.parse.ensures.value.0 in cc
