-- A name has at most 510 digits, two for each byte.
use Rattle.std.proofs.Common.{◌≡◌, ap, suc, ◌≤◌, length, arith}
use Rattle.hex.specs.Hex.{encode_lower, lower_digits}
use Rattle.hex.proofs.HexLemmas.{length-encode_with}
use Rattle.vim_wire.proofs.fields.name.Goals as goal

pub returns-then-digits-clause-again : goal.returns-then-digits-clause-again
returns-then-digits-clause-again c = λ n h e.
    let digits = length-encode_with lower_digits n in
    let len : length c.args.field.now ≡ suc (length (encode_lower n)) = ap length e in
    let short : length n ≤ 255 = h.short in
    absurd (omega (arith, digits, len, short))

pub returns-then-digits-ne0-clause-again : goal.returns-then-digits-ne0-clause-again
returns-then-digits-ne0-clause-again c = λ n h e.
    let digits = length-encode_with lower_digits n in
    let len : length c.args.field.now ≡ suc (length (encode_lower n)) = ap length e in
    absurd (omega (arith, digits, len))
