-- The digits of a number are text.
use Rattle.std.proofs.Common.{◌≡◌, sym, subst, ℕ, List, true, false}
use Rattle.std.specs.Str.{IsUtf8}
use Rattle.vim_wire.proofs.FieldLaws.{utf8-decimal}
use Rattle.vim_wire.proofs.fields.number.Goals as goal

pub returns-in_err-digits-clause-again : goal.returns-in_err-digits-clause-again
returns-in_err-digits-clause-again c = λ n fits e.
    let P : List ℕ → Type 0 = IsUtf8 in
    let text : IsUtf8 c.args.field.now = subst P (sym e) (utf8-decimal n fits) in
    let other : false ≡ true = c.in_err-digits.ensures.text.1 text in
    absurd (different other) where
      different : false ≡ true → ⊥
      different h = cc
