-- The digits of a name decode to its bytes, which are written as these.
use Rattle.std.proofs.Common.{◌≡◌, ◌∙◌, ap, sym, subst, ℕ, List, length, true, false, Option, Some, None, is_err}
use Rattle.std.specs.Prelude.{IsSome, IfSome}
use Rattle.hex.specs.Hex.{encode_lower}
use Rattle.vnfm_base.specs.Text.{IsName}
use Rattle.vim_wire.proofs.FieldLaws.{decodes}
use Rattle.vim_wire.proofs.fields.name_in.Goals as goal

named : (r : Option (List ℕ)) (bytes n : List ℕ) → (IsName bytes → IsSome r) → IfSome r (λ m. m ≡ bytes) → bytes ≡ n → IsName n → r ≡ Some n
named None bytes n some is e h = let P : List ℕ → Type 0 = IsName in let other : false ≡ true = some (subst P (sym e) h) in cc
named (Some m) bytes n some is e h = ap Some (is ∙ e)

pub returns-then-is_err-clause-again : goal.returns-then-is_err-clause-again
returns-then-is_err-clause-again c = λ n h e.
    let got = rw (decodes c.args.digits.now (length c.args.bytes.now) n h c.requires.length e) at c.decode_to_slice.ensures.value in
    let not : is_err c.decode_to_slice.result ≡ false = ap is_err got.0 in
    absurd cc

pub returns-then-is_encoded-clause-again : goal.returns-then-is_encoded-clause-again
returns-then-is_encoded-clause-again c = λ n h e.
    let got = rw (decodes c.args.digits.now (length c.args.bytes.now) n h c.requires.length e) at c.decode_to_slice.ensures.value in
    named c.of.result c.decode_to_slice.new.out n c.of.ensures.name.1 c.of.ensures.value got.1 h

pub returns-else-is_encoded-clause-again : goal.returns-else-is_encoded-clause-again
returns-else-is_encoded-clause-again c = λ n h e.
    let got = rw (decodes c.args.digits.now (length c.args.bytes.now) n h c.requires.length e) at c.decode_to_slice.ensures.value in
    let yes = c.is_encoded.ensures.1 (e ∙ ap encode_lower (sym got.1)) in
    absurd cc
