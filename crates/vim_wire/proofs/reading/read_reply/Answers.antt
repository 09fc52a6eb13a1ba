-- The fields of a line are the parts of what stands before its line feed.
use Rattle.std.proofs.Common.{◌≡◌, ◌∙◌, ap, sym, subst, ℕ, ◌≤◌, List, length, Option, Some, Ok}
use Rattle.vim_wire.specs.Lines.{reply_fields}
use Rattle.vim_wire.proofs.LineLaws.{line-parts_of, reply_parts, reply_fits, some_or_none}
use Rattle.vim_wire.proofs.reading.read_reply.Goals as goal

pub returns-in-Some-reply_of-clause-found : goal.returns-in-Some-reply_of-clause-found
returns-in-Some-reply_of-clause-found c =
    let got = c.in-Some-reply_of.ensures.found in (
      got.0,
      line-parts_of (reply_fields c.in-Some-reply_of.reply) c.in-Some.fields.now c.args.bytes.now (sym c.of.ensures ∙ got.1)
          (c.in-Some.ensures {u = tt}).1,
    )

pub returns-in-Some-reply_of-clause-again : goal.returns-in-Some-reply_of-clause-again
returns-in-Some-reply_of-clause-again c = λ reply h e.
    let again = c.reply_of.ensures.again reply h (c.of.ensures ∙ reply_parts reply c.in-Some.fields.now c.args.bytes.now h
    (c.in-Some.ensures {u = tt}).1 e) in
    ap Ok (same c.reply_of.result _ _ c.in-Some-reply_of.is again) where
      same : {A : Type 0} (r : Option A) (x y : A) → r ≡ Some x → r ≡ Some y → x ≡ y
      same r x y e f = cc

pub returns-in-None-reply_of-clause-again : goal.returns-in-None-reply_of-clause-again
returns-in-None-reply_of-clause-again c = λ reply h e.
    let again = c.reply_of.ensures.again reply h (c.of.ensures ∙ reply_parts reply c.in-Some.fields.now c.args.bytes.now h
    (c.in-Some.ensures {u = tt}).1 e) in
    absurd (some_or_none c.reply_of.result reply c.in-None-reply_of.is again)

pub returns-in-None-clause-again : goal.returns-in-None-clause-again
returns-in-None-clause-again c = λ reply h e.
    let P : List ℕ → Type 0 = λ t. length t ≤ 131072 in
    absurd (c.in-None.ensures {u = tt} _ (subst P (sym e) (reply_fits reply h)) e)
