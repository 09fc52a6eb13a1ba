use Rattle.std.proofs.Common.{List, ℕ, [], ◌∷◌, ◌++◌, sym, subst, arith}
use Rattle.std.proofs.lemmas.Bool.Decides.{nat_tests}
use Rattle.http_frames.specs.Lines.{GrownIs, IsSizeFront}
use Rattle.http_frames.specs.declared.lines.SizeLine.{SizeLine}
use Rattle.http_frames.proofs.SizeLineLaws.{some_blanks_stop, returns_behind_extension, never_in_extension, more_extension, feed_ends}
use Rattle.http_frames.proofs.SizeLineLaws.{never_behind_return}
use Rattle.http_frames.proofs.lines.SizeLine.with.Goals as goal

pub returns-in-Blanks : goal.returns-in-Blanks
returns-in-Blanks c = λ front is.
    let b = subst (λ (x : SizeLine). IsSizeFront front x) c.in-Blanks.is is in
    subst (λ (x : List ℕ). GrownIs (x ++ c.args.byte ∷ []) c.after_blanks.result) (sym b.4)
    (c.after_blanks.ensures b.0 b.1 b.2 (some_blanks_stop b.1 (c.args.byte ∷ []) b.2.blank b.3))

pub returns-in-13 : goal.returns-in-13
returns-in-13 c = λ front is. returns_behind_extension front _ _
    (subst (λ (x : SizeLine). IsSizeFront front x) c.in-Extension.is is) c.in-13.is

pub returns-in-10 : goal.returns-in-10
returns-in-10 c = λ front is. never_in_extension front _ _ (subst (λ (x : SizeLine). IsSizeFront front x) c.in-Extension.is is) c.in-10.is

pub returns-in_default : goal.returns-in_default
returns-in_default c = λ front is. more_extension front _ _ (subst (λ (x : SizeLine). IsSizeFront front x) c.in-Extension.is is)
    (grind (arith, nat_tests))

pub returns-in-10-byte : goal.returns-in-10-byte
returns-in-10-byte c = λ front is. feed_ends front _ _ (subst (λ (x : SizeLine). IsSizeFront front x) c.in-Return.is is) c.in-10-byte.is

pub returns-in_default-byte : goal.returns-in_default-byte
returns-in_default-byte c = λ front is. never_behind_return front _ _ (subst (λ (x : SizeLine). IsSizeFront front x) c.in-Return.is is)
    (λ e. omega arith)
