-- Each that has to stand was looked for.
use Rattle.std.proofs.Common.{◌≡◌, Bool, true, false, refl, sym, ◌∙◌}
use Rattle.std.specs.Prelude.{◌&&◌}
use Rattle.std.proofs.lemmas.Bool.{true≢false}
use Rattle.command_line.proofs.shape.has_needed.Goals as goal
use Rattle.command_line.proofs.shape.has_needed.Goals.{else-stands-2, then-stands-2}

alone : (b : Bool) → b ≡ (b && true)
alone true = refl
alone false = refl

pub returns-then-stands : goal.returns-then-stands
returns-then-stands c = λ pairs are. rw (
  c.in-Init.is,
  sym (c.stands.ensures pairs are) ∙ c.if-stands.true,
  c.stands-then-stands.ensures pairs are,
) (alone _)

pub returns-then-stands-3 : goal.returns-then-stands-3
returns-then-stands-3 c = elim c.if-stands-2.branch [
  | then-stands-2 w ↦ λ pairs are. rw (
    c.in-Serve.is,
    sym (c.stands-in-Serve.ensures pairs are) ∙ w.if-stands-2.true,
    sym (w.stands-then-stands-2.ensures pairs are) ∙ sym w.value-is ∙ c.if-stands-3.true,
    c.stands-then-stands-3.ensures pairs are,
  ) (alone _)
  | else-stands-2 w ↦ λ pairs are. absurd (true≢false (sym c.if-stands-3.true ∙ w.value-is ∙ w.if-stands-2.false))
]
