-- The words are a command where its name stands first and its options behind it.
use Rattle.std.proofs.Common.{false, sym, true, ◌∙◌}
use Rattle.std.proofs.lemmas.Bool.{false≢true}
use Rattle.command_line.proofs.ShapeLemmas.{command_in}
use Rattle.command_line.proofs.shape.command_of.Goals as goal
use Rattle.command_line.proofs.shape.command_of.Goals.{else-are_taken-via-else-are_taken, else-are_taken-via-then-are_taken+else-has_needed}

pub returns-then-has_needed : goal.returns-then-has_needed
returns-then-has_needed c =
    command_in c.args.words.now c.name-item.result c.in_ok-command.command true true c.in-len1-up.len_at_least c.name-item.is
    (sym c.command_named.ensures ∙ c.in_ok-command.was)
    (sym c.if-are_taken.true ∙ c.are_taken.ensures) (λ taken pairs are. sym c.if-has_needed.true ∙ c.has_needed.ensures pairs are)

pub returns-else-are_taken : goal.returns-else-are_taken
returns-else-are_taken c = elim c.else-are_taken.branch [
  | else-are_taken-via-then-are_taken+else-has_needed w ↦
      command_in c.args.words.now c.name-item.result c.in_ok-command.command true false c.in-len1-up.len_at_least c.name-item.is
      (sym c.command_named.ensures ∙ c.in_ok-command.was) (sym w.if-are_taken.true ∙ c.are_taken.ensures)
      (λ taken pairs are. sym w.if-has_needed.false ∙ w.has_needed.ensures pairs are)
  | else-are_taken-via-else-are_taken w ↦
      command_in c.args.words.now c.name-item.result c.in_ok-command.command false false c.in-len1-up.len_at_least c.name-item.is
      (sym c.command_named.ensures ∙ c.in_ok-command.was) (sym w.if-are_taken.false ∙ c.are_taken.ensures)
      (λ taken pairs are. absurd (false≢true taken))
]
