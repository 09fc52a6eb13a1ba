-- A command has its pairs.
use Rattle.std.proofs.Common.{sym, ◌∙◌}
use Rattle.command_line.proofs.ShapeLemmas.{has_pairs}
use Rattle.command_line.proofs.words.settings.Goals as goal

pub set-requires : goal.set-requires
set-requires c = has_pairs c.args.words.now c.in-Some.command (sym c.in-Some.is ∙ c.command_of.ensures)
