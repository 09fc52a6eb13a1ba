-- The digits are read.
use Rattle.std.proofs.Common.{ap, refl, sym, ◌∙◌}
use Rattle.command_line.specs.Words.{is_number}
use Rattle.command_line.proofs.WordLemmas.{number_is}
use Rattle.command_line.proofs.shape.number_of.Goals as goal

pub returns-then-is_number : goal.returns-then-is_number
returns-then-is_number c =
    c.ok.ensures.value
    ∙ number_is _ 32 4294967295 refl c.args.word.now c.parse.result c.parse.ensures.value.0
    (ap is_number (sym c.as_bytes.ensures.value) ∙ sym c.is_number.ensures ∙ c.if-is_number.true)
