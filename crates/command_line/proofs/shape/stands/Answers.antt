-- An option stands where it has a value.
use Rattle.std.proofs.Common.{ap, ◌∙◌}
use Rattle.std.specs.Prelude.{is_some}
use Rattle.command_line.proofs.ShapeLemmas.{some_mapped, value_is}
use Rattle.command_line.proofs.shape.stands.Goals as goal

pub returns : goal.returns
returns c = λ pairs are.
    c.is_some.ensures ∙ some_mapped (λ value. value.now) c.value_of.result
    ∙ ap is_some (c.value_of.ensures ∙ value_is c.args.name.now c.args.words.now pairs are)
