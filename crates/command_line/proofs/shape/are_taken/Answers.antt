-- A pair that is taken leaves it to those behind it.
use Rattle.std.proofs.Common.{sym, ap, ◌∙◌}
use Rattle.command_line.specs.Words.{stands}
use Rattle.command_line.proofs.ShapeLemmas.{again_behind, taken_behind, untaken_behind}
use Rattle.command_line.proofs.shape.are_taken.Goals as goal
use Rattle.command_line.proofs.shape.are_taken.Goals.{then-not-takes-via-then-not-takes, then-not-takes-via-else-not-takes+then-stands}

pub returns-then-not-takes : goal.returns-then-not-takes
returns-then-not-takes c = elim c.then-not-takes.branch [
  | then-not-takes-via-then-not-takes w ↦
      sym (c.loop-rest.invariant ∙ untaken_behind c.args.command c.option-item.result c.value-item.result c.loop-rest.rest.now
      c.in-len2-up.len_at_least c.option-item.is c.value-item.is (sym c.takes.ensures ∙ w.if-not-takes.true))
  | then-not-takes-via-else-not-takes+then-stands w ↦
      sym (c.loop-rest.invariant ∙ again_behind c.args.command c.option-item.result c.value-item.result c.loop-rest.rest.now w.stands.result
      c.in-len2-up.len_at_least c.option-item.is c.value-item.is
      (λ pairs are. w.stands.ensures pairs are ∙ ap (λ o. stands o pairs) w.as_str.ensures.value) w.if-stands.true)
]

pub loop-rest-preserved : goal.loop-rest-preserved
loop-rest-preserved c =
    c.loop-rest.invariant ∙ taken_behind c.args.command c.option-item.result c.value-item.result c.loop-rest.rest.now c.stands.result
    c.in-len2-up.len_at_least c.option-item.is c.value-item.is
    (sym c.takes.ensures ∙ c.if-not-takes.false) (λ pairs are. c.stands.ensures pairs are ∙ ap (λ o. stands o pairs) c.as_str.ensures.value)
    c.if-stands.false
