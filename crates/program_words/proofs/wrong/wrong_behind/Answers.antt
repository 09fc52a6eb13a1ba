-- A pair in which nothing is wrong leaves the question to the words behind it.
use Rattle.std.proofs.Common.{arith}
use Rattle.std.proofs.lemmas.Grind.{common_steps}
use Rattle.std.proofs.Common.{sym, ◌∙◌}
use Rattle.program_words.proofs.WrongLemmas.{one_more}
use Rattle.program_words.proofs.wrong.wrong_behind.Goals as goal

pub loop-at-preserved : goal.loop-at-preserved
loop-at-preserved c =
    let more = one_more c.args.command c.args.words.now c.loop-at.at c.option-item.result c.value-item.result c.loop-at.invariant.1
    c.in-len2-up.len_at_least c.option-item.is c.value-item.is
    (sym c.is_new.ensures ∙ c.if-not-is_new.false) (sym c.takes.ensures ∙ c.if-not-takes.false) in
    (more.0, more.1, c.loop-at.invariant.2 ∙ more.2)

pub returns-then-not-is_new : goal.returns-then-not-is_new
returns-then-not-is_new c = grind (arith, common_steps)

pub returns-then-not-takes : goal.returns-then-not-takes
returns-then-not-takes c = grind (arith, common_steps)

pub returns-in-empty : goal.returns-in-empty
returns-in-empty c = grind (arith, common_steps)

pub returns-then-is_new : goal.returns-then-is_new
returns-then-is_new c = grind (arith, common_steps)

pub returns-else-is_new : goal.returns-else-is_new
returns-else-is_new c = grind (arith, common_steps)
