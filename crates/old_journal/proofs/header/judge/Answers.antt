use Rattle.std.proofs.Common.{◌∙◌, sym}
use Rattle.std.proofs.lemmas.Bool.{false≢true}
use Rattle.old_journal.proofs.HeaderLemmas.{foreign_at_first, header_long}
use Rattle.old_journal.proofs.header.judge.Goals as goal

pub returns-else-is_rest_of_made-clause-judged : goal.returns-else-is_rest_of_made-clause-judged
returns-else-is_rest_of_made-clause-judged c =
    foreign_at_first c.args.front.now c.if-front-lt2.false c.if-front-eq118.false c.if-front-ne86.true
    (λ rest. false≢true (sym c.if-is_rest_of_made.false ∙ c.is_rest_of_made.ensures.1 rest))

pub returns-in-None-clause-long : goal.returns-in-None-clause-long
returns-in-None-clause-long c = header_long _ c.args.front.now c.manager_of.ensures
