use Rattle.journal_core.proofs.CreateLemmas.{steps_then}
use Rattle.journal_core.specs.Asking.{through}
use Rattle.journal_core.proofs.AskLemmas.{asks_failed, asks_then, stops_more}
use Rattle.journal_core.proofs.create.make.Goals as goal

pub returns-in_err-begin-clause-asks : goal.returns-in_err-begin-clause-asks
returns-in_err-begin-clause-asks g c =
    let a = g.S.Site.counts c.args.site.now in
    let b = g.S.Site.counts c.begin.new.site in
    asks_failed (through 3) c.from_residual.result a b c.from_residual.ensures.0
    (stops_more (through 1) (through 2) a b c.in_err-begin.ensures.asks.failed)

pub returns-clause-asks : goal.returns-clause-asks
returns-clause-asks g c =
    asks_then (through 1) (through 2) c.fill_and_finish.result (g.S.Site.counts c.args.site.now) (g.S.Site.counts c.begin.new.site)
    (g.S.Site.counts c.fill_and_finish.new.site)
    c.in_ok-begin.ensures.asks.done c.fill_and_finish.ensures.asks

pub returns-clause-told : goal.returns-clause-told
returns-clause-told g c = λ tells. steps_then _ _ _ _ _ _ _ _ _ (c.in_ok-begin.ensures.told tells) (c.fill_and_finish.ensures.told tells)
