use Rattle.site_traits.proofs.Writes.{written_through}
use Rattle.journal_core.proofs.AskLemmas.{asks_failed, write_and_sync, write_stops}
use Rattle.journal_core.specs.Asking.{through}
use Rattle.journal_core.proofs.through.write_through.Goals as goal

pub returns-clause-told : goal.returns-clause-told
returns-clause-told g c = λ tells.
    let wrote = c.in_ok-write_at.ensures.told tells in
    written_through c.args.at c.args.bytes.now c.sync.result (g.S.Site.state c.args.site.now) (g.S.Site.state c.write_at.new.self)
    (g.S.Site.state c.sync.new.self)
    wrote.on_file wrote.holds (c.sync.ensures.told tells)

pub returns-clause-asks : goal.returns-clause-asks
returns-clause-asks g c =
    write_and_sync c.sync.result (g.S.Site.counts c.args.site.now) (g.S.Site.counts c.write_at.new.self) (g.S.Site.counts c.sync.new.self)
    c.in_ok-write_at.ensures.cause.done c.sync.ensures.cause

pub returns-in_err-write_at-clause-asks : goal.returns-in_err-write_at-clause-asks
returns-in_err-write_at-clause-asks g c =
    let a = g.S.Site.counts c.args.site.now in
    let b = g.S.Site.counts c.write_at.new.self in
    asks_failed (through 1) c.from_residual.result a b c.from_residual.ensures.0 (write_stops a b c.in_err-write_at.ensures.cause.failed)
