use Rattle.journal_core.proofs.CreateLemmas.{cut_failed, shortens}
use Rattle.site_traits.specs.Counts.Ask.{cut, sync}
use Rattle.std.specs.Prelude.{[], ◌∷◌}
use Rattle.journal_core.proofs.AskLemmas.{asks_failed, cut_stops, cut_and_sync}
use Rattle.journal_core.proofs.create.shorten.Goals as goal

pub returns-in_err-cut-clause-told : goal.returns-in_err-cut-clause-told
returns-in_err-cut-clause-told g c = λ tells. cut_failed c.args.manager c.args.bytes.now c.from_residual.result (g.S.Site.state c.args.site.now)
    (g.S.Site.state c.cut.new.self) (c.requires.unfinished tells) (c.in_err-cut.ensures.told tells).on_file c.from_residual.ensures.0

pub returns-in_err-cut-clause-asks : goal.returns-in_err-cut-clause-asks
returns-in_err-cut-clause-asks g c =
    let a = g.S.Site.counts c.args.site.now in
    let b = g.S.Site.counts c.cut.new.self in
    asks_failed (cut ∷ sync ∷ []) c.from_residual.result a b c.from_residual.ensures.0 (cut_stops a b c.in_err-cut.ensures.cause.failed)

pub returns-clause-told : goal.returns-clause-told
returns-clause-told g c = λ tells.
    let cuts = c.in_ok-cut.ensures.told tells in
    shortens c.args.manager c.args.bytes.now c.sync.result (g.S.Site.state c.args.site.now) (g.S.Site.state c.cut.new.self)
    (g.S.Site.state c.sync.new.self) (c.requires.unfinished tells) cuts.on_file cuts.cut (c.sync.ensures.told tells)

pub returns-clause-asks : goal.returns-clause-asks
returns-clause-asks g c =
    cut_and_sync c.sync.result (g.S.Site.counts c.args.site.now) (g.S.Site.counts c.cut.new.self) (g.S.Site.counts c.sync.new.self)
    c.in_ok-cut.ensures.cause.done c.sync.ensures.cause
