use Rattle.site_traits.specs.Moments.{reads-refl}
use Rattle.journal_core.proofs.LoadLemmas.{syncs_and_reads}
use Rattle.old_journal.proofs.loading.front_of.Goals as goal

pub returns-in_err-verdict-clause-told : goal.returns-in_err-verdict-clause-told
returns-in_err-verdict-clause-told g c = λ tells.
    syncs_and_reads c.sync.result (g.S.Site.state c.args.site.now) (g.S.Site.state c.sync.new.self)
    (g.S.Site.state c.length.new.self)
    (g.S.Site.state c.header_at.new.site)
    (c.sync.ensures.told tells) (c.length.ensures.told tells) (c.header_at.ensures.told tells)

pub returns-clause-told : goal.returns-clause-told
returns-clause-told g c = λ tells.
    syncs_and_reads c.sync.result (g.S.Site.state c.args.site.now) (g.S.Site.state c.sync.new.self)
    (g.S.Site.state c.length.new.self)
    (g.S.Site.state c.header_at.new.site)
    (c.sync.ensures.told tells) (c.length.ensures.told tells) (c.header_at.ensures.told tells)

pub returns-in_err-len-clause-told : goal.returns-in_err-len-clause-told
returns-in_err-len-clause-told g c = λ tells.
    syncs_and_reads c.sync.result (g.S.Site.state c.args.site.now) (g.S.Site.state c.sync.new.self)
    (g.S.Site.state c.length.new.self)
    (g.S.Site.state c.length.new.self)
    (c.sync.ensures.told tells) (c.length.ensures.told tells) (reads-refl _)
