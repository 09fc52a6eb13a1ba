use Rattle.site_traits.specs.Moments.{reads-refl}
use Rattle.journal_core.proofs.LoadLemmas.{syncs_and_reads}
use Rattle.journal_core.proofs.create.unfinished_length.Goals as goal

pub returns-in_err-len-clause-told : goal.returns-in_err-len-clause-told
returns-in_err-len-clause-told g c = λ tells.
    syncs_and_reads c.sync.result (g.S.Site.state c.args.site.now) (g.S.Site.state c.sync.new.self) (g.S.Site.state c.length.new.self)
    (g.S.Site.state c.length.new.self)
    (c.sync.ensures.told tells) (c.length.ensures.told tells) (reads-refl _)

pub returns-in_err-is_unfinished_at-clause-told : goal.returns-in_err-is_unfinished_at-clause-told
returns-in_err-is_unfinished_at-clause-told g c = λ tells.
    syncs_and_reads c.sync.result (g.S.Site.state c.args.site.now) (g.S.Site.state c.sync.new.self) (g.S.Site.state c.length.new.self)
    (g.S.Site.state c.is_unfinished_at.new.site)
    (c.sync.ensures.told tells) (c.length.ensures.told tells) (c.is_unfinished_at.ensures.told tells)

pub returns-then-branch-clause-told : goal.returns-then-branch-clause-told
returns-then-branch-clause-told g c = λ tells.
    syncs_and_reads c.sync.result (g.S.Site.state c.args.site.now) (g.S.Site.state c.sync.new.self) (g.S.Site.state c.length.new.self)
    (g.S.Site.state c.is_unfinished_at.new.site)
    (c.sync.ensures.told tells) (c.length.ensures.told tells) (c.is_unfinished_at.ensures.told tells)

pub returns-else-branch-clause-told : goal.returns-else-branch-clause-told
returns-else-branch-clause-told g c = λ tells.
    syncs_and_reads c.sync.result (g.S.Site.state c.args.site.now) (g.S.Site.state c.sync.new.self) (g.S.Site.state c.length.new.self)
    (g.S.Site.state c.is_unfinished_at.new.site)
    (c.sync.ensures.told tells) (c.length.ensures.told tells) (c.is_unfinished_at.ensures.told tells)
