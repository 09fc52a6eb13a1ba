use Rattle.journal_core.proofs.CreateLemmas.{begins}
use Rattle.journal_core.proofs.create.begin.Goals as goal

pub returns-clause-told : goal.returns-clause-told
returns-clause-told g c = λ tells. begins c.args.manager c.args.bytes.now c.write_through.result (g.S.Site.state c.args.site.now)
    (g.S.Site.state c.write_through.new.site) (c.requires.empty tells) (c.write_through.ensures.told tells)
