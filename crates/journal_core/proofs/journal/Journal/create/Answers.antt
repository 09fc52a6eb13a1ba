use Rattle.std.proofs.Common.{◌∙◌, ap, take}
use Rattle.journal_core.proofs.CreateLemmas.{creates_of, made_begins}
use Rattle.journal_core.proofs.journal.Journal.create.Goals as goal

pub make_file-requires : goal.make_file-requires
make_file-requires g c = ap (take 32) c.made_bytes.ensures ∙ made_begins c.args.manager

pub returns-clause-told : goal.returns-clause-told
returns-clause-told g c = λ tells.
    creates_of c.args.manager c.made_bytes.result c.make_file.result (g.S.Site.state c.args.site.now) (g.S.Site.state c.make_file.new.site)
    c.made_bytes.ensures (c.make_file.ensures.told tells)
