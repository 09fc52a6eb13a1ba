use Rattle.std.proofs.Common.{arith}
use Rattle.old_journal.proofs.BackLemmas.{has_at_long}
use Rattle.old_journal.proofs.back.size_at.Goals as goal

pub read_at-requires : goal.read_at-requires
read_at-requires g c = λ tells.
    let at = c.requires.told tells in
    has_at_long c.args.place c.args.end at.0 (g.S.Site.state c.args.site.now).image at.1

pub returns-then-place-end-clause-size : goal.returns-then-place-end-clause-size
returns-then-place-end-clause-size g c = λ tells bytes has. absurd (omega (arith, has.whole))
