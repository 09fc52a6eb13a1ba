use Rattle.std.proofs.Common.{arith}
use Rattle.std.proofs.lemmas.List.{take_rest}
use Rattle.journal_core.proofs.CreateLemmas.{fills, header_long}
use Rattle.journal_core.proofs.create.fill.Goals as goal

pub slice_bounds-write_through-count : goal.slice_bounds-write_through-count
slice_bounds-write_through-count g c = omega (arith, header_long c.args.manager c.args.bytes.now c.requires.whole)

pub slice_bounds-write_through-start : goal.slice_bounds-write_through-start
slice_bounds-write_through-start g c = omega (arith, header_long c.args.manager c.args.bytes.now c.requires.whole)

pub returns-clause-told : goal.returns-clause-told
returns-clause-told g c = λ tells.
    fills c.args.manager c.args.bytes.now _ c.write_through.result (g.S.Site.state c.args.site.now)
    (g.S.Site.state c.write_through.new.site) c.requires.whole (take_rest c.args.bytes.now 1) (c.requires.begun tells) (c.write_through.ensures.told tells)
