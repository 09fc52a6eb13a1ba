-- The descriptor of a live instance was onboarded.
use Rattle.std.proofs.Common.{sym}
use Rattle.occ_work.proofs.RequestLemmas.{descriptor_there}
use Rattle.occ_work.proofs.instances.vnfd_of.Goals as goal

pub unreachable-requires : goal.unreachable-requires
unreachable-requires g c =
    let it = c.requires.lives in
    descriptor_there _ it.0 _ _ c.rows_have_holdings.ensures it.2.kept.legal it.3 (sym (rw c.in-None.is at (c.vnfd.ensures it.0 it.2)))

pub returns : goal.returns
returns g c = λ H keeps. sym (rw c.in-Some.is at (c.vnfd.ensures H keeps))
