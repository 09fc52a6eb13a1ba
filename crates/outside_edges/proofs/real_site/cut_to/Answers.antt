use Rattle.outside_edges.proofs.SiteLemmas.{lost_cut}
use Rattle.outside_edges.proofs.real_site.cut_to.Goals as goal

pub returns-in-None-clause-told : goal.returns-in-None-clause-told
returns-in-None-clause-told g c = λ tells. lost_cut _ _ _ c.fail.ensures.fails
