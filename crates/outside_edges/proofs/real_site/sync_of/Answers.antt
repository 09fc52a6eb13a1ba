use Rattle.outside_edges.proofs.SiteLemmas.{lost_sync}
use Rattle.outside_edges.proofs.real_site.sync_of.Goals as goal

pub returns-in-None-clause-told : goal.returns-in-None-clause-told
returns-in-None-clause-told g c = λ tells. lost_sync _ _ c.fail.ensures.fails
