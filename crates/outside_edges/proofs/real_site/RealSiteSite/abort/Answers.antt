use Rattle.site_traits.specs.Moments.{lost_abort}
use Rattle.outside_edges.proofs.real_site.RealSiteSite.abort.Goals as goal

pub returns-in-Failed-clause-told : goal.returns-in-Failed-clause-told
returns-in-Failed-clause-told g c = λ tells. lost_abort _ _
