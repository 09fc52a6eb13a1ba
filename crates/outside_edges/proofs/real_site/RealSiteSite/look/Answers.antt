use Rattle.site_traits.specs.Moments.{lost_look}
use Rattle.outside_edges.proofs.real_site.RealSiteSite.look.Goals as goal

pub returns-in-Failed-clause-told : goal.returns-in-Failed-clause-told
returns-in-Failed-clause-told g c = λ tells. lost_look _ _
