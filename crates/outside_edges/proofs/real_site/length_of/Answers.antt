use Rattle.site_traits.specs.Moments.{reads-refl}
use Rattle.outside_edges.proofs.real_site.length_of.Goals as goal

pub returns-in-None-clause-told : goal.returns-in-None-clause-told
returns-in-None-clause-told g c = λ tells. reads-refl _
