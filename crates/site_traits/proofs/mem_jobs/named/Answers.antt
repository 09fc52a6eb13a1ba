use Rattle.std.proofs.Common.{subst, sym, List, ℕ}
use Rattle.std.proofs.lemmas.Bool.{false≢true}
use Rattle.vnfm_base.specs.Text.{IsName}
use Rattle.site_traits.proofs.KeptLemmas.{resource_named}
use Rattle.site_traits.proofs.mem_jobs.named.Goals as goal

pub unreachable-requires : goal.unreachable-requires
unreachable-requires c =
    let P : List ℕ → Type 0 = λ v. IsName v in
    false≢true (c.in-None.ensures.name.1 (subst P (sym c.requires) (resource_named c.args.place c.ranges.place.fits)))
