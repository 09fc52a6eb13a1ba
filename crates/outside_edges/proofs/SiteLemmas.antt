-- A call on a file that couldn't be had: it fails, and changes nothing.
use Rattle.std.proofs.Common.{◌≡◌, ℕ, List, Result, length, take, refl, inl}
use Rattle.std.specs.Result.{IsErr}
use Rattle.std.proofs.lemmas.Result.{IfOk-from_err}
use Rattle.site_traits.specs.Site.{Cut, Cuts, Holds, IsSettled, Same, SiteState, Syncs, Torn, Writes}
use Rattle.site_traits.specs.Moments.{on_file-refl}
use Rattle.site_traits.proofs.Writes.{torn-refl}

pub lost_write : {T E : Type 0} (r : Result T E) (at : ℕ) (bytes : List ℕ) (a : SiteState) → IsErr r → Writes at bytes r a a
lost_write r at bytes a err = record {
  on_file = on_file-refl (Torn at (length bytes)) a (torn-refl at (length bytes));
  holds = IfOk-from_err r (λ _. Holds a.image at bytes a.image) err;
}

pub lost_cut : {T E : Type 0} (r : Result T E) (to : ℕ) (a : SiteState) → IsErr r → Cuts to r a a
lost_cut r to a err = record {
  on_file = on_file-refl (Cut to) a (λ i. inl refl);
  cut =
      IfOk-from_err r (λ _. a.image ≡ take to a.image) err;
}

pub lost_sync : {T E : Type 0} (r : Result T E) (a : SiteState) → IsErr r → Syncs r a a
lost_sync r a err = record { on_file = on_file-refl Same a (λ i. refl); same = refl; settled = IfOk-from_err r (λ _. IsSettled a) err }
