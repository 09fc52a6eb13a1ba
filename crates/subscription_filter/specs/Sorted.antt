-- What always holds of a filter whose lists of names are sorted beside it (own rule).
use Rattle.std.specs.List.Sorted.{IsPermutation}
use Rattle.subscription_filter.specs.declared.sorted.SortedFilter.TheInside.{Inside}

-- the lists beside the filter are its lists of names in another order
pub record AreBeside (s : Inside) : Type 0 where
  pub vnfds : IsPermutation s.filter.vnfds s.vnfds
  pub instances : IsPermutation s.filter.instances s.instances
  pub names : IsPermutation s.filter.names s.names
