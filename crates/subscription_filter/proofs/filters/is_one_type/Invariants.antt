use Rattle.std.proofs.Common.{drop, ◌≡◌}
use Rattle.std.specs.List.{list_any}
use Rattle.lcm_model.specs.Notices.{is_type_of}
use Rattle.subscription_filter.proofs.filters.is_one_type.Given as goal

abbrev pub invariant-loop-kind : goal.invariant-loop-kind
invariant-loop-kind l = list_any (is_type_of l.op) (drop l.kind-index l.kinds) ≡ list_any (is_type_of l.op) l.kinds
