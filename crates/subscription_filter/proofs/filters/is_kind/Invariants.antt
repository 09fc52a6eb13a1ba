use Rattle.std.proofs.Common.{drop, ◌==◌, ◌≡◌}
use Rattle.std.specs.List.{list_any}
use Rattle.lcm_model.specs.Notices.{notice_number}
use Rattle.subscription_filter.proofs.filters.is_kind.Given as goal

abbrev pub invariant-loop-kind : goal.invariant-loop-kind
invariant-loop-kind l = list_any (λ k. notice_number l.which == notice_number k) (drop l.kind-index l.kinds)
    ≡ list_any (λ k. notice_number l.which == notice_number k) l.kinds
