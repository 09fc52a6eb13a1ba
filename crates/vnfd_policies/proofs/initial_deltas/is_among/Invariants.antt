-- The name is one of all where it is one of those that are left.
use Rattle.std.proofs.Common.{◌≡◌, map, drop}
use Rattle.std.specs.List.{list_any}
use Rattle.std.specs.Str.{bytes_eq}
use Rattle.vnfd_policies.proofs.initial_deltas.is_among.Given as goal

abbrev pub invariant-loop-name : goal.invariant-loop-name
invariant-loop-name l =
    list_any (bytes_eq l.fn.wanted) (map (λ name. name.now) l.fn.names)
    ≡ list_any (bytes_eq l.wanted) (map (λ name. name.now) (drop l.name-index l.names))
