-- The first of all targets that stands before is the first of those that are left, and those before them were added.
use Rattle.std.proofs.Common.{◌≡◌, ◌++◌, map, drop, take}
use Rattle.vnfd_policies.specs.Initial.{again_refusal}
use Rattle.vnfd_policies.proofs.initial_deltas.add_targets.Given as goal

abbrev pub invariant-loop-name : goal.invariant-loop-name
invariant-loop-name l = record {
  refusal : again_refusal (map (λ name. name.now) l.fn.aimed_at.items) (map (λ name. name.now) l.fn.names)
      ≡ again_refusal (map (λ name. name.now) l.aimed_at.items) (map (λ name. name.now) (drop l.name-index l.names));
  added : l.aimed_at.items ≡ l.fn.aimed_at.items ++ take l.name-index l.names;
}
