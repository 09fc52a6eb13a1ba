-- The first aspect of all with this name is the first of those that are left.
use Rattle.std.proofs.Common.{◌≡◌, map, drop, find}
use Rattle.std.specs.Str.{bytes_eq}
use Rattle.vnfd_policies.specs.AspectsSeen.{aspect_seen}
use Rattle.vnfd_policies.proofs.steps.steps_named.Given as goal

abbrev pub invariant-loop-steps : goal.invariant-loop-steps
invariant-loop-steps l =
    find (λ a. bytes_eq a.0 l.fn.name) (map aspect_seen l.fn.all) ≡ find (λ a. bytes_eq a.0 l.name)
    (map aspect_seen (drop l.steps-index l.all))
