-- What was pushed, and a 0 for each aspect that is left, are a 0 for each aspect.
use Rattle.std.proofs.Common.{◌≡◌, ℕ, ◌++◌, map, drop}
use Rattle.vnfd_document.specs.Seen.{seen}
use Rattle.vnfd_policies.proofs.instantiation.zeros.Given as goal

abbrev pub invariant-loop-aspect : goal.invariant-loop-aspect
invariant-loop-aspect l =
    map {B = ℕ} (λ a. 0) (map seen l.fn.aspects) ≡ l.numbers.items ++ map {B = ℕ} (λ a. 0) (map seen (drop l._aspect-index l.aspects))
