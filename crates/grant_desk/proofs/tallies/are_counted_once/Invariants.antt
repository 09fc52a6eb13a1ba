-- What the pairs that are left say is what all say.
use Rattle.std.proofs.Common.{◌≡◌}
use Rattle.grant_desk.specs.Tallies.{are_counted_once}
use Rattle.grant_desk.proofs.tallies.are_counted_once.Given as goal

abbrev pub invariant-loop-change : goal.invariant-loop-change
invariant-loop-change l = are_counted_once l.part l.fn.changes l.fn.counts
    ≡ are_counted_once l.part l.change-iterator.a.rest.now l.change-iterator.b.rest.now
