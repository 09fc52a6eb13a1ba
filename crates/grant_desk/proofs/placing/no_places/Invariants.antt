-- So many so far.
use Rattle.std.proofs.Common.{◌≡◌, None, replicate}
use Rattle.grant_desk.proofs.placing.no_places.Given as goal

abbrev pub invariant-loop : goal.invariant-loop
invariant-loop l = l.found.items ≡ replicate l.counter None
