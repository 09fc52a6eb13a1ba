use Rattle.std.proofs.Common.{◌≡◌, ◌-◌}
use Rattle.event_codec.specs.Combinators.{entries}
use Rattle.event_codec.specs.Gives.{with_front}
use Rattle.event_codec.proofs.lists.entries.Given as goal

abbrev pub invariant-loop-counter : goal.invariant-loop-counter
invariant-loop-counter g l =
    with_front l.items (entries (g.T.Read.at l.numbers) (l.count - l.counter) l.input)
    ≡ entries (g.T.Read.at l.numbers) l.count l.fn.input
