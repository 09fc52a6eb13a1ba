use Rattle.std.proofs.Common.{◌≡◌}
use Rattle.std.specs.VecDeque.{deque_len}
use Rattle.notice_table.specs.Rows.{last_of}
use Rattle.notice_table.proofs.queues.keep_last.Given as goal

abbrev pub invariant-loop-places : goal.invariant-loop-places
invariant-loop-places l = last_of l.count l.places.items ≡ last_of l.count l.initial.places.items

abbrev pub decreases-loop-places : goal.decreases-loop-places
decreases-loop-places l = deque_len l.places
