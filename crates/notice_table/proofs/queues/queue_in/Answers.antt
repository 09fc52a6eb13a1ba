use Rattle.std.proofs.Common.{◌∙◌, slice_get, sym, subst, Option}
use Rattle.std.specs.Prelude.{IfSome}
use Rattle.instance_table.proofs.Sorted.{found}
use Rattle.notice_table.specs.Rows.{IsWithin, row}
use Rattle.notice_table.specs.declared.queues.QueueRow.{QueueRow}
use Rattle.notice_table.proofs.Lists.{all_of_map, holds_at, holds_keyed}
use Rattle.notice_table.proofs.queues.queue_in.Goals as goal

pub returns-clause-found : goal.returns-clause-found
returns-clause-found c = λ rises.
    c.queue_at.ensures ∙ found (λ q. q.number) c.args.number c.args.queues.now c.queue_place-at.result rises c.queue_place-at.ensures.bound
    c.queue_place-at.ensures.place

pub returns-clause-within : goal.returns-clause-within
returns-clause-within c = λ count all.
    subst (λ (x : Option QueueRow). IfSome x (λ r. IsWithin count (row r))) (sym c.queue_at.ensures)
    (holds_keyed (λ (r : QueueRow). IsWithin count (row r)) (λ r. r.number) c.args.number
    (slice_get c.args.queues.now c.queue_place-at.result)
    (holds_at (λ (r : QueueRow). IsWithin count (row r)) c.args.queues.now c.queue_place-at.result
    (all_of_map (IsWithin count) row c.args.queues.now all)))
