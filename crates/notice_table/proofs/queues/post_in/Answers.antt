use Rattle.std.proofs.Common.{◌∙◌, ℕ, List, ap, arith, map, nat_lt, refl, subst, sym}
use Rattle.std.proofs.lemmas.List.{length-map}
use Rattle.std.specs.List.{All}
use Rattle.instance_table.specs.Steps.{Rises}
use Rattle.instance_table.proofs.Sorted.{changed_one, parted}
use Rattle.notice_table.specs.Rows.{IsWithin, Row, row, row_posted}
use Rattle.notice_table.specs.declared.queues.QueueRow.{QueueRow}
use Rattle.notice_table.proofs.Lists.{all_updated, seen_point}
use Rattle.notice_table.proofs.RowLaws.{within_post}
use Rattle.notice_table.proofs.TableLaws.{rises_seen}
use Rattle.notice_table.proofs.queues.post_in.Goals as goal

pub returns-clause-rows : goal.returns-clause-rows
returns-clause-rows c = λ rises.
    let n = c.args.number in
    let rows : List QueueRow = c.args.queues.now.items in
    let ys : List QueueRow = c.as_slice.result.now in
    let is = c.as_slice.ensures.value in
    let k : ℕ = c.queue_place-at.result in
    let same = length-map ys row in
    let bound = c.queue_place-at.ensures.bound in
    c.post_at.ensures.rows
    ∙ changed_one (λ (q : Row). q.number) n (row_posted n c.args.outcome) (map row rows) (map row ys) k (ap (map row) is)
    (rises_seen rows rises)
    (λ q other. rw other refl) (omega (arith, same, bound))
    (λ _. seen_point row (λ (q : Row). nat_lt q.number n) ys k bound
    (c.queue_place-at.ensures.place (parted (λ (r : QueueRow). r.number) n ys
    (subst (λ (zs : List QueueRow). Rises (λ r. r.number) zs) (sym is) rises))))

pub returns-clause-within : goal.returns-clause-within
returns-clause-within c = λ count all.
    subst (λ (rows : List Row). All (IsWithin count) rows) (sym c.post_at.ensures.rows)
    (all_updated (IsWithin count) (row_posted c.args.number c.args.outcome)
    (λ r h. within_post c.args.number c.args.outcome count r h) c.queue_place-at.result (map row c.args.queues.now.items) all)
