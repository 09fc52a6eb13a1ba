use Rattle.std.proofs.Common.{◌∙◌, ℕ, List, ap, arith}
use Rattle.notice_table.specs.Rows.{last_of}
use Rattle.notice_table.proofs.RowLaws.{last_all, last_drop}
use Rattle.notice_table.proofs.queues.keep_last.Goals as goal

pub returns : goal.returns
returns c =
    last_all c.args.count c.loop-places.places.items (omega (arith, c.loop-places.places.ok.0))
    ∙ c.loop-places.invariant

pub loop-places-preserved : goal.loop-places-preserved
loop-places-preserved c =
    ap (λ (places : List ℕ). last_of c.args.count places) c.pop_front.ensures.rest
    ∙ (last_drop c.args.count c.loop-places.places.items (omega (arith, c.loop-places.places.ok.0))
    ∙ c.loop-places.invariant)
