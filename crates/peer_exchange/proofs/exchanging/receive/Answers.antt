-- The calls in vain are those before the last read and those of it.
use Rattle.std.proofs.Common.{Some, arith, rules}
use Rattle.std.proofs.lemmas.Grind.{common_steps}
use Rattle.peer_exchange.proofs.LostLaws.{counts_from, interrupted_from}
use Rattle.peer_exchange.proofs.exchanging.receive.Goals as goal

pub returns-in-Err-clause-counts : goal.returns-in-Err-clause-counts
returns-in-Err-clause-counts g c = λ told.
    counts_from (Some c.in-Err.lost) _ _ _ (c.reads.invariant.3 told).2 (c.in-Err.ensures.counts told)

pub returns-then-is_err-clause-counts : goal.returns-then-is_err-clause-counts
returns-then-is_err-clause-counts g c = λ told.
    interrupted_from _ _ _ (c.reads.invariant.3 told).2 (c.in-Ok.ensures.counts told)

pub returns-in_default-clause-counts : goal.returns-in_default-clause-counts
returns-in_default-clause-counts g c = λ told.
    interrupted_from _ _ _ (c.reads.invariant.3 told).2 (c.in-Ok.ensures.counts told)

pub returns-in-Never-clause-counts : goal.returns-in-Never-clause-counts
returns-in-Never-clause-counts g c = λ told.
    interrupted_from _ _ _ (c.reads.invariant.3 told).2 (c.in-Ok.ensures.counts told)

pub returns-in-Unknown-clause-counts : goal.returns-in-Unknown-clause-counts
returns-in-Unknown-clause-counts g c = λ told.
    interrupted_from _ _ _ (c.reads.invariant.3 told).2 (c.in-Ok.ensures.counts told)

pub returns-in-Whole-clause-counts : goal.returns-in-Whole-clause-counts
returns-in-Whole-clause-counts g c = λ told.
    interrupted_from _ _ _ (c.reads.invariant.3 told).2 (c.in-Ok.ensures.counts told)

pub reads-preserved : goal.reads-preserved
reads-preserved g c = (
  search rules,
  search rules,
  search rules,
  λ told. (
    search rules,
    grind (arith, common_steps),
    interrupted_from _ _ _ (c.reads.invariant.3 told).2 (c.in-Ok.ensures.counts told),
    λ tells some. c.in-Ok.ensures.timed told tells,
  ),
)
