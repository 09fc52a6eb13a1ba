-- One record more was read and judged.
use Rattle.std.proofs.Common.{◌∙◌, refl, rules}
use Rattle.site_traits.specs.Moments.{reads-refl, reads-then}
use Rattle.executor.proofs.FaultLemmas.{err_is, next_failed}
use Rattle.executor.proofs.JudgeLemmas.{finds_why, judges_starved, none_judged, small_so_far, step_on, through}
use Rattle.executor.proofs.open.judge_all.Goals as goal

pub loop-judged-init : goal.loop-judged-init
loop-judged-init g c = record {
  judged = none_judged _ _ _ _ c.requires.begun c.requires.loads c.new-judged.ensures.bad (rw (← c.manager.ensures) c.new-judged.ensures.tables);
  manager = search rules;
  within = search rules;
  counts = search rules;
  reads = λ tells. reads-refl _;
}

pub judge_next-requires : goal.judge_next-requires
judge_next-requires g c = record {
  small = λ none. small_so_far _ c.records_add_up.ensures.longer c.serials_are_counted.ensures _ _ _ c.loop-judged.invariant.judged
      c.loop-judged.invariant.within none;
}

pub loop-judged-preserved : goal.loop-judged-preserved
loop-judged-preserved g c =
    let reads = rw c.in-Record.is at c.in_ok-next.ensures.grown in
    let step = rw (c.count.ensures, c.record_bytes.ensures) at c.in_ok-judge_next.ensures in
    record {
      judged = step_on _ c.records_add_up.ensures.adds c.records_add_up.ensures.longer c.serials_are_counted.ensures _ _ _ _ _ _
          c.loop-judged.invariant.judged c.loop-judged.invariant.within reads step
          (λ tells rs loads. rw c.in-Record.is at (c.in_ok-next.ensures.found tells rs loads));
      manager = reads.manager ∙ c.loop-judged.invariant.manager;
      within = c.next.ensures.within;
      counts = c.in_ok-next.ensures.counts.stays (λ wrong. cc wrong) ∙ c.loop-judged.invariant.counts;
      reads = λ tells. reads-then _ _ _ (c.loop-judged.invariant.reads tells) (c.next.ensures.told tells);
    }

pub returns-in_err-judge_next-clause-told : goal.returns-in_err-judge_next-clause-told
returns-in_err-judge_next-clause-told g c = λ tells.
    let so_far = c.loop-judged.invariant.judged.so_far tells in
    judges_starved _ _ _ _ _ c.from_residual-in_err-judge_next.ensures.1
    (rw c.in-Record.is at (c.in_ok-next.ensures.found tells so_far.rs so_far.loads))
    (reads-then _ _ _ (c.loop-judged.invariant.reads tells) (c.next.ensures.told tells))

pub returns-in_err-next-clause-told : goal.returns-in_err-next-clause-told
returns-in_err-next-clause-told g c = λ tells.
    let so_far = c.loop-judged.invariant.judged.so_far tells in
    let loads = so_far.loads in
    record {
      finds = finds_why so_far.rs _ _ _ _ _ _ (err_is _ _ c.from_residual.ensures.1) loads (c.next.ensures.told tells) c.in_err-next.ensures.grown
          (c.in_err-next.ensures.found tells so_far.rs loads);
      reads = reads-then _ _ _ (c.loop-judged.invariant.reads tells) (c.next.ensures.told tells);
    }

pub returns-clause-judged : goal.returns-clause-judged
returns-clause-judged g c =
    through _ _ _ _ _ _ _ c.loop-judged.invariant.judged c.in_default.not-Record c.in_ok-next.ensures.grown c.in_ok-next.ensures.found

pub returns-clause-told : goal.returns-clause-told
returns-clause-told g c = λ tells. record {
  finds = tt;
  reads =
      reads-then _ _ _ (c.loop-judged.invariant.reads tells) (c.next.ensures.told tells);
}

pub returns-in_err-next-clause-counts : goal.returns-in_err-next-clause-counts
returns-in_err-next-clause-counts g c =
    rw (← c.loop-judged.invariant.counts) (next_failed _ _ _ _ _ (err_is _ _ c.from_residual.ensures.1) refl c.in_err-next.ensures.counts)
