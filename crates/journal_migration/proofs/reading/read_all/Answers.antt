-- One record more was read, judged and packed.
use Rattle.std.proofs.Common.{◌∙◌, refl, rules}
use Rattle.executor.proofs.FaultLemmas.{err_is, next_failed}
use Rattle.site_traits.specs.Moments.{reads-refl, reads-then}
use Rattle.journal_migration.proofs.ReadLemmas.{finds_why, header_of, none_read, reads_starved, small_so_far, step_on, through}
use Rattle.journal_migration.proofs.reading.read_all.Goals as goal

pub returns-in_err-packing-clause-told : goal.returns-in_err-packing-clause-told
returns-in_err-packing-clause-told g c = λ tells.
    reads_starved _ _ _ _ c.from_residual.ensures.1 (c.requires.loads tells).header (reads-refl _)

pub loop-packing-init : goal.loop-packing-init
loop-packing-init g c = record {
  read = none_read _ _ _ _ _ c.requires.begun c.requires.loads c.new-judged.ensures.bad (rw (← c.manager.ensures) c.new-judged.ensures.tables)
      (rw (← c.manager-2.ensures) c.in_ok-packing.ensures);
  manager = search rules;
  within = (let e = c.requires.begun.end in search rules);
  counts = search rules;
  reads = λ tells. reads-refl _;
}

pub next-requires : goal.next-requires
next-requires g c = record {
  loads = λ tells. (c.loop-packing.invariant.read.records, (c.loop-packing.invariant.read.so_far tells).loads);
}

pub judge_next-requires : goal.judge_next-requires
judge_next-requires g c = record {
  small = λ none. small_so_far _ c.records_add_up.ensures.longer c.serials_are_counted.ensures _ _ _ _ c.loop-packing.invariant.read
      c.loop-packing.invariant.within none;
}

pub loop-packing-preserved : goal.loop-packing-preserved
loop-packing-preserved g c =
    let reads = rw c.in-Record.is at c.in_ok-next.ensures.grown in
    let step = rw (c.count.ensures, c.record_bytes.ensures) at c.in_ok-judge_next.ensures in
    let packs = rw c.record_bytes-in-Record.ensures at c.in_ok-add.ensures in
    record {
      read = step_on _ c.records_add_up.ensures.adds c.records_add_up.ensures.longer c.serials_are_counted.ensures _ _ _ _ _ _ _ _
          c.loop-packing.invariant.read c.loop-packing.invariant.within reads step packs
          (λ tells rs loads. rw c.in-Record.is at (c.in_ok-next.ensures.found tells rs loads));
      manager = reads.manager ∙ c.loop-packing.invariant.manager;
      within = c.next.ensures.within;
      counts = c.in_ok-next.ensures.counts.stays (λ wrong. cc wrong) ∙ c.loop-packing.invariant.counts;
      reads = λ tells. reads-then _ _ _ (c.loop-packing.invariant.reads tells) (c.next.ensures.told tells);
    }

pub returns-in_err-judge_next-clause-told : goal.returns-in_err-judge_next-clause-told
returns-in_err-judge_next-clause-told g c = λ tells.
    let so_far = c.loop-packing.invariant.read.so_far tells in
    reads_starved _ _ _ _ c.from_residual-in_err-judge_next.ensures.1
    (rw c.in-Record.is at (c.in_ok-next.ensures.found tells c.loop-packing.invariant.read.records so_far.loads)).header
    (reads-then _ _ _ (c.loop-packing.invariant.reads tells) (c.next.ensures.told tells))

pub returns-in_err-add-clause-told : goal.returns-in_err-add-clause-told
returns-in_err-add-clause-told g c = λ tells.
    let so_far = c.loop-packing.invariant.read.so_far tells in
    reads_starved _ _ _ _ c.from_residual-in_err-add.ensures.1
    (rw c.in-Record.is at (c.in_ok-next.ensures.found tells c.loop-packing.invariant.read.records so_far.loads)).header
    (reads-then _ _ _ (c.loop-packing.invariant.reads tells) (c.next.ensures.told tells))

pub returns-in_err-next-clause-told : goal.returns-in_err-next-clause-told
returns-in_err-next-clause-told g c = λ tells.
    let so_far = c.loop-packing.invariant.read.so_far tells in
    record {
      finds = finds_why c.loop-packing.invariant.read.records _ _ _ _ _ _ (err_is _ _ c.from_residual-in_err-next.ensures.1) so_far.loads
          (c.next.ensures.told tells) c.in_err-next.ensures.grown
          (c.in_err-next.ensures.found tells c.loop-packing.invariant.read.records so_far.loads);
      reads = reads-then _ _ _ (c.loop-packing.invariant.reads tells) (c.next.ensures.told tells);
    }

pub returns-in_err-next-clause-counts : goal.returns-in_err-next-clause-counts
returns-in_err-next-clause-counts g c =
    rw (← c.loop-packing.invariant.counts) (next_failed _ _ _ _ _ (err_is _ _ c.from_residual-in_err-next.ensures.1) refl c.in_err-next.ensures.counts)

pub returns-in_err-finish-clause-told : goal.returns-in_err-finish-clause-told
returns-in_err-finish-clause-told g c = λ tells.
    let so_far = c.loop-packing.invariant.read.so_far tells in
    reads_starved _ _ _ _ c.from_residual-in_err-finish.ensures.1
    (header_of c.loop-packing.invariant.read.records _ _ _ c.in_default.not-Record
    (c.in_ok-next.ensures.found tells c.loop-packing.invariant.read.records so_far.loads))
    (reads-then _ _ _ (c.loop-packing.invariant.reads tells) (c.next.ensures.told tells))

pub returns-clause-read : goal.returns-clause-read
returns-clause-read g c =
    through _ _ _ _ _ _ _ _ _ c.loop-packing.invariant.read c.in_default.not-Record c.in_ok-next.ensures.grown c.in_ok-next.ensures.found
    c.in_ok-finish.ensures

pub returns-clause-told : goal.returns-clause-told
returns-clause-told g c = λ tells. record {
  finds = tt;
  reads =
      reads-then _ _ _ (c.loop-packing.invariant.reads tells) (c.next.ensures.told tells);
}
