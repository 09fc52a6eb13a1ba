use Rattle.std.proofs.Common.{◌∙◌, ◌++◌, ◌∷◌, [], sym, subst, Result, Ok, Err}
use Rattle.std.proofs.lemmas.Result.{err_from_is_err_and}
use Rattle.journal_core.specs.declared.loading.Found.{Found}
use Rattle.old_journal.specs.Journal.{Ledger}
use Rattle.journal_core.specs.declared.loading.LoadFault.{LoadFault}
use Rattle.old_journal.specs.Load.{Finds, Loaded}
use Rattle.journal_core.proofs.LoadLemmas.{loading_keeps, syncs_then_reads}
use Rattle.old_journal.proofs.LoadLemmas.{failed_load}
use Rattle.old_journal.proofs.journal.OldJournal.load.Goals as goal

pub returns-in_err-next-clause-loaded : goal.returns-in_err-next-clause-loaded
returns-in_err-next-clause-loaded g c = λ tells.
    let before = c.loop-loading.invariant.loads tells in
    let b = g.S.Site.state c.next.new.site in
    let err = err_from_is_err_and c.from_residual-in_err-next.result c.from_residual-in_err-next.ensures.1 in
    let P : LoadFault → Type 0 = λ v. Finds before.0 (Err v) c.next.new.self b in
    let Q : Result Ledger LoadFault → Type 0 = λ v. Loaded v b in
    subst Q (sym err.1)
    (failed_load before.0 err.0 c.loop-loading.loading c.next.new.self (g.S.Site.state c.loop-loading.site) b before.1
    (c.next.ensures.told tells)
    c.in_err-next.ensures.grown (subst P (sym err.2) (c.in_err-next.ensures.found tells before.0 before.1)))

pub returns-in_err-next-clause-told : goal.returns-in_err-next-clause-told
returns-in_err-next-clause-told g c = λ tells. syncs_then_reads _ _ _ (c.loop-loading.invariant.told tells)
    (c.next.ensures.told tells)

pub returns-in-End-clause-told : goal.returns-in-End-clause-told
returns-in-End-clause-told g c = λ tells. syncs_then_reads _ _ _ (c.loop-loading.invariant.told tells)
    (c.next.ensures.told tells)

pub loop-loading-preserved : goal.loop-loading-preserved
loop-loading-preserved g c = record {
  loads = λ tells.
      let before = c.loop-loading.invariant.loads tells in
      let P : Found → Type 0 = λ v. Finds before.0 (Ok v) c.next.new.self (g.S.Site.state c.next.new.site) in (
        before.0 ++ c.next.new.self.record_bytes ∷ [],
        subst P c.in-Record.is
            (c.in_ok-next.ensures.found tells before.0 before.1),
      );
  told = λ tells. syncs_then_reads _ _ _ (c.loop-loading.invariant.told tells) (c.next.ensures.told tells);
  counts = c.in_ok-next.ensures.counts.stays (λ wrong. cc wrong) ∙ c.loop-loading.invariant.counts;
}

pub returns-in_err-next-clause-jobs : goal.returns-in_err-next-clause-jobs
returns-in_err-next-clause-jobs g c = λ tells. loading_keeps _ _
    (syncs_then_reads _ _ _ (c.loop-loading.invariant.told tells) (c.next.ensures.told tells))

pub returns-in-End-clause-jobs : goal.returns-in-End-clause-jobs
returns-in-End-clause-jobs g c = λ tells. loading_keeps _ _
    (syncs_then_reads _ _ _ (c.loop-loading.invariant.told tells)
    (c.next.ensures.told tells))

pub returns-in_err-loading-clause-jobs : goal.returns-in_err-loading-clause-jobs
returns-in_err-loading-clause-jobs g c = λ tells. loading_keeps _ _ (c.open.ensures.told tells)
