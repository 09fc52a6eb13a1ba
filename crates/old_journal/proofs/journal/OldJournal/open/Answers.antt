use Rattle.std.proofs.Common.{◌∙◌, sym, ap, subst, refl, take, false, Result, Err}
use Rattle.std.proofs.lemmas.Result.{err_from_is_err_and}
use Rattle.journal_core.specs.declared.loading.LoadFault.{LoadFault}
use Rattle.journal_core.specs.declared.loading.LoadFault.TheVariants.{Memory}
use Rattle.old_journal.specs.declared.header.HeaderState.{HeaderState}
use Rattle.old_journal.specs.Judged.{Judged}
use Rattle.old_journal.specs.Load.{Progress, Opened}
use Rattle.old_journal.proofs.LoadLemmas.{loads_none}
use Rattle.journal_core.proofs.LoadLemmas.{no_fault}
use Rattle.old_journal.specs.Marks.{Kept}
use Rattle.old_journal.proofs.journal.OldJournal.open.Goals as goal

pub returns-in_ok-marks-in-Made-clause-opened : goal.returns-in_ok-marks-in-Made-clause-opened
returns-in_ok-marks-in-Made-clause-opened g c = λ tells.
    let s = g.S.Site.state c.front_of.new.site in
    let front = c.in_ok-len.ensures.front tells in
    let P : HeaderState → Type 0 = λ v. Judged s.image v in
    let l : Progress = record {
      manager = c.in-Made.manager;
      count = 0;
      end = 32;
      len = c.in_ok-len.len;
      record_bytes =
          take 0 c.in_ok-buffer-in-Made.buffer.items;
      ended = false;
      marks = c.in_ok-marks-in-Made.marks.places;
    } in
    loads_none l s front.settled (subst P c.in-Made.is front.judged) refl refl front.long
    (ap (λ (k : Kept). k.places) c.in_ok-marks-in-Made.ensures)

pub returns-in_err-marks-in-Made-clause-opened : goal.returns-in_err-marks-in-Made-clause-opened
returns-in_err-marks-in-Made-clause-opened g c = λ tells.
    let s = g.S.Site.state c.front_of.new.site in
    let front = c.in_ok-len.ensures.front tells in
    let P : HeaderState → Type 0 = λ v. Judged s.image v in
    let err = err_from_is_err_and c.from_residual-in_err-marks-in-Made.result
    c.from_residual-in_err-marks-in-Made.ensures.1 in
    let Q : Result Progress LoadFault → Type 0 = λ v. Opened v s in
    subst Q (sym (err.1 ∙ ap Err err.2)) (c.in-Made.manager, subst P c.in-Made.is front.judged)

pub returns-in_err-marks-in-Made-clause-counts : goal.returns-in_err-marks-in-Made-clause-counts
returns-in_err-marks-in-Made-clause-counts g c =
    let r = c.from_residual-in_err-marks-in-Made.result in
    let err = err_from_is_err_and r c.from_residual-in_err-marks-in-Made.ensures.1 in
    no_fault r Memory _ _ (err.1 ∙ ap Err err.2) (λ wrong. cc wrong) c.in_ok-len.ensures.cause.done

pub returns-in_ok-marks-in-Made-clause-counts : goal.returns-in_ok-marks-in-Made-clause-counts
returns-in_ok-marks-in-Made-clause-counts g c = record {
  rose = λ wrong. absurd (cc wrong);
  stays =
      λ _. c.in_ok-len.ensures.cause.done;
}
