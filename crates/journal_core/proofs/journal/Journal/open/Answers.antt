use Rattle.std.proofs.Common.{◌∙◌, ◌+◌, sym, ap, subst, refl, false, Result, Err}
use Rattle.std.proofs.lemmas.Result.{err_from_is_err_and}
use Rattle.journal_core.specs.declared.loading.LoadFault.{LoadFault}
use Rattle.journal_core.specs.declared.loading.LoadFault.TheVariants.{Memory}
use Rattle.journal_core.specs.declared.header.HeaderState.{HeaderState}
use Rattle.journal_core.specs.Judged.{Judged}
use Rattle.journal_core.specs.Load.{Progress, Opened}
use Rattle.journal_core.proofs.LoadLemmas.{loads_none, no_fault}
use Rattle.journal_core.specs.Marks.{Kept}
use Rattle.journal_records.specs.Reading.{Reading}
use Rattle.journal_core.proofs.journal.Journal.open.Goals as goal

pub returns-in_ok-reader-in-Made-clause-opened : goal.returns-in_ok-reader-in-Made-clause-opened
returns-in_ok-reader-in-Made-clause-opened g c = λ tells.
    let s = g.S.Site.state c.front_of.new.site in
    let front = c.in_ok-len.ensures.front tells in
    let P : HeaderState → Type 0 = λ v. Judged s.image v in
    let l : Progress = record {
      manager = c.in-Made.manager;
      count = 0;
      end = c.in_ok-reader-in-Made.reader.place + c.in_ok-reader-in-Made.reader.left;
      total = 32;
      len = c.in_ok-len.len;
      record_bytes = c.in_ok-reader-in-Made.reader.record_bytes;
      ended = false;
      marks = c.in_ok-marks-in-Made.marks.places;
      reading = c.in_ok-reader-in-Made.reader;
    } in
    loads_none l s front.settled (subst P c.in-Made.is front.judged) refl
    (ap (λ (r : Reading). r.place + r.left) c.in_ok-reader-in-Made.ensures) refl front.long
    (ap (λ (k : Kept). k.places) c.in_ok-marks-in-Made.ensures) c.in_ok-reader-in-Made.ensures

pub returns-in_err-marks-in-Made-clause-opened : goal.returns-in_err-marks-in-Made-clause-opened
returns-in_err-marks-in-Made-clause-opened g c = λ tells.
    let s = g.S.Site.state c.front_of.new.site in
    let front = c.in_ok-len.ensures.front tells in
    let P : HeaderState → Type 0 = λ v. Judged s.image v in
    let err = err_from_is_err_and c.from_residual-in_err-marks-in-Made.result c.from_residual-in_err-marks-in-Made.ensures.1 in
    let Q : Result Progress LoadFault → Type 0 = λ v. Opened v s in
    subst Q (sym (err.1 ∙ ap Err err.2)) (c.in-Made.manager, subst P c.in-Made.is front.judged)

pub returns-in_err-marks-in-Made-clause-counts : goal.returns-in_err-marks-in-Made-clause-counts
returns-in_err-marks-in-Made-clause-counts g c =
    let r = c.from_residual-in_err-marks-in-Made.result in
    let err = err_from_is_err_and r c.from_residual-in_err-marks-in-Made.ensures.1 in
    no_fault r Memory _ _ (err.1 ∙ ap Err err.2) (λ wrong. cc wrong) c.in_ok-len.ensures.cause.done

pub returns-in_ok-reader-in-Made-clause-counts : goal.returns-in_ok-reader-in-Made-clause-counts
returns-in_ok-reader-in-Made-clause-counts g c = record { rose = λ wrong. absurd (cc wrong); stays = λ _. c.in_ok-len.ensures.cause.done }

pub returns-in_err-reader-in-Made-clause-opened : goal.returns-in_err-reader-in-Made-clause-opened
returns-in_err-reader-in-Made-clause-opened g c = λ tells.
    let s = g.S.Site.state c.front_of.new.site in
    let front = c.in_ok-len.ensures.front tells in
    let P : HeaderState → Type 0 = λ v. Judged s.image v in
    let err = err_from_is_err_and c.from_residual-in_err-reader-in-Made.result c.from_residual-in_err-reader-in-Made.ensures.1 in
    let Q : Result Progress LoadFault → Type 0 = λ v. Opened v s in
    subst Q (sym (err.1 ∙ ap Err err.2)) (c.in-Made.manager, subst P c.in-Made.is front.judged)

pub returns-in_err-reader-in-Made-clause-counts : goal.returns-in_err-reader-in-Made-clause-counts
returns-in_err-reader-in-Made-clause-counts g c =
    let r = c.from_residual-in_err-reader-in-Made.result in
    let err = err_from_is_err_and r c.from_residual-in_err-reader-in-Made.ensures.1 in
    no_fault r Memory _ _ (err.1 ∙ ap Err err.2) (λ wrong. cc wrong) c.in_ok-len.ensures.cause.done
