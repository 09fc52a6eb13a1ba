-- What was opened is lost at the first call that isn't answered by yes.
use Rattle.std.proofs.Common.{ap, ◌∙◌}
use Rattle.host_calls.specs.Files.{FileCall, made_once, yes_or_no}
use Rattle.std.specs.Prelude.{Ok}
use Rattle.outside_edges.proofs.HavingLemmas.{stops_behind, stops_by_fault, stops_by_no}
use Rattle.outside_edges.proofs.real_site.lent.Goals as goal

pub returns-in-Ok-false-clause-goes : goal.returns-in-Ok-false-clause-goes
returns-in-Ok-false-clause-goes g c = λ tells.
    let one = c.in-Ok-false.ensures.told tells in
    stops_by_no FileCall.kind_check _ _ _ (ap (λ s. s.calls) one) (ap (λ s. s.last) one
    ∙ ap (λ b. yes_or_no (Ok b)) c.in-Ok-false.field-0-test)

pub returns-in-Err-clause-goes : goal.returns-in-Err-clause-goes
returns-in-Err-clause-goes g c = λ tells.
    let one = c.in-Err.ensures.told tells in
    stops_by_fault FileCall.kind_check _ _ _ _ _ (ap (λ s. s.calls) one) (ap (λ s. s.last) one) c.why_of.ensures

pub returns-in-Err-try_lock-clause-goes : goal.returns-in-Err-try_lock-clause-goes
returns-in-Err-try_lock-clause-goes g c = λ tells.
    let one = c.in-Ok-true.ensures.told tells in
    let two = c.in-Err-try_lock.ensures.told tells in
    stops_behind FileCall.kind_check _ _ _ _
    (stops_by_fault FileCall.locking _ _ _ _ _ (ap (λ s. s.calls) two ∙ ap (λ s. made_once FileCall.locking s.calls) one)
    (ap (λ s. s.last) two) c.why_of-in-Err-try_lock.ensures)

pub returns-in-Err-forget_pages-clause-goes : goal.returns-in-Err-forget_pages-clause-goes
returns-in-Err-forget_pages-clause-goes g c = λ tells.
    let one = c.in-Ok-true.ensures.told tells in
    let two = c.try_lock.ensures.told tells in
    let three = c.in-Err-forget_pages.ensures.told tells in
    stops_behind FileCall.kind_check _ _ _ _
    (stops_behind FileCall.locking _ _ _ _
    (stops_by_fault FileCall.page_drop _ _ _ _ _
    (ap (λ s. s.calls) three ∙ ap (λ s. made_once FileCall.page_drop s.calls) two
    ∙ ap (λ s. made_once FileCall.page_drop (made_once FileCall.locking s.calls)) one)
    (ap (λ s. s.last) three) c.why_of-in-Err-forget_pages.ensures))
