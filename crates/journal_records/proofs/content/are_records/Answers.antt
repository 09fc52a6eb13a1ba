use Rattle.std.proofs.Common.{◌≡◌, ◌∙◌, sym, ap, subst, ◌+◌, ◌-◌, ◌≤◌, ◌<◌, ⊎_elim, take, drop, length, length-drop, List, ℕ, arith}
use Rattle.std.specs.Prelude.{◌==◌}
use Rattle.std.proofs.lemmas.Bool.{false≢true, cases_lt}
use Rattle.std.proofs.lemmas.List.{take_all}
use Rattle.journal_records.specs.Reading.{AreRecords, BeginWithRecord}
use Rattle.journal_records.proofs.ContentLemmas.{records_more, records_rest, records_none}
use Rattle.journal_records.proofs.content.are_records.Goals as goal

pub returns-in_default : goal.returns-in_default
returns-in_default c = (
  λ t. absurd (false≢true t),
  λ are. absurd (records_none c.loop-rest.rest.now
      (⊎_elim (λ (lt : length c.loop-rest.rest.now < 1).
      let none : length c.loop-rest.rest.now ≡ 0 = omega arith in
      absurd (false≢true (c.loop-rest-test.ensures ∙ ap (λ n. n == 0) none)))
      (λ (le : 1 ≤ length c.loop-rest.rest.now). le) (cases_lt (length c.loop-rest.rest.now) 1))
      c.in_default.ensures (c.loop-rest.invariant.1 are)),
)

pub loop-rest-preserved : goal.loop-rest-preserved
loop-rest-preserved c =
    let rest = c.loop-rest.rest.now in
    let size = c.in-Some.size in
    let begin : BeginWithRecord rest size = c.in-Some.ensures in
    let r = take size (drop 4 rest) in
    let behind = drop (4 + size) rest in
    let same : take (length rest - (4 + size)) behind ≡ behind =
    take_all (length rest - (4 + size)) behind (let d = length-drop (4 + size) rest in omega arith) in
    let P : List ℕ → Type 0 = λ v. AreRecords v in (
      λ are. c.loop-rest.invariant.0 (records_more r behind rest begin.one begin.is (subst P same are)),
      λ are. subst P (sym same) (records_rest r behind rest begin.one begin.is (c.loop-rest.invariant.1 are)),
    )
