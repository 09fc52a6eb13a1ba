-- The records of a file are the spellings of one history, and none of them is bad where that history is legal.
use Rattle.std.proofs.Common.{◌∙◌, ⊎_elim, sym, subst, ℕ}
use Rattle.executor.proofs.LawLemmas.{no_bad, spellings-inj}
use Rattle.executor.specs.History.{spellings}
use Rattle.executor.specs.Open.{IsBadAt}
use Rattle.old_journal.specs.File.{records, HasRecords}
use Rattle.old_journal.specs.Head.{IsBrokenAt}
use Rattle.journal_migration.proofs.laws.old_files_have_one_history.Goals as goal

pub returns-clause-one : goal.returns-clause-one
returns-clause-one c = λ m n H G image small also_small has also.
    let laws = c.files_are_one_thing.ensures in
    let same = c.old_files_are_one_thing.ensures.once m n (spellings H) (spellings G) image small also_small has.file also.file in (
      same.0,
      spellings-inj c.no_spelling_begins_another.ensures laws.once laws.records laws.broken laws.breaks_once laws.manager H G has.events
          also.events same.1,
    )

pub returns-clause-good : goal.returns-clause-good
returns-clause-good c = λ m n H image small has legal bad.
    let laws = c.files_are_one_thing.ensures in
    let old = c.old_files_are_one_thing.ensures in
    ⊎_elim
    (λ (broken : IsBrokenAt bad.0 n image). old.broken m bad.0 n (spellings H) image has.file broken)
    (λ (late : HasRecords bad.0 (records image) image × IsBadAt bad.0 n (records image)).
    let same = old.once m bad.0 (spellings H) (records image) image small bad.1.number has.file late.0 in
    let P : ℕ → Type 0 = λ k. IsBadAt k n (records image) in
    let found = subst P (sym same.0) late.1 in
    no_bad c.no_spelling_begins_another.ensures laws.once laws.records laws.broken laws.breaks_once laws.manager m H found.before found.bytes
    found.rest has.events found.events legal (same.1 ∙ found.is) found.none)
    bad.2

pub returns-clause-other : goal.returns-clause-other
returns-clause-other c = λ m H image has. (
  λ unmade. c.old_files_are_one_thing.ensures.unmade m (spellings H) image has.file unmade,
  λ place foreign. c.old_files_are_one_thing.ensures.foreign m place (spellings H) image has.file foreign,
)

pub returns-clause-bad : goal.returns-clause-bad
returns-clause-bad c = λ n image bad. c.old_files_are_one_thing.ensures.headed bad.0 image bad.1
