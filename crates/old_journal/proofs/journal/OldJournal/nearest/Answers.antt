use Rattle.std.proofs.Common.{List, All, sym, ap, subst}
use Rattle.std.proofs.lemmas.List.Elements.{All-tail}
use Rattle.old_journal.specs.declared.marks.Mark.{Mark}
use Rattle.old_journal.specs.Marks.{IsMark}
use Rattle.old_journal.specs.Journal.{Ledger}
use Rattle.old_journal.proofs.journal.OldJournal.nearest.Goals as goal

pub returns-else-kept-self-clause-mark : goal.returns-else-kept-self-clause-mark
returns-else-kept-self-clause-mark g c = λ rs all.
    let i = c.self.inside in
    let P : List Mark → Type 0 = λ v. All (IsMark rs) v in
    c.near-kept.ensures.mark rs (All-tail (IsMark rs) i.last i.marks.places
    (subst P (sym (ap (λ (v : Ledger). v.marks) c.self.view_is)) all))
