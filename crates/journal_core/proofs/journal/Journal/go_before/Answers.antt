use Rattle.std.proofs.Common.{sym, ap, subst, refl, inr, List, All}
use Rattle.journal_core.specs.declared.marks.Mark.{Mark}
use Rattle.journal_core.specs.Marks.{IsMark}
use Rattle.journal_core.specs.Journal.{Ledger}
use Rattle.journal_core.proofs.journal.Journal.go_before.Goals as goal

pub returns : goal.returns
returns g c = record {
  goes = record {
    before = c.near-kept.ensures.before;
    same = ap (λ (j : Ledger). let k : Ledger = record j {
      back = c.stand_at.new.self.record_bytes;
      behind = c.near-kept.result.before;
      reading = c.stand_at.new.self;
    } in k) c.self.view_is;
    stands = inr (
      c.near-kept.result,
      refl,
      c.stand_at.ensures,
      λ bs all. c.near-kept.ensures.mark bs (let P : List Mark → Type 0 = λ v. All (IsMark bs) v in
          subst P (sym (ap (λ (j : Ledger). j.marks) c.self.view_is)) all),
    );
  };
}
