use Rattle.std.proofs.Common.{◌∙◌, ap, sym}
use Rattle.std.specs.Prelude.{option_copied}
use Rattle.occ_table.proofs.JudgeLaws.{cancel_none, cancel_there}
use Rattle.occ_table.proofs.table.OccTable.may_cancel.Goals as goal

pub returns-in-Some : goal.returns-in-Some
returns-in-Some c = record {
  judged = λ mode width m H legal stands.
      cancel_there H c.args.occ c.in-Some.row.now _ (sym (c.occurrence.ensures.looks width m H legal stands)
      ∙ ap option_copied c.in-Some.is) c.works.ensures;
}

pub returns-in-None : goal.returns-in-None
returns-in-None c = record {
  judged = λ mode width m H legal stands.
      cancel_none H c.args.occ (sym (c.occurrence.ensures.looks width m H legal stands) ∙ ap option_copied c.in-None.is);
}
