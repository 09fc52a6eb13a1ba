use Rattle.std.proofs.Common.{◌∙◌, ap, sym}
use Rattle.std.specs.Prelude.{option_copied}
use Rattle.occ_table.proofs.AskingLaws.{try_none, try_there}
use Rattle.occ_table.proofs.table.OccTable.may_try.Goals as goal

pub returns-in-Some : goal.returns-in-Some
returns-in-Some c = record {
  judged = λ width m H legal stands.
      try_there H c.args.occ c.in-Some.row.now c.args.answer.now _ (sym (c.occurrence.ensures.looks width m H legal stands)
      ∙ ap option_copied c.in-Some.is) c.may_try.ensures;
}

pub returns-in-None : goal.returns-in-None
returns-in-None c = record {
  judged = λ width m H legal stands.
      try_none H c.args.occ c.args.answer.now (sym (c.occurrence.ensures.looks width m H legal stands) ∙ ap option_copied c.in-None.is);
}
