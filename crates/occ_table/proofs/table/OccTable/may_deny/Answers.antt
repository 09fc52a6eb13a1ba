use Rattle.std.proofs.Common.{◌∙◌, ap, sym}
use Rattle.std.specs.Prelude.{option_copied}
use Rattle.occ_table.proofs.AskingLaws.{asking_none, deny_there}
use Rattle.occ_table.proofs.table.OccTable.may_deny.Goals as goal

pub returns-in-Some : goal.returns-in-Some
returns-in-Some c = record {
  judged = λ width m H legal stands.
      deny_there H c.args.occ c.in-Some.row.now _ (sym (c.occurrence.ensures.looks width m H legal stands) ∙ ap option_copied c.in-Some.is)
      c.is_asking.ensures;
}

pub returns-in-None : goal.returns-in-None
returns-in-None c = record {
  judged = λ width m H legal stands.
      asking_none H c.args.occ (sym (c.occurrence.ensures.looks width m H legal stands) ∙ ap option_copied c.in-None.is);
}
