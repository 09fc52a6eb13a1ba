use Rattle.std.proofs.Common.{◌∙◌, ap, sym}
use Rattle.std.specs.Prelude.{option_copied}
use Rattle.occ_table.proofs.BeginLaws.{begin_none, begin_there}
use Rattle.occ_table.proofs.table.OccTable.may_begin.Goals as goal

pub returns-in-Some : goal.returns-in-Some
returns-in-Some c = record {
  judged = λ m H legal stands.
      begin_there c.args.width m H c.args.tag.now c.in-Some.row.now _ legal
      (sym (c.occurrence.ensures.looks c.args.width m H legal stands) ∙ ap option_copied c.in-Some.is) c.may_begin.ensures;
}

pub returns-in-None : goal.returns-in-None
returns-in-None c = record {
  judged = λ m H legal stands.
      begin_none c.args.width H c.args.tag.now (sym (c.occurrence.ensures.looks c.args.width m H legal stands)
      ∙ ap option_copied c.in-None.is);
}
