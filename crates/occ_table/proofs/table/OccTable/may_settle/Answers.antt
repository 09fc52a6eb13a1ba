use Rattle.std.proofs.Common.{◌∙◌, ap, sym}
use Rattle.std.specs.Prelude.{option_copied}
use Rattle.occ_table.proofs.JudgeLaws.{settle_none, settle_there}
use Rattle.occ_table.proofs.table.OccTable.may_settle.Goals as goal

pub returns-in-Some : goal.returns-in-Some
returns-in-Some c = record {
  judged = λ outcome width m H legal stands.
      settle_there H c.args.tag.now c.in-Some.row.now _ (sym (c.occurrence.ensures.looks width m H legal stands)
      ∙ ap option_copied c.in-Some.is) c.has_open.ensures;
}

pub returns-in-None : goal.returns-in-None
returns-in-None c = record {
  judged = λ outcome width m H legal stands.
      settle_none width m H c.args.tag.now legal (sym (c.occurrence.ensures.looks width m H legal stands) ∙ ap option_copied c.in-None.is);
}
