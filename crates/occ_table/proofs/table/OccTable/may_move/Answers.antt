use Rattle.std.proofs.Common.{◌∙◌, ap, sym}
use Rattle.std.specs.Prelude.{option_copied}
use Rattle.occ_table.proofs.MoveLaws.{move_none, move_there}
use Rattle.occ_table.proofs.table.OccTable.may_move.Goals as goal

pub returns-in-Some : goal.returns-in-Some
returns-in-Some c = record {
  judged = λ width m H legal stands.
      move_there width m H c.args.occ c.args.to c.in-Some.row.now _ legal
      (sym (c.occurrence.ensures.looks width m H legal stands) ∙ ap option_copied c.in-Some.is)
      c.may_move.ensures;
}

pub returns-in-None : goal.returns-in-None
returns-in-None c = record {
  judged = λ width m H legal stands.
      move_none H c.args.occ c.args.to (sym (c.occurrence.ensures.looks width m H legal stands) ∙ ap option_copied c.in-None.is);
}
