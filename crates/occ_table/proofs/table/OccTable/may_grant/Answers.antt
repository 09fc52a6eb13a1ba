use Rattle.std.proofs.Common.{◌∙◌, ap, sym}
use Rattle.std.proofs.lemmas.Result.{IfOk-weaker}
use Rattle.std.specs.Prelude.{option_copied}
use Rattle.occ_table.proofs.AskingLaws.{grant_none, grant_there}
use Rattle.occ_table.proofs.table.OccTable.may_grant.Goals as goal

pub returns-in-Some : goal.returns-in-Some
returns-in-Some c = record {
  judged = IfOk-weaker c.may_take.result _ _
      (λ yes may width m H legal stands.
      grant_there H c.args.occ c.in-Some.row.now c.args.grant.now c.args.places.now c.args.spots.now yes
      (sym (c.occurrence.ensures.looks width m H legal stands) ∙ ap option_copied c.in-Some.is) may)
      c.may_take.ensures;
}

pub returns-in-None : goal.returns-in-None
returns-in-None c = record {
  judged = λ width m H legal stands.
      grant_none H c.args.occ c.args.grant.now c.args.places.now c.args.spots.now
      (sym (c.occurrence.ensures.looks width m H legal stands) ∙ ap option_copied c.in-None.is);
}
