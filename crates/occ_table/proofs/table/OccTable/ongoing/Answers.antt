use Rattle.std.proofs.Common.{◌∙◌}
use Rattle.occ_table.proofs.OngoingSteps.{engaged_at}
use Rattle.occ_table.proofs.table.OccTable.ongoing.Goals as goal

pub returns : goal.returns
returns c = record {
  goes_on = λ width m H legal is. c.ongoing_at.ensures
      ∙ engaged_at width m H c.args.self.now.ongoing c.args.instance legal is;
}
