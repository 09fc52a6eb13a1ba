use Rattle.std.proofs.Common.{◌∙◌, ap}
use Rattle.occ_table.specs.Resources.{KeptResources, kept_by}
use Rattle.occ_table.proofs.resources.Resources.reserve.Goals as goal

pub returns-in_err-reserve-clause-kept : goal.returns-in_err-reserve-clause-kept
returns-in_err-reserve-clause-kept c = λ q. c.reserve.ensures.entries.2 q ∙ ap (λ (r : KeptResources). kept_by r.entries q) c.self.view_is

pub returns-clause-kept : goal.returns-clause-kept
returns-clause-kept c = λ q. c.reserve.ensures.entries.2 q ∙ ap (λ (r : KeptResources). kept_by r.entries q) c.self.view_is
