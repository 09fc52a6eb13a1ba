use Rattle.std.proofs.Common.{◌∙◌, ap, cond, None, Option}
use Rattle.occ_table.specs.Resources.{KeptResources, kept_by, same_key}
use Rattle.occ_table.specs.declared.resources.Entry.{Entry}
use Rattle.occ_table.proofs.resources.Resources.forget.Goals as goal

pub returns-clause-entries : goal.returns-clause-entries
returns-clause-entries c = λ q. c.remove.ensures.updates.0 q ∙ ap
    (λ (r : KeptResources). cond {A = Option Entry} (same_key c.args.key.now q) None (kept_by r.entries q)) c.self.view_is
