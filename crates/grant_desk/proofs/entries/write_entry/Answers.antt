-- An entry has no float.
use Rattle.std.proofs.Common.{ap, ◌∙◌}
use Rattle.serde_json.specs.Written.{has_float}
use Rattle.grant_desk.proofs.RequestLaws.{entry_plain}
use Rattle.grant_desk.proofs.entries.write_entry.Goals as goal

pub value-requires : goal.value-requires
value-requires c =
    ap has_float c.in_ok-value.ensures
    ∙ entry_plain c.args.vnfd.now c.args.holding.now (c.args.k, c.args.change.now)
