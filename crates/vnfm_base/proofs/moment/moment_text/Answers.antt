use Rattle.std.proofs.Common.{rules}
use Rattle.vnfm_base.proofs.moment.moment_text.Goals as goal

pub returns : goal.returns
returns c = (c.date_of.result, search rules, search rules)
