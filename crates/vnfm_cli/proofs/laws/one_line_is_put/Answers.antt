use Rattle.vnfm_commands.proofs.DiskLemmas.{one_put}
use Rattle.vnfm_cli.proofs.laws.one_line_is_put.Goals as goal

pub returns : goal.returns
returns g c = λ ending status a b ends. one_put ends.put a.counts b.counts ends.counts
