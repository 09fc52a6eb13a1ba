use Rattle.request_pool.proofs.FrontLaws.{whole_empty}
use Rattle.request_pool.proofs.fronts.whole_at.Goals as goal

pub returns : goal.returns
returns c = whole_empty c.args.bytes.now c.args.head c.requires.head c.requires.empty
