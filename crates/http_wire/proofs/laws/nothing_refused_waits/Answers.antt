use Rattle.http_wire.proofs.ExactLaws as laws
use Rattle.http_wire.proofs.laws.nothing_refused_waits.Goals as goal

pub returns : goal.returns
returns c = laws.nothing_refused_waits
