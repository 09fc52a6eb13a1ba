use Rattle.http_client.proofs.ResponseLaws.{one_way}
use Rattle.http_client.proofs.laws.answers_are_one_way.Goals as goal

pub returns : goal.returns
returns c = one_way
