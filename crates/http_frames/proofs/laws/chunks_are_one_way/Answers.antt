use Rattle.http_frames.proofs.OneBodyLaws.{one_body}
use Rattle.http_frames.proofs.laws.chunks_are_one_way.Goals as goal

pub returns : goal.returns
returns c = one_body
