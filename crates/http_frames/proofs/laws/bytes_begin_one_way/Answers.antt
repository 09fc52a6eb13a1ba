use Rattle.http_frames.proofs.BeginningLaws.{one_way}
use Rattle.http_frames.proofs.laws.bytes_begin_one_way.Goals as goal

pub returns : goal.returns
returns c = one_way
