use Rattle.http_client.proofs.ReadingLaws.{from_nothing}
use Rattle.http_client.proofs.responses.read_once.Goals as goal

pub read-requires : goal.read-requires
read-requires c = from_nothing c.args.bytes.now c.in-Ok-new.reader (c.in-Ok-new.ensures c.args.bytes.now)
