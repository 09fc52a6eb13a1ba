use Rattle.std.proofs.Common.{take, ap, ◌∙◌}
use Rattle.http_frames.specs.declared.TheConstants.{CHUNKED_BYTES}
use Rattle.http_client.proofs.ReadingLaws.{window_min}
use Rattle.http_client.proofs.responses.front.Goals as goal

pub returns : goal.returns
returns c = ap (λ k. take k c.args.tail.now) c.min.ensures ∙ window_min CHUNKED_BYTES c.args.tail.now
