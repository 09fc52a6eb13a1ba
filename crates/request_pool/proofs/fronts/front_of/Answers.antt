use Rattle.std.proofs.Common.{take, ap, ◌∙◌}
use Rattle.http_frames.specs.declared.TheConstants.{CHUNKED_BYTES}
use Rattle.http_wire.proofs.TakeLaws.{window_min}
use Rattle.request_pool.proofs.fronts.front_of.Goals as goal

pub returns : goal.returns
returns c = ap (λ k. take k c.args.tail.now) c.min.ensures ∙ window_min CHUNKED_BYTES c.args.tail.now
