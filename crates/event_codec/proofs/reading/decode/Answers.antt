use Rattle.event_codec.proofs.KindLaws.{decode-again, decode-found, decode-none}
use Rattle.event_codec.proofs.reading.decode.Goals as goal

pub returns-clause-found : goal.returns-clause-found
returns-clause-found c = decode-found c.args.bytes.now c.whole.result (λ i. (c.type_inv.bytes i).fits) c.whole.ensures

pub returns-clause-none : goal.returns-clause-none
returns-clause-none c = decode-none c.args.bytes.now c.whole.result c.whole.ensures

pub returns-clause-again : goal.returns-clause-again
returns-clause-again c = decode-again c.args.bytes.now c.whole.result c.whole.ensures
