use Rattle.event_codec.proofs.KindLaws.{spelling-first}
use Rattle.event_codec.proofs.laws.no_spelling_begins_another.Goals as goal

pub returns : goal.returns
returns c = spelling-first
