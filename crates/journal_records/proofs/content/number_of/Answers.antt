use Rattle.journal_records.proofs.ContentLemmas.{number_is}
use Rattle.journal_records.proofs.content.number_of.Goals as goal

pub returns : goal.returns
returns c = number_is c.args.bytes.now _ c.requires c.from_be_bytes.ensures
