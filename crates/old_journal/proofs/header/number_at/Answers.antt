use Rattle.std.proofs.Common.{◌∙◌, sym, ap}
use Rattle.std.specs.Int.{w32, from_be_bytes}
use Rattle.journal_records.proofs.ByteLemmas.{four_at}
use Rattle.old_journal.proofs.header.number_at.Goals as goal

pub returns : goal.returns
returns c = c.from_be_bytes.ensures ∙ ap (from_be_bytes w32) (sym (four_at 9 c.args.front.now c.requires))
