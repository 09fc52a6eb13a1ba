use Rattle.vim_wire.proofs.SameLaws.{first_line}
use Rattle.vim_wire.proofs.laws.no_line_begins_another.Goals as goal

pub returns : goal.returns
returns c = first_line
