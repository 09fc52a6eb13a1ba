use Rattle.std.proofs.Common.{◌≡◌, ◌++◌, map, length}
use Rattle.std.specs.Prelude.{All}
use Rattle.vnfm_base.specs.Text.{IsName}
use Rattle.vim_wire.specs.Lines.{name_field}
use Rattle.vim_wire.proofs.reading.names_of.Given as goal

abbrev pub invariant-loop-field : goal.invariant-loop-field
invariant-loop-field l = record {
  names : All IsName l.names;
  front : l.fn.fields ≡ map name_field l.names ++ l.fields;
}

abbrev pub decreases-loop-field : goal.decreases-loop-field
decreases-loop-field l = length l.fields
