use Rattle.std.proofs.Common.{◌≡◌, ◌∷◌, ◌++◌, map, take}
use Rattle.std.specs.Prelude.{All}
use Rattle.std.specs.List.{flat_map}
use Rattle.vnfm_base.specs.Text.{IsName}
use Rattle.vim_wire.specs.Lines.{name_field}
use Rattle.vim_wire.proofs.writing.put_names.Given as goal

abbrev pub invariant-loop-name : goal.invariant-loop-name
invariant-loop-name l = record {
  spelled : l.line.items ≡ l.fn.line.items ++ flat_map (λ f. 32 ∷ f) (map name_field (take l.name-index l.names));
  typed : All IsName (take l.name-index l.names);
}
