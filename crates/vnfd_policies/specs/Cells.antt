-- What an aspect and a VDU by name are seen as.
use Rattle.std.specs.Prelude.{ℕ, List}
use Rattle.vnfd_policies.specs.declared.deltas.Cell.{Cell}

-- the two names
abbrev pub cell : Cell → List ℕ × List ℕ
cell c = (c.aspect.now, c.vdu.now)
