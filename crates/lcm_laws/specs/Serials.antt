-- The serials of machines, and how many changes were asked for (own rule).
use Rattle.std.specs.Prelude.{List, length, map, ℕ, ◌≤◌}
use Rattle.lcm_events.specs.declared.events.Event.{Event}
use Rattle.lcm_model.specs.Allowed.{IsLegalWithin}
use Rattle.lcm_model.specs.Holding.{top}
use Rattle.lcm_model.specs.Operations.{operations}
use Rattle.lcm_model.specs.Words.{total}

-- how many changes all operations of the history have together (own rule)
abbrev pub changes_asked : List Event → ℕ
changes_asked H = total (map (λ a. length a.changes) (operations H))

-- in a legal history no serial is greater than the number of changes that were asked for (own rule)
abbrev pub SerialsAreCounted : Type 0
SerialsAreCounted = (width m : ℕ) (H : List Event) → IsLegalWithin width m H → (i v : ℕ) → top H i v ≤ changes_asked H
