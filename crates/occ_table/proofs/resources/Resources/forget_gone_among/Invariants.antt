use Rattle.std.proofs.Common.{take, cond, ◌≡◌, ◌≤◌, ◌&&◌, ◌==◌, ℕ}
use Rattle.std.specs.List.{list_any}
use Rattle.std.specs.Prelude.{option_and_then}
use Rattle.lcm_events.specs.Same.{same_def}
use Rattle.lcm_events.specs.declared.changes.Def.{Def}
use Rattle.occ_table.specs.Resources.{kept_of, where_it_stands}
use Rattle.occ_table.proofs.resources.Resources.forget_gone_among.Given as goal

abbrev pub invariant-loop-change : goal.invariant-loop-change
invariant-loop-change l =
    ((i : ℕ) (x : Def) → kept_of l.self.entries i x
    ≡ cond ((l.instance == i) && list_any (λ c. same_def c.def x) (take l.change-index l.changes))
    (option_and_then where_it_stands (kept_of l.initial.self.entries i x)) (kept_of l.initial.self.entries i x))
    × (l.initial.self.spare ≤ l.self.spare) × (l.self.room ≡ l.initial.self.room)
