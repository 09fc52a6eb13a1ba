-- Instances, occurrences and subscriptions are numbered in the order in which they were made (own rule).
use Rattle.std.specs.List.{range_with_len}
use Rattle.std.specs.Prelude.{List, length, map, reverse, ℕ, ◌≡◌}
use Rattle.lcm_events.specs.declared.events.Event.{Event}
use Rattle.lcm_model.specs.Allowed.{IsLegalWithin}
use Rattle.lcm_model.specs.Lives.{creations, subscriptions}
use Rattle.lcm_model.specs.Operations.{operations}

-- these numbers, the latest first, run from 1 without a gap (own rule)
abbrev pub RunFromOne : List ℕ → Type 0
RunFromOne ns = reverse ns ≡ range_with_len 1 (length ns)

-- the numbers of what was made by a history run from 1 without a gap (own rule)
pub record IsNumbered (H : List Event) : Type 0 where
  pub instances : RunFromOne (map (λ x. x.instance) (creations H))
  pub occurrences : RunFromOne (map (λ a. a.occ) (operations H))
  pub subscriptions : RunFromOne (map (λ x. x.number) (subscriptions H))

-- in a legal history the n-th instance, occurrence and subscription have number n (own rule)
abbrev pub NumbersRunFromOne : Type 0
NumbersRunFromOne = (width m : ℕ) (H : List Event) → IsLegalWithin width m H → IsNumbered H
