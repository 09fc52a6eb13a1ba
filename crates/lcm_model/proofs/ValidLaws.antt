-- What holds of a valid descriptor.
use Rattle.std.proofs.Common.{◌≡◌, ℕ, true}
use Rattle.std.specs.List.{list_all}
use Rattle.lcm_events.specs.declared.descriptor.Aspect.{Aspect}
use Rattle.lcm_events.specs.declared.descriptor.Row.{Row}
use Rattle.lcm_events.specs.declared.descriptor.Vnfd.{Vnfd}
use Rattle.lcm_model.specs.Levels.{has_small_row, has_small_deltas}
use Rattle.lcm_model.specs.Descriptors.{IsValid, is_valid_aspect, is_valid_row}
use Rattle.lcm_model.proofs.ListLaws.{and_front, and_back, and_both, list_all_weaker}

valid_row_small : (d : Vnfd) (steps : ℕ) (row : Row) → is_valid_row d steps row ≡ true → has_small_row row ≡ true
valid_row_small d steps row h = and_back _ _ h

valid_aspect_small : (d : Vnfd) (a : Aspect) → is_valid_aspect d a ≡ true → has_small_deltas a ≡ true
unfolding has_small_deltas
valid_aspect_small d a h =
    and_both _ _ (and_back _ _ (and_front _ _ (and_front _ _ (and_front _ _ h))))
    (list_all_weaker (is_valid_row d a.steps) has_small_row a.rows (valid_row_small d a.steps) (and_back _ _ h))

-- the aspects of a valid descriptor have small maxima and deltas
pub valid_small : (d : Vnfd) → IsValid d → list_all has_small_deltas d.aspects ≡ true
valid_small d v = list_all_weaker (is_valid_aspect d) has_small_deltas d.aspects (valid_aspect_small d) v.aspects
