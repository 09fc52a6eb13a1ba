-- What an active occurrence is: asked for, in a state that isn't final, and with a row.
use Rattle.std.proofs.Common.{◌≡◌, ℕ, List, true, false, Option, None, Some, is_some, option_map, refl}
use Rattle.lcm_events.specs.declared.events.Event.{Event}
use Rattle.lcm_events.specs.declared.states.OpState.{OpState}
use Rattle.lcm_events.specs.declared.states.OpState.TheVariants.{Completed, Failed, FailedTemp, Processing, RolledBack, RollingBack}
use Rattle.lcm_events.specs.declared.states.OpState.TheVariants.{Starting}
use Rattle.lcm_laws.proofs.Lists.{and_left, and_right}
use Rattle.lcm_model.specs.Moves.{is_active, is_final, state}
use Rattle.lcm_model.specs.Operations.{operation}
use Rattle.occ_table.specs.Rows.{occurrence, row}
use Rattle.occ_steps.specs.Active.{IsActive}

-- it was asked for
pub active_asked : (H : List Event) (o : ℕ) → IsActive H o → is_some (operation H o) ≡ true
active_asked H o is = and_left (is_some (operation H o)) (is_active (state H o)) is

-- and its state is worked on
pub active_state : (H : List Event) (o : ℕ) → IsActive H o → is_active (state H o) ≡ true
active_state H o is = and_right (is_some (operation H o)) (is_active (state H o)) is

never_final : (s : OpState) → is_active s ≡ true → is_final s ≡ false
never_final Starting is = refl
never_final Processing is = refl
never_final RollingBack is = refl
never_final FailedTemp is = refl
never_final Completed is = cc
never_final Failed is = cc
never_final RolledBack is = cc

-- it isn't over
pub active_on : (H : List Event) (o : ℕ) → IsActive H o → is_final (state H o) ≡ false
active_on H o is = never_final (state H o) (active_state H o is)

-- it has a row
pub has_row : (H : List Event) (o : ℕ) → IsActive H o → occurrence H o ≡ None → ⊥
has_row H o is none = lost (row H) (operation H o) (active_asked H o is) none where
  lost : {A B : Type 0} → (f : A → B) (x : Option A) → is_some x ≡ true → option_map f x ≡ None → ⊥
  lost f None some none = cc
  lost f (Some a) some none = cc
