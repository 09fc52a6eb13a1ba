-- Moves are a path.
use Rattle.std.proofs.Common.{◌≡◌, ℕ, List, [], ◌∷◌, ◌++◌, ◌==◌, Bool, true, false, None, Some, refl, filter_map, subst, eqb-true}
use Rattle.std.proofs.Common.{unwrap_or, if◌then◌else◌}
use Rattle.lcm_events.specs.declared.events.Event.{Event}
use Rattle.lcm_events.specs.declared.events.EventKind.{EventKind}
use Rattle.lcm_events.specs.declared.events.EventKind.TheVariants.{Moved}
use Rattle.lcm_events.specs.declared.states.OpState.{OpState}
use Rattle.lcm_events.specs.declared.states.OpState.TheVariants.{Completed, Failed, FailedTemp, Processing, RolledBack, RollingBack}
use Rattle.lcm_events.specs.declared.states.OpState.TheVariants.{Starting}
use Rattle.std.specs.List.{cons_option}
use Rattle.lcm_model.specs.Words.{first}
use Rattle.lcm_model.specs.Moves.{IsPath, edge, moved_to, moves, state}
use Rattle.lcm_model.specs.Work.{MayMove}
use Rattle.lcm_model.specs.Allowed.{IsAllowedWithin, IsLegalWithin}

-- an occurrence that may move goes along an edge
pub may_move-edge : (H : List Event) (o : ℕ) (from to : OpState) → MayMove H o from to → edge from to ≡ true
may_move-edge H o Starting Processing h = refl
may_move-edge H o Starting RolledBack h = refl
may_move-edge H o Processing Completed h = refl
may_move-edge H o Processing FailedTemp h = refl
may_move-edge H o RollingBack RolledBack h = refl
may_move-edge H o RollingBack FailedTemp h = refl
may_move-edge H o FailedTemp RollingBack h = refl
may_move-edge H o FailedTemp Processing h = refl
may_move-edge H o FailedTemp Failed h = refl
may_move-edge H o _ _ h = absurd h

-- the states that a history moves an occurrence to, without the first one
later_states : List Event → ℕ → List OpState
later_states H o = filter_map (λ e. moved_to o e.kind) H

path_longer : (xs : List OpState) (to : OpState) → edge (unwrap_or (first (xs ++ Starting ∷ [])) Starting) to ≡ true
    → IsPath (xs ++ Starting ∷ []) → IsPath (to ∷ (xs ++ Starting ∷ []))
path_longer [] to e h = (e, h)
path_longer (x ∷ xs) to e h = (e, h)

moved_step : (H : List Event) (o occ : ℕ) (to : OpState) (same : Bool) → (occ == o) ≡ same → MayMove H occ (state H occ) to
    → IsPath (moves H o) → IsPath (cons_option (if same then Some to else None) (filter_map (λ e. moved_to o e.kind) H) ++ Starting ∷ [])
moved_step H o occ to true e may h =
    let is : occ ≡ o = eqb-true occ o e in
    let may_o : MayMove H o (state H o) to = subst (λ (n : ℕ). MayMove H n (state H n) to) is may in
    path_longer (filter_map (λ e. moved_to o e.kind) H) to (may_move-edge H o (state H o) to may_o) h
moved_step H o occ to false e may h = h

path_step : (width m : ℕ) (H : List Event) (k : EventKind) (o : ℕ) → IsAllowedWithin width m H k → IsPath (moves H o)
    → IsPath (cons_option (moved_to o k) (filter_map (λ e. moved_to o e.kind) H) ++ Starting ∷ [])
path_step width m H (Moved occ to) o a h = moved_step H o occ to (occ == o) refl a.1 h
path_step width m H _ o a h = h

-- the moves of an occurrence are a path
pub path : (width m : ℕ) (H : List Event) → IsLegalWithin width m H → (o : ℕ) → IsPath (moves H o)
path width m [] h o = refl
path width m (e ∷ H) h o = path_step width m H e.kind o h.0 (path width m H h.1 o)
