-- No pair is left.
use Rattle.std.proofs.Common.{◌≡◌, ◌∙◌, List, [], ◌∷◌, ◌⊎◌, inl, inr, length, true, ℕ, sym, refl}
use Rattle.lcm_events.specs.declared.changes.Change.{Change}
use Rattle.grant_desk.specs.declared.parts.Part.{Part}
use Rattle.grant_desk.specs.Tallies.{are_counted_once}
use Rattle.grant_desk.proofs.tallies.are_counted_once.Goals as goal

none_left : {X Y : Type 0} {P : X → Type 0} {Q : Y → Type 0} (part : Part) (xs : List Change) (ns : List ℕ)
    → (((x : X) × ((length xs ≡ 0) × P x)) ⊎ ((y : Y) × ((length ns ≡ 0) × Q y))) → are_counted_once part xs ns ≡ true
none_left part [] ns h = refl
none_left part (x ∷ xs) [] h = refl
none_left part (x ∷ xs) (n ∷ ns) (inl end) = let none = end.1.0 in cc
none_left part (x ∷ xs) (n ∷ ns) (inr end) = let none = end.1.0 in cc

pub returns : goal.returns
returns c = sym (c.loop-change.invariant ∙ none_left c.args.part c.loop-change.change-iterator.a.rest.now
    c.loop-change.change-iterator.b.rest.now c.in-None.ensures.steps)
