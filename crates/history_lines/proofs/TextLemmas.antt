-- A text that grew by parts has grown by all of them.
use Rattle.std.proofs.Common.{◌≡◌, ◌++◌, ◌∙◌, ℕ, List, ap, append_assoc}

-- by two parts
pub two : (old mid new a b : List ℕ) → mid ≡ old ++ a → new ≡ mid ++ b → new ≡ old ++ (a ++ b)
two old mid new a b first second = second ∙ (ap (λ t. t ++ b) first ∙ append_assoc old a b)

-- a part that is this one
pub same_part : (mid new part same : List ℕ) → new ≡ mid ++ part → part ≡ same → new ≡ mid ++ same
same_part mid new part same grown is = grown ∙ ap (λ t. mid ++ t) is
