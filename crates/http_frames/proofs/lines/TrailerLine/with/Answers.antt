use Rattle.std.proofs.Common.{◌≡◌, ◌≤◌, List, ℕ, [], ◌∷◌, ◌++◌, length, refl, inl, inr, arith}
use Rattle.http_frames.specs.Chunks.{IsEmptyLine}
use Rattle.http_frames.specs.Lines.{IsLineFront}
use Rattle.http_frames.specs.declared.lines.TrailerLine.{TrailerLine}
use Rattle.http_frames.specs.declared.lines.TrailerLine.TheVariants as line
use Rattle.http_frames.proofs.lines.TrailerLine.with.Goals as goal

-- behind something there is something, and so there is behind CR
full : (front bytes : List ℕ) (l : TrailerLine) → IsLineFront front l → (l ≡ line.Nothing → ⊥) → 1 ≤ length bytes
    → IsEmptyLine (front ++ bytes) → ⊥
full front bytes line.Nothing is other some empty = other refl
full [] bytes line.Return is other some empty = absurd (cc)
full (x ∷ front) [] line.Return is other some empty = absurd (omega arith)
full (x ∷ front) (y ∷ bytes) line.Return is other some (inl e) = absurd (cc)
full (x ∷ []) (y ∷ bytes) line.Return is other some (inr e) = absurd (cc)
full (x ∷ z ∷ front) (y ∷ bytes) line.Return is other some (inr e) = absurd (cc)
full [] bytes line.Something is other some empty = is (inl refl)
full (x ∷ front) [] line.Something is other some empty = absurd (omega arith)
full (x ∷ front) (y ∷ bytes) line.Something is other some (inl e) = absurd (cc)
full (x ∷ []) (y ∷ bytes) line.Something is other some (inr e) = absurd (cc)
full (x ∷ z ∷ front) (y ∷ bytes) line.Something is other some (inr e) = absurd (cc)

-- two bytes are something
long : (front bytes : List ℕ) → 2 ≤ length bytes → IsEmptyLine (front ++ bytes) → ⊥
long front [] two empty = absurd (omega arith)
long front (x ∷ []) two empty = absurd (omega arith)
long [] (x ∷ y ∷ bytes) two (inl e) = absurd (cc)
long [] (x ∷ y ∷ bytes) two (inr e) = absurd (cc)
long (a ∷ front) (x ∷ y ∷ bytes) two (inl e) = absurd (cc)
long (a ∷ []) (x ∷ y ∷ bytes) two (inr e) = absurd (cc)
long (a ∷ b ∷ front) (x ∷ y ∷ bytes) two (inr e) = absurd (cc)

pub returns-in_default-2 : goal.returns-in_default-2
returns-in_default-2 c = λ front is. full front c.args.bytes.now c.args.self is c.in_default.not-Nothing-0 c.in_default.len_at_least

pub returns-in_default-3 : goal.returns-in_default-3
returns-in_default-3 c = λ front is. long front c.args.bytes.now c.in_default.len_at_least
