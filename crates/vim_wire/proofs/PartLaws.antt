-- The parts of some bytes, and what is joined of parts without the separator.
use Rattle.std.proofs.Common.{◌≡◌, ℕ, zero, suc, ◌+◌, ◌-◌, ◌<◌, ◌==◌, List, [], ◌∷◌, ◌++◌, Bool, true, false, length, take, drop, get_or}
use Rattle.std.proofs.Common.{refl, sym, ◌∙◌, ap, if◌then◌else◌, arith, add-one}
use Rattle.std.specs.List.{AllByRecursion}
use Rattle.std.proofs.lemmas.Bool.{eqb-true}
use Rattle.std.proofs.lemmas.List.{take_rest}
use Rattle.std.proofs.lemmas.Bool.Decides.{Decides-eqb}
use Rattle.vim_wire.specs.Parts.{joined, onto_first, parts_of}

-- no byte of these is the separator
abbrev pub Free : ℕ → List ℕ → Type 0
Free s [] = Unit {0}
Free s (byte ∷ bytes) = ((byte == s) ≡ false) × Free s bytes

pub Free-append : (s : ℕ) (a b : List ℕ) → Free s a → Free s b → Free s (a ++ b)
Free-append s [] b f g = g
Free-append s (x ∷ a) b f g = (f.0, Free-append s a b f.1 g)

-- a part in front of the first one
abbrev onto : List ℕ → List (List ℕ) → List (List ℕ)
onto [] parts = parts
onto (byte ∷ part) parts = onto_first byte (onto part parts)

onto-first : (part : List ℕ) (parts : List (List ℕ)) → onto part ([] ∷ parts) ≡ part ∷ parts
onto-first [] parts = refl
onto-first (byte ∷ part) parts = rw (onto-first part parts) refl

parts_of-append : (s : ℕ) (part bytes : List ℕ) → Free s part → parts_of s (part ++ bytes) ≡ onto part (parts_of s bytes)
parts_of-append s [] bytes f = refl
parts_of-append s (byte ∷ part) bytes f = rw (f.0, parts_of-append s part bytes f.1) refl

same : (s : ℕ) → (s == s) ≡ true
same s = (Decides-eqb s s).1 refl

-- the parts of what is joined are those that were joined
pub parts_of-joined : (s : ℕ) (part : List ℕ) (parts : List (List ℕ)) → Free s part → AllByRecursion (Free s) parts
    → parts_of s (joined s (part ∷ parts)) ≡ part ∷ parts
parts_of-joined s part [] f each = parts_of-append s part [] f ∙ onto-first part []
parts_of-joined s part (next ∷ parts) f each =
    let behind : parts_of s (s ∷ joined s (next ∷ parts)) ≡ [] ∷ next ∷ parts =
    rw (same s, parts_of-joined s next parts each.0 each.1) refl in
    parts_of-append s part (s ∷ joined s (next ∷ parts)) f ∙ ap (onto part) behind ∙ onto-first part (next ∷ parts)

-- some parts stand in any bytes
parts_some : (s : ℕ) (bytes : List ℕ) → (part : List ℕ) × (parts : List (List ℕ)) × (parts_of s bytes ≡ part ∷ parts)
parts_some s [] = ([], [], refl)
parts_some s (byte ∷ bytes) = of (byte == s) (parts_of s bytes) where
  of : (b : Bool) (ps : List (List ℕ)) → (part : List ℕ) × (parts : List (List ℕ))
      × ((if b then [] ∷ ps else onto_first byte ps) ≡ part ∷ parts)
  of true ps = ([], ps, refl)
  of false [] = (byte ∷ [], [], refl)
  of false (p ∷ ps) = (byte ∷ p, ps, refl)

-- bytes are their parts, joined
pub joined-parts_of : (s : ℕ) (bytes : List ℕ) → joined s (parts_of s bytes) ≡ bytes
joined-parts_of s [] = refl
joined-parts_of s (byte ∷ bytes) =
    let some = parts_some s bytes in
    let rest : joined s (some.0 ∷ some.1) ≡ bytes = ap (joined s) (sym some.2) ∙ joined-parts_of s bytes in
    rw some.2 (of (byte == s) refl some.0 some.1 rest) where
      of : (b : Bool) → (byte == s) ≡ b → (p : List ℕ) (ps : List (List ℕ)) → joined s (p ∷ ps) ≡ bytes
          → joined s (if b then [] ∷ p ∷ ps else onto_first byte (p ∷ ps)) ≡ byte ∷ bytes
      of true e p ps rest = let f : byte ≡ s = eqb-true byte s e in rw (f, rest) refl
      of false e p ps rest = ap (λ t. byte ∷ t) rest

-- the first separator ends the first part
pub parts_of-cut : (s : ℕ) (bytes : List ℕ) (at : ℕ) → at < length bytes → (get_or bytes at 0 == s) ≡ true
    → ((k : ℕ) → k < at → (get_or bytes k 0 == s) ≡ true → ⊥) → parts_of s bytes ≡ take at bytes ∷ parts_of s (drop (suc at) bytes)
parts_of-cut s [] at lt here before = absurd (omega arith)
parts_of-cut s (byte ∷ bytes) zero lt here before = rw here refl
parts_of-cut s (byte ∷ bytes) (suc at) lt here before =
    let other : (byte == s) ≡ false = no (byte == s) (before zero (omega arith)) in
    rw (other, parts_of-cut s bytes at (omega arith) here (λ k below. before (suc k) (omega arith))) refl where
      no : (b : Bool) → (b ≡ true → ⊥) → b ≡ false
      no true h = absurd (h refl)
      no false h = refl

-- where there is none, all is one part
pub parts_of-whole : (s : ℕ) (bytes : List ℕ) → ((k : ℕ) → k < length bytes → (get_or bytes k 0 == s) ≡ true → ⊥)
    → parts_of s bytes ≡ bytes ∷ []
parts_of-whole s [] none = refl
parts_of-whole s (byte ∷ bytes) none =
    let other : (byte == s) ≡ false = no (byte == s) (none zero (omega arith)) in
    rw (other, parts_of-whole s bytes (λ k below. none (suc k) (omega arith))) refl where
      no : (b : Bool) → (b ≡ true → ⊥) → b ≡ false
      no true h = absurd (h refl)
      no false h = refl

-- the same as the code cuts
pub cut_at : (s : ℕ) (bytes : List ℕ) (at : ℕ) → at < length bytes → (get_or bytes at 0 == s) ≡ true
    → ((k : ℕ) → k < at → (get_or bytes k 0 == s) ≡ true → ⊥)
    → parts_of s bytes ≡ take at bytes ∷ parts_of s (take (length bytes - (at + 1)) (drop (at + 1) bytes))
cut_at s bytes at lt here before = rw (take_rest bytes (at + 1), add-one) (parts_of-cut s bytes at lt here before)
