-- What the first bytes at the place of a gate say of what stands there.
use Rattle.std.proofs.Common.{◌≡◌, ◌∙◌, sym, ap, subst, inl, inr, ℕ, ◌+◌, ◌≤◌, ◌<◌, List, [], ◌∷◌, length, take, drop}
use Rattle.std.proofs.Common.{get_or, refl, arith}
use Rattle.std.specs.Int.{w32, from_be_bytes}
use Rattle.std.proofs.lemmas.List.{take-take}
use Rattle.journal_records.specs.File.{number}
use Rattle.old_journal.specs.Head.{IsOpen, IsBroken, EndsWithin}
use Rattle.journal_records.proofs.ByteLemmas.{below_drop, four_at}

-- five bytes in front of a body: its number is theirs
pub number_of : (bytes body : List ℕ) (gate n : ℕ) → bytes ≡ gate ∷ take 4 body → 5 ≤ length bytes
    → n ≡ from_be_bytes w32 (get_or bytes 1 0 ∷ get_or bytes 2 0 ∷ get_or bytes 3 0 ∷ get_or bytes 4 0 ∷ [])
    → n ≡ number body
unfolding number
number_of bytes body gate n is long size =
    size ∙ ap (from_be_bytes w32) (sym (four_at 1 bytes (omega arith)) ∙ ap (λ v. take 4 (drop 1 v)) is
    ∙ take-take 4 4 body (omega arith))

-- an open gate in front of a record
pub head_open : (end len n : ℕ) (bytes rest : List ℕ) → bytes ≡ take 5 rest → end + length rest ≡ len
    → get_or bytes 0 0 ≡ 1
    → 5 ≤ length bytes → ((i : ℕ) → get_or bytes i 0 < 256)
    → n ≡ from_be_bytes w32 (get_or bytes 1 0 ∷ get_or bytes 2 0 ∷ get_or bytes 3 0 ∷ get_or bytes 4 0 ∷ [])
    → EndsWithin end len n
    → IsOpen end n rest
head_open end len n bytes [] is whole gate long small size ends = absurd (omega (arith, ap length is))
head_open end len n bytes (g ∷ body) is whole gate long small size ends =
    let n_is = number_of bytes body g n is long size in
    let is_open : g ≡ 1 = sym (ap (λ v. get_or v 0 0) is) ∙ gate in
    record {
      body = body;
      is = ap (λ v. v ∷ body) is_open;
      good = record {
        whole = omega (arith, n_is, ends.whole);
        some = omega (arith, n_is, ends.some);
        fits = omega (arith, n_is, ends.fits);
        small = omega (arith, n_is, ends.small);
      };
      size = sym n_is;
      bytes_are = λ i. let P : List ℕ → Type 0 = λ v. get_or v i 0 < 256 in
          subst P (ap (drop 1) is) (below_drop 1 bytes small i);
    }

-- an open gate with no record behind it
pub head_broken : (end len n : ℕ) (bytes rest : List ℕ) → bytes ≡ take 5 rest → end + length rest ≡ len
    → get_or bytes 0 0 ≡ 1
    → 5 ≤ length bytes
    → n ≡ from_be_bytes w32 (get_or bytes 1 0 ∷ get_or bytes 2 0 ∷ get_or bytes 3 0 ∷ get_or bytes 4 0 ∷ [])
    → (EndsWithin end len n → ⊥)
    → IsBroken end rest
head_broken end len n bytes [] is whole gate long size not = inl refl
head_broken end len n bytes (g ∷ body) is whole gate long size not =
    let n_is = number_of bytes body g n is long size in
    let is_open : g ≡ 1 = sym (ap (λ v. get_or v 0 0) is) ∙ gate in
    inr (
      body,
      ap (λ v. v ∷ body) is_open,
      λ good. not (record {
        some = omega (arith, n_is, good.some);
        fits = omega (arith, n_is, good.fits);
        whole =
            omega (arith, n_is, good.whole);
        small = omega (arith, n_is, good.small);
      }),
    )
