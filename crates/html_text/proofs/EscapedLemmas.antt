-- An escaped text is inert, and UTF-8 where the text is.
use Rattle.std.proofs.Common.{◌≡◌, ◌≢◌, ◌==◌, ℕ, zero, suc, ◌<◌, ◌≤◌, All, Bool, true, false, codes, cond, not, ◌&&◌, nat_lt, List, [], ◌∷◌, ◌++◌, length, get_or, IsUtf8, inl, inr, refl, sym, ap₂, subst, arith, append-nil, ltb-true}
use Rattle.std.proofs.lemmas.Bool.{and_parts, cases_lt, cases_eq, eq-eqb, eqb-false, ne_eqb}
use Rattle.std.proofs.lemmas.List.Elements.{All-append, All-cons, All-nil}
use Rattle.std.proofs.lemmas.Grind.{flat_map-append}
use Rattle.std.proofs.lemmas.Str.{IsUtf8-append, IsUtf8-nil, IsUtf8-encode, encode_ascii, inside_one}
use lib.Utf8.{scalar, scalars, encode, encodes, low_scalar}
use Rattle.html_text.specs.Escaped.{IsInert, entity, escaped}

passed : (t : Bool) (xs ys zs : List ℕ) → t ≡ false → ys ≡ zs → cond t xs ys ≡ zs
passed true xs ys zs e h = cc
passed false xs ys zs e h = h

-- a byte that no entity stands for stays
plain_byte : (b : ℕ) → b ≢ 38 → b ≢ 60 → b ≢ 62 → b ≢ 34 → b ≢ 39 → entity b ≡ b ∷ []
unfolding entity
plain_byte b amp lt gt quote apostrophe =
    passed (b == 38) _ _ _ (ne_eqb b 38 amp) (passed (b == 60) _ _ _ (ne_eqb b 60 lt)
    (passed (b == 62) _ _ _ (ne_eqb b 62 gt) (passed (b == 34) _ _ _ (ne_eqb b 34 quote)
    (passed (b == 39) _ _ _ (ne_eqb b 39 apostrophe) refl))))

-- bytes that a test finds inert are
abbrev are_inert : List ℕ → Bool
are_inert [] = true
are_inert (b ∷ bs) = (not (b == 60) && (not (b == 62) && (not (b == 34) && not (b == 39)))) && are_inert bs

differs : (a b : ℕ) → not (a == b) ≡ true → a ≢ b
differs a b e equal = at (a == b) (eq-eqb a b equal) e
  where
    at : (t : Bool) → t ≡ true → not t ≡ true → ⊥
    at true f g = cc
    at false f g = cc

inert : (bs : List ℕ) → are_inert bs ≡ true → All IsInert bs
inert [] e = All-nil IsInert
inert (b ∷ bs) e =
    let p = and_parts _ _ e in
    let q = and_parts _ _ p.0 in
    let r = and_parts _ _ q.1 in
    let s = and_parts _ _ r.1 in
    All-cons IsInert b bs
    (record { no_start = differs b 60 q.0; no_end = differs b 62 r.0; no_quote = differs b 34 s.0; no_apostrophe = differs b 39 s.1 })
    (inert bs p.1)

chosen : (t : Bool) (xs ys : List ℕ) → All IsInert xs → (t ≡ false → All IsInert ys) → All IsInert (cond t xs ys)
chosen true xs ys a f = a
chosen false xs ys a f = f refl

-- what stands for a byte is inert
entity_inert : (b : ℕ) → All IsInert (entity b)
unfolding entity
entity_inert b =
    chosen (b == 38) _ _ (inert (codes "&amp;") refl) (λ amp.
    chosen (b == 60) _ _ (inert (codes "&lt;") refl) (λ lt.
    chosen (b == 62) _ _ (inert (codes "&gt;") refl) (λ gt.
    chosen (b == 34) _ _ (inert (codes "&quot;") refl) (λ quote.
    chosen (b == 39) _ _ (inert (codes "&#39;") refl) (λ apostrophe.
    All-cons IsInert b []
    (record {
      no_start = eqb-false b 60 lt;
      no_end = eqb-false b 62 gt;
      no_quote = eqb-false b 34 quote;
      no_apostrophe = eqb-false b 39 apostrophe;
    })
    (All-nil IsInert))))))

-- so is what stands for a text
pub escaped_inert : (text : List ℕ) → All IsInert (escaped text)
escaped_inert [] = All-nil IsInert
escaped_inert (b ∷ rest) = All-append IsInert (entity b) (escaped rest) (entity_inert b) (escaped_inert rest)

ascii_then : (x : ℕ) (xs : List ℕ) → x < 128 → IsUtf8 xs → IsUtf8 (x ∷ xs)
ascii_then x xs small u =
    IsUtf8-append (x ∷ []) xs (subst IsUtf8 (encode_ascii x small) (IsUtf8-encode x (low_scalar x (omega arith)))) u

abbrev are_ascii : List ℕ → Bool
are_ascii [] = true
are_ascii (x ∷ xs) = nat_lt x 128 && are_ascii xs

utf8_of_ascii : (xs : List ℕ) → are_ascii xs ≡ true → IsUtf8 xs
utf8_of_ascii [] e = IsUtf8-nil
utf8_of_ascii (x ∷ xs) e = let p = and_parts _ _ e in ascii_then x xs (ltb-true _ _ p.0) (utf8_of_ascii xs p.1)

-- what stands for the bytes below n is ASCII
abbrev entities_below : ℕ → Bool
entities_below zero = true
entities_below (suc n) = are_ascii (entity n) && entities_below n

entity_below : (n : ℕ) → entities_below n ≡ true → (x : ℕ) → x < n → are_ascii (entity x) ≡ true
entity_below zero e x h = absurd (omega arith)
entity_below (suc n) e x h =
    let p = and_parts _ _ e in
    elim (cases_eq x n) [ inl same ↦ rw same p.0 | inr other ↦ entity_below n p.1 x (omega arith) ]

all_ascii : entities_below 128 ≡ true
unfolding entity
all_ascii = refl

-- a text of bytes that aren't ASCII stays
high_stays : (xs : List ℕ) → ((k : ℕ) → k < length xs → 128 ≤ get_or xs k 0) → escaped xs ≡ xs
high_stays [] h = refl
high_stays (x ∷ xs) h =
    let high : 128 ≤ x = h 0 (omega arith) in
    ap₂ (λ (a b : List ℕ). a ++ b)
    (plain_byte x (λ e. omega arith) (λ e. omega arith) (λ e. omega arith) (λ e. omega arith) (λ e. omega arith))
    (high_stays xs (λ k below. h (suc k) (omega arith)))

one_char : (c : ℕ) → scalar c ≡ true → IsUtf8 (escaped (encode c))
one_char c ok = elim (cases_lt c 128) [
  | inl small ↦ rw (encode_ascii c small, append-nil) (utf8_of_ascii _ (entity_below 128 all_ascii c small))
  | inr big ↦
      let high : (k : ℕ) → k < length (encode c) → 128 ≤ get_or (encode c) k 0 = λ k below. elim (cases_lt (get_or (encode c) k 0) 128) [
        | inl low ↦ absurd (omega (arith, inside_one c [] (encode c) k (sym (append-nil _)) below low))
        | inr h ↦ h
      ] in
      subst IsUtf8 (sym (high_stays (encode c) high)) (IsUtf8-encode c ok)
]

all_chars : (cs : List ℕ) → scalars cs ≡ true → IsUtf8 (escaped (encodes cs))
all_chars [] e = IsUtf8-nil
all_chars (c ∷ cs) e =
    let p = and_parts _ _ e in
    subst IsUtf8 (sym (flat_map-append entity (encode c) (encodes cs)))
    (IsUtf8-append _ _ (one_char c p.0) (all_chars cs p.1))

-- what stands for a UTF-8 text is UTF-8
pub escaped_utf8 : (text : List ℕ) → IsUtf8 text → IsUtf8 (escaped text)
escaped_utf8 text u = subst (λ l. IsUtf8 (escaped l)) u.1.1 (all_chars u.0 u.1.0)
