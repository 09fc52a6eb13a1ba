-- Marks in words: one more behind them, and without the oldest.
use Rattle.std.proofs.Common.{◌≡◌, ◌<◌, ◌+◌, ◌-◌, ◌*◌, ◌/◌, ◌%◌, ◌^◌, ◌++◌, ◌==◌, ◌∙◌, ℕ, zero, suc, List, [], ◌∷◌, Bool, true, false, cond}
use Rattle.std.proofs.Common.{Option, None, Some, refl, ap, sym, length, drop, arith, append_assoc, length-append, length-drop, slice_get}
use Rattle.std.specs.Option.{option_eq}
use Rattle.std.proofs.Math.Nat.{mod-eq_of_lt}
use Rattle.std.proofs.Math.Pow.{pow-lt}
use Rattle.std.proofs.lemmas.Grind.{flat_map-append}
use Rattle.notice_table.specs.Marks.{from_set, marks_in}
use Rattle.notice_table.specs.Packing.{in_words}
use Rattle.notice_table.proofs.Lists.{nil_right}

pub nothing : {A : Type 0} → (xs : List A) → length xs ≡ 0 → xs ≡ []
nothing [] e = refl
nothing (x ∷ xs) e = absurd (omega (arith, e))

-- one more mark is counted
pub one_more : (count : ℕ) (old new : List Bool) (mark : Bool) → count ≡ length old → new ≡ old ++ mark ∷ [] → count + 1 ≡ length new
one_more count old new mark is e = let longer = ap length e in let both = length-append old (mark ∷ []) in omega (arith, is, longer, both)

-- one mark less is counted
pub one_less : (count : ℕ) (old new : List Bool) → count ≡ length old → new ≡ drop 1 old → count - 1 ≡ length new
one_less count old new is e = let shorter = ap length e in let rest = length-drop 1 old in omega (arith, is, shorter, rest)

pub unset_low : (word power : ℕ) → (word + cond false power 0) ≡ word
unset_low word power = plain word where
  plain : (word : ℕ) → word + 0 ≡ word
  plain word = omega arith

-- a mark above those of a word
pub mark_above : (n word : ℕ) (mark : Bool) → word < 2 ^ n → marks_in (suc n) (word + cond mark (2 ^ n) 0) ≡ marks_in n word ++ mark ∷ []
unfolding marks_in
mark_above zero word true h = let none : word ≡ 0 = omega (arith, h) in rw none refl
mark_above zero word false h = let none : word ≡ 0 = omega (arith, h) in rw none refl
mark_above (suc n) word mark h =
    let half : word / 2 < 2 ^ n = omega (arith, h) in
    let low : (word + cond mark (2 ^ suc n) 0) % 2 ≡ word % 2 = lowest mark n word in
    let high : (word + cond mark (2 ^ suc n) 0) / 2 ≡ word / 2 + cond mark (2 ^ n) 0 = others mark n word in
    ap (λ (k : ℕ). (k == 1) ∷ marks_in (suc n) ((word + cond mark (2 ^ suc n) 0) / 2)) low
    ∙ (ap (λ (k : ℕ). (word % 2 == 1) ∷ marks_in (suc n) k) high
    ∙ ap (λ (ms : List Bool). (word % 2 == 1) ∷ ms) (mark_above n (word / 2) mark half)) where
      even : (n word : ℕ) → ((word + 2 ^ suc n) % 2 ≡ word % 2) × ((word + 2 ^ suc n) / 2 ≡ word / 2 + 2 ^ n)
      even n word = (omega arith, omega arith)

      lowest : (mark : Bool) (n word : ℕ) → (word + cond mark (2 ^ suc n) 0) % 2 ≡ word % 2
      lowest true n word = (even n word).0
      lowest false n word = ap (λ (k : ℕ). k % 2) (unset_low word (2 ^ suc n))

      others : (mark : Bool) (n word : ℕ) → (word + cond mark (2 ^ suc n) 0) / 2 ≡ word / 2 + cond mark (2 ^ n) 0
      others true n word = (even n word).1
      others false n word = ap (λ (k : ℕ). k / 2) (unset_low word (2 ^ suc n)) ∙ sym (unset_low (word / 2) (2 ^ n))

-- a mark where there was none
pub put_first : (left front : ℕ) (words : List ℕ) (filled back word : ℕ) (mark : Bool) → left ≡ 0 → (words ≡ []) × (filled ≡ 0)
    → marks_in 1 word ≡ marks_in 0 0 ++ mark ∷ []
    → marks_in 1 word ++ (in_words words ++ marks_in filled back) ≡ (marks_in left front ++ (in_words words ++ marks_in filled back))
    ++ mark ∷ []
unfolding marks_in
put_first left front words filled back word mark none rest e = rw (none, rest.0, rest.1, e) refl

-- a mark in the back word
pub put_back : (front words back new : List Bool) (mark : Bool) → new ≡ back ++ mark ∷ []
    → front ++ (words ++ new) ≡ (front ++ (words ++ back)) ++ mark ∷ []
put_back front words back new mark e =
    ap (λ (ms : List Bool). front ++ (words ++ ms)) e
    ∙ (ap (λ (ms : List Bool). front ++ ms) (sym (append_assoc words back (mark ∷ [])))
    ∙ sym (append_assoc front (words ++ back) (mark ∷ [])))

-- a mark that fills the back word
pub put_last : (front : List Bool) (words after : List ℕ) (n back word low : ℕ) (mark : Bool) → after ≡ words ++ word ∷ [] → n + 1 ≡ 64
    → marks_in (n + 1) word ≡ marks_in n back ++ mark ∷ []
    → front ++ (in_words after ++ marks_in 0 low) ≡ (front ++ (in_words words ++ marks_in n back)) ++ mark ∷ []
unfolding marks_in
put_last front words after n back word low mark is full e =
    let last : in_words (word ∷ []) ≡ marks_in (n + 1) word = nil_right (marks_in 64 word) ∙ ap (λ (k : ℕ). marks_in k word) (sym full) in
    let filled : in_words after ≡ in_words words ++ marks_in (n + 1) word =
    ap in_words is ∙ (flat_map-append (marks_in 64) words (word ∷ []) ∙ ap (λ (ms : List Bool). in_words words ++ ms) last) in
    ap (λ (ms : List Bool). front ++ ms) (nil_right (in_words after) ∙ filled)
    ∙ put_back front (in_words words) (marks_in n back) (marks_in (n + 1) word) mark e

-- the first of a word's marks
pub first_in : (left front : ℕ) (rest : List Bool) → 0 < left → Some (front % 2 == 1) ≡ slice_get (marks_in left front ++ rest) 0
unfolding marks_in
first_in zero front rest h = absurd (omega (arith, h))
first_in (suc n) front rest h = refl

-- the others of a word's marks
pub drop_in : (left front : ℕ) (rest : List Bool) → 0 < left → marks_in (left - 1) (front / 2) ++ rest
    ≡ drop 1 (marks_in left front ++ rest)
unfolding marks_in
drop_in zero front rest h = absurd (omega (arith, h))
drop_in (suc n) front rest h = let less : suc n - 1 ≡ n = omega arith in rw less refl

-- the marks behind the last of the front word, by the first full word
pub next_word : (left front word : ℕ) (words rest : List ℕ) (back : List Bool) → left ≡ 1 → words ≡ word ∷ rest
    → marks_in 64 word ++ (in_words rest ++ back) ≡ drop 1 (marks_in left front ++ (in_words words ++ back))
unfolding marks_in
next_word left front word words rest back one e = rw (one, e) (sym (append_assoc (marks_in 64 word) (in_words rest) back))

-- the marks behind the last of the front word, where there is no full word
pub last_word : (left front n back : ℕ) (words rest : List ℕ) → left ≡ 1 → words ≡ [] → rest ≡ []
    → marks_in n back ++ (in_words rest ++ marks_in 0 0) ≡ drop 1 (marks_in left front ++ (in_words words ++ marks_in n back))
unfolding marks_in
last_word left front n back words rest one e f = rw (one, e, f) (nil_right (marks_in n back))

-- where the front word has no mark there is none
pub none_at_all : (left front : ℕ) (words : List ℕ) (filled back : ℕ) → left ≡ 0 → (words ≡ []) × (filled ≡ 0)
    → marks_in left front ++ (in_words words ++ marks_in filled back) ≡ []
unfolding marks_in
none_at_all left front words filled back none rest = rw (none, rest.0, rest.1) refl

pub none_left : (left front : ℕ) (words : List ℕ) (filled back : ℕ) → left ≡ 0 → (words ≡ []) × (filled ≡ 0)
    → None ≡ slice_get (marks_in left front ++ (in_words words ++ marks_in filled back)) 0
none_left left front words filled back none rest = ap (λ (ms : List Bool). slice_get ms 0)
    (sym (none_at_all left front words filled back none rest))

-- the worth of a bit of a word
bit_of : (n : ℕ) → n < 64 → 1 * 2 ^ n % 18446744073709551616 ≡ 2 ^ n
bit_of n h = let low : 2 ^ n < 2 ^ 64 = pow-lt h in ap (λ (k : ℕ). k % 18446744073709551616) one ∙ mod-eq_of_lt low where
  one : 1 * 2 ^ n ≡ 2 ^ n
  one = omega arith

-- a word with one mark more
pub marked_word : (n word : ℕ) (mark : Bool) → n < 64 → word < 2 ^ n
    → marks_in (n + 1) (word + cond mark (1 * 2 ^ n % 18446744073709551616) 0) ≡ marks_in n word ++ mark ∷ []
marked_word n word mark low h =
    let more : n + 1 ≡ suc n = omega arith in
    ap (λ (k : ℕ). marks_in k (word + cond mark (1 * 2 ^ n % 18446744073709551616) 0)) more
    ∙ (ap (λ (k : ℕ). marks_in (suc n) (word + cond mark k 0)) (bit_of n low) ∙ mark_above n word mark h)

-- no mark, where no word has one
pub no_marks : (words : List ℕ) → words ≡ [] → marks_in 0 0 ++ (in_words words ++ marks_in 0 0) ≡ []
unfolding marks_in
no_marks words e = rw e refl

pub counted : {marks : List Bool} → marks ≡ [] → length marks ≡ 0
counted e = ap length e

-- a word with marks has a mark
pub some_left : (left front : ℕ) (rest : List Bool) → 0 < left → 0 < length (marks_in left front ++ rest)
unfolding marks_in
some_left zero front rest h = absurd (omega (arith, h))
some_left (suc n) front rest h = omega arith

-- marks of which the first isn't unset
pub starts_set : (same : Bool → Bool → Bool) (marks : List Bool) (x : Option Bool) → same false false ≡ true → x ≡ slice_get marks 0
    → false ≡ option_eq same x (Some false) → from_set marks ≡ marks
starts_set same [] x s e f = refl
starts_set same (true ∷ marks) x s e f = refl
starts_set same (false ∷ marks) x s e f = let clash : false ≡ true = f ∙ (ap (λ (y : Option Bool). option_eq same y (Some false)) e ∙ s) in
    cc
