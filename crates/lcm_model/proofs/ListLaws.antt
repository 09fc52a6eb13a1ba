-- Laws of lists and ranges that loops cite.
use Rattle.std.proofs.Common.{◌≡◌, ℕ, ◌+◌, ◌-◌, ◌<◌, suc, List, [], ◌∷◌, refl, ap, sym, add-one, arith, ◌≤◌, Bool, true, length, drop, map}
use Rattle.std.proofs.Common.{length-drop, zero, take, get_or, ◌*◌, drop-cons, subst, ◌&&◌, false}
use Rattle.std.specs.List.{range_with_len, list_all}
use Rattle.lcm_model.specs.Levels.{steps_to}
use Rattle.lcm_model.specs.Words.{total}
use Rattle.lcm_events.specs.Descriptors.{is_rising}

-- a range that isn't empty begins with its first number
pub range_step : (i n : ℕ) → i < n → range_with_len i (n - i) ≡ i ∷ range_with_len (i + 1) (n - (i + 1))
range_step i n h =
    let e : n - i ≡ suc (n - (i + 1)) = omega arith in
    ap (range_with_len i) e

-- fewer than two entries rise
pub rising_short : {A : Type 0} → (p : A → A → Bool) (xs : List A) → length xs ≤ 1 → is_rising p xs ≡ true
rising_short p [] h = refl
rising_short p (x ∷ []) h = refl
rising_short p (x ∷ y ∷ xs) h = absurd (omega (arith, h))

-- the last entry rises
pub rising_end : {A : Type 0} → (p : A → A → Bool) (xs : List A) (i : ℕ) → length xs ≤ i → is_rising p (drop (i - 1) xs) ≡ true
rising_end p xs i h = rising_short p (drop (i - 1) xs) (omega (arith, length-drop (i - 1) xs, h))

map_short : {A B : Type 0} → (f : A → B) (xs : List A) → length xs ≤ 1 → length (map f xs) ≤ 1
map_short f [] h = omega arith
map_short f (x ∷ []) h = omega arith
map_short f (x ∷ y ∷ xs) h = absurd (omega (arith, h))

-- the last entry rises by what is read from it
pub rising_end_by : {A B : Type 0} → (p : B → B → Bool) (f : A → B) (xs : List A) (i : ℕ) → length xs ≤ i
    → is_rising p (map f (drop (i - 1) xs)) ≡ true
rising_end_by p f xs i h = rising_short p (map f (drop (i - 1) xs))
    (map_short f (drop (i - 1) xs) (omega (arith, length-drop (i - 1) xs, h)))

-- the first of some numbers is added first
pub total_take : (k x : ℕ) (xs : List ℕ) → 0 < k → total (take k (x ∷ xs)) ≡ x + total (take (k - 1) xs)
total_take zero x xs h = absurd (omega (arith, h))
total_take (suc k) x xs h = let e : suc k - 1 ≡ k = omega arith in ap (λ n. x + total (take n xs)) (sym e)

-- a single delta holds for every step
pub steps_one : (n : ℕ) (deltas : List ℕ) → length deltas ≡ 1 → steps_to n deltas ≡ n * get_or deltas 0 0
steps_one n [] h = absurd (omega (arith, h))
steps_one n (delta ∷ []) h = refl
steps_one n (delta ∷ other ∷ deltas) h = absurd (omega (arith, h))

-- several deltas hold for a step each
pub steps_many : (n : ℕ) (deltas : List ℕ) → (length deltas ≡ 1 → ⊥) → steps_to n deltas ≡ total (take n deltas)
steps_many n [] h = refl
steps_many n (delta ∷ []) h = absurd (h refl)
steps_many n (delta ∷ other ∷ deltas) h = refl

-- what is left of a list begins with its next entry
pub drop_next : (xs : List ℕ) (i : ℕ) → i < length xs → drop i xs ≡ get_or xs i 0 ∷ drop (i + 1) xs
drop_next xs i h = rw (add-one, drop-cons xs i 0)

-- a sum goes on by its next number
pub sum_step : (xs : List ℕ) (i left s t : ℕ) → i < length xs → 0 < left → s + total (take left (drop i xs)) ≡ t
    → (s + get_or xs i 0) + total (take (left - 1) (drop (i + 1) xs)) ≡ t
sum_step xs i left s t h k e =
    let d : s + total (take left (get_or xs i 0 ∷ drop (i + 1) xs)) ≡ t =
    subst (λ (ys : List ℕ). s + total (take left ys) ≡ t) (drop_next xs i h) e in
    omega (arith, total_take left (get_or xs i 0) (drop (i + 1) xs) k, d)

-- the front and the back of what holds together
pub and_front : (a b : Bool) → (a && b) ≡ true → a ≡ true
and_front true b e = refl
and_front false b e = e

pub and_back : (a b : Bool) → (a && b) ≡ true → b ≡ true
and_back true b e = e
and_back false b e = cc

pub and_both : (a b : Bool) → a ≡ true → b ≡ true → (a && b) ≡ true
and_both true b ea eb = eb
and_both false b ea eb = ea

-- what passes a test passes one that asks less
pub list_all_weaker : {A : Type 0} → (p q : A → Bool) (xs : List A) → ((x : A) → p x ≡ true → q x ≡ true) → list_all p xs ≡ true
    → list_all q xs ≡ true
list_all_weaker p q [] f h = refl
list_all_weaker p q (x ∷ xs) f h = and_both (q x) (list_all q xs) (f x (and_front (p x) (list_all p xs) h))
    (list_all_weaker p q xs f (and_back (p x) (list_all p xs) h))

-- where all that is left passes a test, the next entry does
pub small_here : (p : ℕ → Bool) (xs : List ℕ) (i : ℕ) → i < length xs → list_all p (drop i xs) ≡ true → p (get_or xs i 0) ≡ true
small_here p xs i h e = and_front _ _ (subst (λ (ys : List ℕ). list_all p ys ≡ true) (drop_next xs i h) e)

-- where all that is left passes a test, so does what is left behind the next entry
pub small_next : (p : ℕ → Bool) (xs : List ℕ) (i : ℕ) → i < length xs → list_all p (drop i xs) ≡ true → list_all p (drop (i + 1) xs) ≡ true
small_next p xs i h e = and_back _ _ (subst (λ (ys : List ℕ). list_all p ys ≡ true) (drop_next xs i h) e)
