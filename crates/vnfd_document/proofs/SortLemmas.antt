-- A stable sort gives the one list that is in order and keeps the order of what ties; putting one element after another to
-- its place gives the same.
use Rattle.std.proofs.Common.{◌≡◌, ◌<◌, ◌≤◌, ℕ, suc, not, List, [], ◌∷◌, length, get_or, filter, Bool, true, false, cond, refl, sym, ap}
use Rattle.std.proofs.Common.{◌∙◌, arith, true≢false}
use Rattle.std.specs.Cmp.{IsStrictWeakOrder}
use Rattle.std.specs.List.Sorted.{IsSortedBy, IsStableBy, ties}
use Rattle.std.proofs.lemmas.List.Sorted.{sorted_far}
use Rattle.std.proofs.lemmas.Bool.{and_parts}

module _ {X : Type 0} (lt : X → X → Bool) where
  -- nothing in the list is less
  abbrev Above : X → List X → Type 0
  Above x [] = Unit {0}
  Above x (y ∷ ys) = (lt y x ≡ false) × Above x ys

  -- nothing is less than what stands before it
  abbrev Up : List X → Type 0
  Up [] = Unit {0}
  Up (x ∷ xs) = Above x xs × Up xs

  -- x put before the first that isn't less
  abbrev pub put : X → List X → List X
  put x [] = x ∷ []
  put x (y ∷ ys) = cond (lt y x) (y ∷ put x ys) (x ∷ y ∷ ys)

  -- the elements, put one after another
  abbrev pub in_order_of : List X → List X
  in_order_of [] = []
  in_order_of (x ∷ xs) = put x (in_order_of xs)

  above_of : (x : X) (xs : List X) → ((k : ℕ) → k < length xs → lt (get_or xs k x) x ≡ false) → Above x xs
  above_of x [] h = tt
  above_of x (y ∷ ys) h = (h 0 (omega arith), above_of x ys (λ k p. h (suc k) (omega arith)))

  up_of : (xs : List X) → ((i j : ℕ) (d : X) → i ≤ j → j < length xs → lt (get_or xs j d) (get_or xs i d) ≡ false) → Up xs
  up_of [] h = tt
  up_of (x ∷ xs) h = (
    above_of x xs (λ k p. h 0 (suc k) x (omega arith) (omega arith)),
    up_of xs (λ i j d p q. h (suc i) (suc j) d (omega arith) (omega arith)),
  )

  abbrev rest : List X → List X
  rest [] = []
  rest (x ∷ xs) = xs

  abbrev first_or : X → List X → X
  first_or d [] = d
  first_or d (x ∷ xs) = x

  rests : (b : Bool) (y : X) (xs ys : List X) → cond b (y ∷ xs) xs ≡ cond b (y ∷ ys) ys → xs ≡ ys
  rests true y xs ys h = ap rest h
  rests false y xs ys h = h

  module _ (o : IsStrictWeakOrder lt) where
    not_both : (b : Bool) → (b ≡ true → b ≡ false) → b ≡ false
    not_both true h = h refl
    not_both false h = refl

    never : (x : X) → lt x x ≡ false
    never x = not_both (lt x x) (o.one_way x x)

    tie_self : (x : X) → ties lt x x ≡ true
    tie_self x = rw (never x) refl

    less_by : (b : Bool) (y w z : X) → lt y w ≡ b → lt y z ≡ true → lt w z ≡ false → lt y w ≡ true
    less_by true y w z e h k = e
    less_by false y w z e h k = absurd (true≢false (sym h ∙ o.chain y w z e k))

    -- nothing ties with what is less than the first of a list in order
    none_tie : (y z : X) (ws : List X) → lt y z ≡ true → Above z ws → filter (ties lt y) ws ≡ []
    none_tie y z [] h a = refl
    none_tie y z (w ∷ ws) h a = rw (less_by (lt y w) y w z refl h a.0) (none_tie y z ws h a.1)

    heads : (a b : Bool) (y z : X) (ys zs : List X) → lt y z ≡ a → lt z y ≡ b → Above y ys → Above z zs
        → ((x : X) → filter (ties lt x) (y ∷ ys) ≡ filter (ties lt x) (z ∷ zs)) → y ≡ z
    heads true b y z ys zs e f u v same =
        let left : filter (ties lt y) (y ∷ ys) ≡ y ∷ filter (ties lt y) ys = rw (tie_self y) refl in
        let right : filter (ties lt y) (z ∷ zs) ≡ [] = rw e (none_tie y z zs e v) in
        let none : y ∷ filter (ties lt y) ys ≡ [] = sym left ∙ same y ∙ right in cc
    heads false true y z ys zs e f u v same =
        let right : filter (ties lt z) (z ∷ zs) ≡ z ∷ filter (ties lt z) zs = rw (tie_self z) refl in
        let left : filter (ties lt z) (y ∷ ys) ≡ [] = rw f (none_tie z y ys f u) in
        let none : [] ≡ z ∷ filter (ties lt z) zs = sym left ∙ same z ∙ right in cc
    heads false false y z ys zs e f u v same =
        let left : filter (ties lt y) (y ∷ ys) ≡ y ∷ filter (ties lt y) ys = rw (tie_self y) refl in
        let right : filter (ties lt y) (z ∷ zs) ≡ z ∷ filter (ties lt y) zs = rw (e, f) refl in
        ap (first_or y) (sym left ∙ same y ∙ right)

    pub unique : (ys zs : List X) → Up ys → Up zs → ((x : X) → filter (ties lt x) ys ≡ filter (ties lt x) zs) → ys ≡ zs
    unique [] [] u v same = refl
    unique [] (z ∷ zs) u v same =
        let right : filter (ties lt z) (z ∷ zs) ≡ z ∷ filter (ties lt z) zs = rw (tie_self z) refl in
        let none : [] ≡ z ∷ filter (ties lt z) zs = same z ∙ right in cc
    unique (y ∷ ys) [] u v same =
        let left : filter (ties lt y) (y ∷ ys) ≡ y ∷ filter (ties lt y) ys = rw (tie_self y) refl in
        let none : y ∷ filter (ties lt y) ys ≡ [] = sym left ∙ same y in cc
    unique (y ∷ ys) (z ∷ zs) u v same =
        let first : y ≡ z = heads (lt y z) (lt z y) y z ys zs refl refl u.0 v.0 same in
        let others : (x : X) → filter (ties lt x) ys ≡ filter (ties lt x) zs =
        λ x. rests (ties lt x y) y _ _ (same x ∙ ap (λ q. cond (ties lt x q) (q ∷ filter (ties lt x) zs) (filter (ties lt x) zs))
        (sym first)) in
        rw first (ap (λ q. z ∷ q) (unique ys zs u.1 v.1 others))

    above_if : (b : Bool) (w x y : X) (ys : List X) → lt x w ≡ false → lt y w ≡ false → Above w ys → Above w (put x ys)
        → Above w (cond b (y ∷ put x ys) (x ∷ y ∷ ys))
    above_if true w x y ys p q a h = (q, h)
    above_if false w x y ys p q a h = (p, (q, a))

    above_put : (w x : X) (ys : List X) → lt x w ≡ false → Above w ys → Above w (put x ys)
    above_put w x [] p a = (p, tt)
    above_put w x (y ∷ ys) p a = above_if (lt y x) w x y ys p a.0 a.1 (above_put w x ys p a.1)

    above_chain : (x y : X) (ys : List X) → lt y x ≡ false → Above y ys → Above x ys
    above_chain x y [] p a = tt
    above_chain x y (w ∷ ws) p a = (o.chain w y x a.0 p, above_chain x y ws p a.1)

    up_if : (b : Bool) (x y : X) (ys : List X) → lt y x ≡ b → Above y ys → Up ys → Up (put x ys) → Up (cond b (y ∷ put x ys) (x ∷ y ∷ ys))
    up_if true x y ys e a u h = (above_put y x ys (o.one_way y x e) a, h)
    up_if false x y ys e a u h = ((e, above_chain x y ys e a), (a, u))

    up_put : (x : X) (ys : List X) → Up ys → Up (put x ys)
    up_put x [] u = (tt, tt)
    up_put x (y ∷ ys) u = up_if (lt y x) x y ys refl u.0 u.1 (up_put x ys u.1)

    up_in_order : (xs : List X) → Up (in_order_of xs)
    up_in_order [] = tt
    up_in_order (x ∷ xs) = up_put x (in_order_of xs) (up_in_order xs)

    not-is : (b : Bool) → not b ≡ true → b ≡ false
    not-is true h = sym h
    not-is false h = refl

    tie_before : (w x : X) → ties lt w x ≡ true → lt w x ≡ false
    tie_before w x h = not-is (lt w x) (and_parts (not (lt w x)) (not (lt x w)) h).0

    tie_behind : (w x : X) → ties lt w x ≡ true → lt x w ≡ false
    tie_behind w x h = not-is (lt x w) (and_parts (not (lt w x)) (not (lt x w)) h).1

    -- two elements, of which at most one ties, change places
    swapped : (p q : Bool) (x y : X) (r : List X) → (p ≡ true → q ≡ true → ⊥)
        → cond q (y ∷ cond p (x ∷ r) r) (cond p (x ∷ r) r) ≡ cond p (x ∷ cond q (y ∷ r) r) (cond q (y ∷ r) r)
    swapped true true x y r h = absurd (h refl refl)
    swapped true false x y r h = refl
    swapped false true x y r h = refl
    swapped false false x y r h = refl

    stable_if : (b : Bool) (w x y : X) (ys : List X) → lt y x ≡ b → filter (ties lt w) (put x ys)
        ≡ cond (ties lt w x) (x ∷ filter (ties lt w) ys) (filter (ties lt w) ys)
        → filter (ties lt w) (cond b (y ∷ put x ys) (x ∷ y ∷ ys)) ≡ filter (ties lt w) (x ∷ y ∷ ys)
    stable_if true w x y ys e h =
        ap (λ r. cond (ties lt w y) (y ∷ r) r) h
        ∙ swapped (ties lt w x) (ties lt w y) x y (filter (ties lt w) ys)
        (λ p q. true≢false (sym e ∙ o.chain y w x (tie_behind w y q) (tie_before w x p)))
    stable_if false w x y ys e h = refl

    stable_put : (w x : X) (ys : List X) → filter (ties lt w) (put x ys) ≡ filter (ties lt w) (x ∷ ys)
    stable_put w x [] = refl
    stable_put w x (y ∷ ys) = stable_if (lt y x) w x y ys refl (stable_put w x ys)

    stable_in_order : (w : X) (xs : List X) → filter (ties lt w) (in_order_of xs) ≡ filter (ties lt w) xs
    stable_in_order w [] = refl
    stable_in_order w (x ∷ xs) = stable_put w x (in_order_of xs) ∙ ap (λ r. cond (ties lt w x) (x ∷ r) r) (stable_in_order w xs)

    -- what a stable sort gives
    pub sorted_is : (xs ys : List X) → IsSortedBy lt ys → IsStableBy lt xs ys → ys ≡ in_order_of xs
    sorted_is xs ys up stable =
        unique ys (in_order_of xs) (up_of ys (sorted_far lt o ys up)) (up_in_order xs) (λ x. stable x ∙ sym (stable_in_order x xs))
