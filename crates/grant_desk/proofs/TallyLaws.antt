-- Laws of counts, and of what is named once.
use Rattle.std.proofs.Common.{◌≡◌, ◌≤◌, ◌<◌, ◌+◌, ◌^◌, ◌++◌, ◌∙◌, ◌&&◌, ◌||◌, ◌==◌, ℕ, List, [], ◌∷◌, Bool, true, false, cond, not}
use Rattle.std.proofs.Common.{refl, ap, sym, subst, length, map, filter, take, get_or, arith, suc, min, length-append, eqb}
use Rattle.std.proofs.Common.{eqb-true, eq-eqb, false-eqb, ne_eqb, add-zero, ◌≢◌}
use Rattle.std.specs.List.{enumerate_from, list_all}
use Rattle.std.specs.Prelude.{count_by, if◌then◌else◌}
use Rattle.std.proofs.lemmas.List.{take_more}
use Rattle.std.proofs.lemmas.List.Sums.{sum_by-cons}
use Rattle.std.proofs.lemmas.List.Elements.{filter-append}
use Rattle.lcm_events.specs.Same.{same_name}
use Rattle.lcm_events.specs.declared.changes.Change.{Change}
use Rattle.lcm_events.specs.declared.places.Place.{Place}
use Rattle.lcm_model.specs.Grants.{change_id, ids_of}
use Rattle.grant_desk.specs.Parts.{asks}
use Rattle.grant_desk.specs.declared.parts.Part.{Part}
use Rattle.grant_desk.specs.Tallies.{AreTallied, are_counted_once, are_named_once, counted, is_named_once, times}

-- no row names a change
pub none_tallied : (first : ℕ) (counts : List ℕ) → ((k : ℕ) → k < length counts → get_or counts k 0 ≡ 0) → AreTallied [] first counts
unfolding times
none_tallied first counts zeros = record { each = λ j lt small. zeros j lt }

counted_step : (b : Bool) (n m t : ℕ) → n ≡ min t 255 → m ≡ (if b then min (n + 1) 255 else n) → m ≡ min (t + (if b then 1 else 0)) 255
counted_step true n m t e f = omega (arith, e, f)
counted_step false n m t e f = omega (arith, e, f)

length_one : (b : Bool) (r : List ℕ × Place) → length (cond b (r ∷ []) []) ≡ (if b then 1 else 0)
length_one true r = refl
length_one false r = refl

-- the times with one row more
times_more : (rows : List (List ℕ × Place)) (i k : ℕ) (r : List ℕ × Place) → i < length rows → get_or rows i r ≡ r
    → times (take (i + 1) rows) k ≡ times (take i rows) k + (if same_name r.0 (change_id k) then 1 else 0)
unfolding times
times_more rows i k r lt is =
    let p : List ℕ × Place → Bool = λ x. same_name x.0 (change_id k) in
    ap (λ (xs : List (List ℕ × Place)). length (filter p xs)) (take_more rows i r lt
    ∙ ap (λ (x : List ℕ × Place). take i rows ++ x ∷ []) is)
    ∙ ap length (filter-append p (take i rows) (r ∷ []))
    ∙ length-append (filter p (take i rows)) (filter p (r ∷ []))
    ∙ ap (λ (n : ℕ). length (filter p (take i rows)) + n) (length_one (p r) r)

-- the counts with one row more
pub tallied_more : (rows : List (List ℕ × Place)) (i first : ℕ) (r : List ℕ × Place) (old new : List ℕ) → i < length rows
    → get_or rows i r ≡ r
    → AreTallied (take i rows) first old → length new ≡ length old
    → ((j : ℕ) → j < length old → first + j < 2 ^ 64 → get_or new j 0 ≡ counted r.0 (first + j) (get_or old j 0))
    → AreTallied (take (i + 1) rows) first new
tallied_more rows i first r old new lt is h size step = record {
  each = λ j short small.
      let within : j < length old = omega (arith, short, size) in
      counted_step (same_name r.0 (change_id (first + j))) (get_or old j 0) (get_or new j 0) (times (take i rows) (first + j))
      (h.each j within small) (step j within small)
      ∙ ap (λ (n : ℕ). min n 255) (sym (times_more rows i (first + j) r lt is));
}

-- a test passes or fails
pub by_test : {P : Type 0} → (b : Bool) → (b ≡ true → P) → (b ≡ false → P) → P
by_test true f g = f refl
by_test false f g = g refl

one_is : (n t : ℕ) → n ≡ min t 255 → (n == 1) ≡ (t == 1)
one_is n t e = by_test (t == 1)
    (λ yes. let one : t ≡ 1 = eqb-true t 1 yes in let same : n ≡ 1 = omega (arith, e, one) in rw yes (eq-eqb n 1 same))
    (λ no. let other : t ≢ 1 = false-eqb t 1 (sym no) in let differs : n ≢ 1 = omega (arith, e, other) in rw no (ne_eqb n 1 differs))

-- what the counts say of as many changes is what the rows say
pub counted_named : (part : Part) (rows : List (List ℕ × Place)) (first : ℕ) (xs : List Change) (counts : List ℕ)
    → AreTallied rows first counts
    → length xs ≤ length counts → first + length xs < 2 ^ 64 → are_counted_once part xs counts ≡ are_named_once part rows first xs
counted_named part rows first [] counts h fits small = refl
counted_named part rows first (x ∷ xs) [] h fits small = absurd (omega (arith, fits))
counted_named part rows first (x ∷ xs) (n ∷ counts) h fits small =
    let here : n ≡ min (times rows first) 255 = subst (λ (k : ℕ). n ≡ min (times rows k) 255) (add-zero first)
    (h.each 0 (omega arith) (omega (arith, small))) in
    let later : AreTallied rows (first + 1) counts = record {
      each = λ j lt within. (
          let at : first + suc j ≡ (first + 1) + j = omega arith in
          subst (λ (k : ℕ). get_or counts j 0 ≡ min (times rows k) 255) at (h.each (suc j) (omega (arith, lt)) (omega (arith, within))));
    } in
    let rest = counted_named part rows (first + 1) xs counts later (omega (arith, fits)) (omega (arith, small)) in
    rw (one_is n (times rows first) here, rest) refl

and_assoc : (a b c : Bool) → (a && (b && c)) ≡ ((a && b) && c)
and_assoc true b c = refl
and_assoc false b c = refl

-- what is named once, in two parts of the changes
pub named-append : (part : Part) (rows : List (List ℕ × Place)) (first : ℕ) (xs ys : List Change)
    → are_named_once part rows first (xs ++ ys) ≡ (are_named_once part rows first xs && are_named_once part rows (first + length xs) ys)
named-append part rows first [] ys = ap (λ (k : ℕ). are_named_once part rows k ys) (sym (add-zero first))
named-append part rows first (x ∷ xs) ys =
    let at : (first + 1) + length xs ≡ first + suc (length xs) = omega arith in
    ap (λ (b : Bool). is_named_once part rows (first, x) && b) (named-append part rows (first + 1) xs ys)
    ∙ and_assoc (is_named_once part rows (first, x)) (are_named_once part rows (first + 1) xs)
    (are_named_once part rows ((first + 1) + length xs) ys)
    ∙ ap (λ (k : ℕ). are_named_once part rows first (x ∷ xs) && are_named_once part rows k ys) at

all_filtered : {A B : Type 0} (g : A → B) (p : A → Bool) (f : B → Bool) (xs : List A)
    → list_all f (map g (filter p xs)) ≡ list_all (λ x. not (p x) || f (g x)) xs
all_filtered g p f [] = refl
all_filtered g p f (x ∷ xs) = by_test (p x)
    (λ yes. rw yes (ap (λ (b : Bool). f (g x) && b) (all_filtered g p f xs)))
    (λ no. rw no (all_filtered g p f xs))

-- the identifiers that are asked for in a part, one by one
pub named_ids : (part : Part) (rows : List (List ℕ × Place)) (xs : List Change)
    → list_all (λ id. length (filter (λ r. same_name r.0 id) rows) == 1) (ids_of (asks part) xs) ≡ are_named_once part rows 0 xs
unfolding times
named_ids part rows xs =
    all_filtered (λ (x : ℕ × Change). change_id x.0) (λ x. asks part x.1.verb) (λ id. length (filter (λ r. same_name r.0 id) rows) == 1)
    (enumerate_from 0 xs)

asked_from : (part : Part) (first : ℕ) (xs : List Change)
    → length (map (λ (x : ℕ × Change). change_id x.0) (filter (λ x. asks part x.1.verb) (enumerate_from first xs)))
    ≡ count_by (λ x. asks part x.verb) xs
asked_from part first [] = refl
asked_from part first (x ∷ xs) =
    let rest = asked_from part (first + 1) xs in
    let counts : count_by (λ x. asks part x.verb) (x ∷ xs) ≡ cond (asks part x.verb) 1 0 + count_by (λ x. asks part x.verb) xs =
    sum_by-cons (λ x. cond (asks part x.verb) 1 0) x xs in
    asked_step (asks part x.verb) (first, x) (filter (λ x. asks part x.1.verb) (enumerate_from (first + 1) xs))
    (count_by (λ x. asks part x.verb) xs) rest ∙ sym counts where
      asked_step : (b : Bool) (y : ℕ × Change) (ys : List (ℕ × Change)) (n : ℕ) → length (map (λ (x : ℕ × Change). change_id x.0) ys) ≡ n
          → length (map (λ (x : ℕ × Change). change_id x.0) (cond b (y ∷ ys) ys)) ≡ cond b 1 0 + n
      asked_step true y ys n e = omega (arith, e)
      asked_step false y ys n e = omega (arith, e)

-- how many identifiers are asked for in a part
pub ids_asked : (part : Part) (xs : List Change) → length (ids_of (asks part) xs) ≡ count_by (λ x. asks part x.verb) xs
ids_asked part xs = asked_from part 0 xs

-- one walk over the rows: what the counts say of its changes, and what the rows say of the later ones
pub walk : (part : Part) (rows : List (List ℕ × Place)) (first : ℕ) (left now later : List Change) (counts : List ℕ) (b : Bool)
    → AreTallied rows first counts
    → left ≡ now ++ later → length now ≤ length counts → first + length now < 2 ^ 64 → b ≡ are_counted_once part now counts
    → are_named_once part rows first left ≡ (b && are_named_once part rows (first + length now) later)
walk part rows first left now later counts b tallied is fits small e =
    ap (are_named_once part rows first) is ∙ named-append part rows first now later
    ∙ ap (λ (x : Bool). x && are_named_once part rows (first + length now) later)
    (sym (e ∙ counted_named part rows first now counts tallied fits small))

-- as many as are asked for, and each once
pub as_many : (n m k : ℕ) (a b : Bool) → n ≡ m → m ≡ k → a ≡ b → a ≡ ((n == k) && b)
as_many n m k a b e f g = rw (eq-eqb n k (e ∙ f), g) refl

pub not_as_many : (n m k : ℕ) (b : Bool) → m ≡ k → (n ≡ m → ⊥) → eqb n m ≡ ((n == k) && b)
not_as_many n m k b e other = let differs : n ≢ k = λ f. other (f ∙ sym e) in rw (ne_eqb n k differs, ne_eqb n m other) refl
