-- Counts of changes by phase and net.
use Rattle.std.proofs.Common.{◌≡◌, ◌≢◌, ◌≤◌, ◌<◌, ◌+◌, ◌-◌, ◌&&◌, ◌||◌, ◌==◌, ◌∙◌, ℕ, List, [], ◌∷◌, zero, suc, Bool, true, false, cond}
use Rattle.std.proofs.Common.{not, Option, None, Some, refl, ap, sym, subst, length, map, filter, replicate, set, slice_get, take, get_or}
use Rattle.std.proofs.Common.{arith, min, eqb-true, eq-eqb, false-eqb, option_map}
use Rattle.std.specs.Prelude.{slice_index_or, zip}
use Rattle.std.proofs.lemmas.List.Filters.{length-filter_more}
use Rattle.std.specs.List.{enumerate_from, list_all, range_with_len}
use Rattle.lcm_events.specs.declared.attempts.Outcome.{Outcome}
use Rattle.lcm_events.specs.declared.attempts.Outcome.TheVariants.{Done}
use Rattle.lcm_events.specs.declared.attempts.Tag.{Tag}
use Rattle.lcm_events.specs.declared.attempts.Way.{Way}
use Rattle.lcm_events.specs.declared.attempts.Way.TheVariants.{Forward, Undo}
use Rattle.lcm_events.specs.declared.changes.Change.{Change}
use Rattle.lcm_model.specs.Work.{net_after, net_before}
use Rattle.lcm_laws.proofs.Lists.{and_left, and_right, and_true, by_test, not-true}
use Rattle.occ_table.specs.Phases.{goes_first, in_phases, is_clear, none_counted, raised, shifted, tallies, tally, tally_after}
use Rattle.occ_table.specs.Steps.{nets_after}
use Rattle.occ_table.proofs.ChangeSteps.{differs, maps_same}

-- a change with its net is counted
abbrev hits : ℕ → ℕ → Change × ℕ → Bool
hits n p z = (z.0.phase == p) && (z.1 == n)

-- 1 where a test passes, or else 0
abbrev one : Bool → ℕ
one b = cond b 1 0

tally-cons : (n p : ℕ) (z : Change × ℕ) (zs : List (Change × ℕ)) → tally n (z ∷ zs) p ≡ one (hits n p z) + tally n zs p
tally-cons n p z zs = by (hits n p z) (filter (hits n p) zs) where
  by : (b : Bool) (ys : List (Change × ℕ)) → length (cond b (z ∷ ys) ys) ≡ one b + length ys
  by true ys = omega arith
  by false ys = omega arith

-- what a count is after one net was set, beside what it was
tally-set : (n p c v : ℕ) (xs : List Change) (ns : List ℕ) (x : Change) (old : ℕ) → slice_get xs c ≡ Some x → slice_get ns c ≡ Some old
    → tally n (zip xs (set ns c v)) p + one (hits n p (x, old)) ≡ tally n (zip xs ns) p + one (hits n p (x, v))
tally-set n p c v [] ns x old ex eo = cc
tally-set n p c v (y ∷ xs) [] x old ex eo = cc
tally-set n p zero v (y ∷ xs) (k ∷ ns) x old ex eo =
    let is : y ≡ x = cc in
    let was : k ≡ old = cc in
    let a = tally-cons n p (y, v) (zip xs ns) in
    let b = tally-cons n p (y, k) (zip xs ns) in
    let f : one (hits n p (y, v)) ≡ one (hits n p (x, v)) = ap (λ (z : Change). one (hits n p (z, v))) is in
    let g : one (hits n p (y, k)) ≡ one (hits n p (x, old)) = ap (λ (z : Change). one (hits n p (z, k))) is
    ∙ ap (λ (m : ℕ). one (hits n p (x, m))) was in
    omega (arith, a, b, f, g)
tally-set n p (suc c) v (y ∷ xs) (k ∷ ns) x old ex eo =
    let rest = tally-set n p c v xs ns x old ex eo in
    let a = tally-cons n p (y, k) (zip xs (set ns c v)) in
    let b = tally-cons n p (y, k) (zip xs ns) in
    omega (arith, rest, a, b)

tally-few : (n p : ℕ) (xs : List Change) (ns : List ℕ) → tally n (zip xs ns) p ≤ length xs
tally-few n p [] ns = omega arith
tally-few n p (x ∷ xs) [] = omega arith
tally-few n p (x ∷ xs) (k ∷ ns) =
    let rest = tally-few n p xs ns in
    let a = tally-cons n p (x, k) (zip xs ns) in
    let small : one (hits n p (x, k)) ≤ 1 = at_most (hits n p (x, k)) in
    omega (arith, rest, a, small) where
      at_most : (b : Bool) → one b ≤ 1
      at_most true = omega arith
      at_most false = omega arith

-- a value counts only within the list
set-any : (ns : List ℕ) (p a b : ℕ) → (p < length ns → a ≡ b) → set ns p a ≡ set ns p b
set-any [] p a b h = refl
set-any (k ∷ ns) zero a b h = ap (λ (m : ℕ). m ∷ ns) (h (omega arith))
set-any (k ∷ ns) (suc p) a b h = ap (λ (ms : List ℕ). k ∷ ms) (set-any ns p a b (λ less. h (omega (arith, less))))

index-range : (f : ℕ → ℕ) (k n j d : ℕ) → j < n → slice_index_or (map f (range_with_len k n)) j d ≡ f (k + j)
index-range f k zero j d h = absurd (omega (arith, h))
index-range f k (suc n) zero d h = let same : k ≡ k + 0 = omega arith in ap f same
index-range f k (suc n) (suc j) d h =
    let same : (k + 1) + j ≡ k + suc j = omega arith in
    index-range f (k + 1) n j d (omega (arith, h)) ∙ ap f same

hits-own : (n : ℕ) (x : Change) (m : ℕ) (b : Bool) → (m == n) ≡ b → one (hits n x.phase (x, m)) ≡ one b
hits-own n x m b e = let own : (x.phase == x.phase) ≡ true = eq-eqb x.phase x.phase refl in rw own (ap one e)

hits-other : (n p : ℕ) (x : Change) (m : ℕ) → (x.phase == p) ≡ false → one (hits n p (x, m)) ≡ 0
hits-other n p x m other = rw other refl

-- a change that gets another net is counted where it belongs
shift-set : (n c v old : ℕ) (xs : List Change) (ns : List ℕ) (x : Change) → slice_get xs c ≡ Some x → slice_get ns c ≡ Some old
    → (v == n) ≡ not (old == n) → length xs ≤ 5000 → tallies n xs (set ns c v) ≡ shifted (v == n) (Some x.phase) (tallies n xs ns)
shift-set n c v old xs ns x ex eo turned few =
    let f : ℕ → ℕ = tally n (zip xs ns) in
    let g : ℕ → ℕ = tally n (zip xs (set ns c v)) in
    let set_p : (p : ℕ) → g p + one (hits n p (x, old)) ≡ f p + one (hits n p (x, v)) = λ p. tally-set n p c v xs ns x old ex eo in
    let others : (p : ℕ) → (x.phase == p) ≡ false → g p ≡ f p =
    (λ p other.
    let now = set_p p in
    let a = hits-other n p x v other in
    let b = hits-other n p x old other in
    omega (arith, now, a, b)) in
    let bound : f x.phase ≤ 5000 = let most = tally-few n x.phase xs ns in omega (arith, most, few) in
    by_test (v == n)
    (λ up.
    let down : (old == n) ≡ false = not-true (old == n) (sym turned ∙ up) in
    let now = set_p x.phase in
    let a = hits-own n x v true up in
    let b = hits-own n x old false down in
    let next : g x.phase ≡ f x.phase + 1 = omega (arith, now, a, b) in
    differs f g 0 9 x.phase x.phase (f x.phase + 1) (omega arith) next others
    ∙ (set-any (map f (range_with_len 0 9)) x.phase _ _ (λ less.
    let at : slice_index_or (map f (range_with_len 0 9)) x.phase 0 ≡ f x.phase =
    index-range f 0 9 x.phase 0 less ∙ ap f (from_zero x.phase) in
    least (f x.phase) (slice_index_or (map f (range_with_len 0 9)) x.phase 0) at bound)
    ∙ ap (λ (b : Bool). shifted b (Some x.phase) (tallies n xs ns)) (sym up)))
    (λ down.
    let up : (old == n) ≡ true = not-not (old == n) (sym turned ∙ down) in
    let now = set_p x.phase in
    let a = hits-own n x v false down in
    let b = hits-own n x old true up in
    let next : g x.phase ≡ f x.phase - 1 = omega (arith, now, a, b) in
    differs f g 0 9 x.phase x.phase (f x.phase - 1) (omega arith) next others
    ∙ (set-any (map f (range_with_len 0 9)) x.phase _ _ (λ less.
    let at : slice_index_or (map f (range_with_len 0 9)) x.phase 0 ≡ f x.phase =
    index-range f 0 9 x.phase 0 less ∙ ap f (from_zero x.phase) in
    ap (λ (k : ℕ). k - 1) (sym at))
    ∙ ap (λ (b : Bool). shifted b (Some x.phase) (tallies n xs ns)) (sym down))) where
      from_zero : (p : ℕ) → 0 + p ≡ p
      from_zero p = omega arith

      least : (a b : ℕ) → b ≡ a → a ≤ 5000 → a + 1 ≡ min (b + 1) 65535
      least a b e h = omega (arith, e, h)

      not-not : (b : Bool) → not b ≡ false → b ≡ true
      not-not true e = refl
      not-not false e = cc

set_past : (ns : List ℕ) (c v : ℕ) → length ns ≤ c → set ns c v ≡ ns
set_past [] c v h = refl
set_past (k ∷ ns) zero v h = absurd (omega (arith, h))
set_past (k ∷ ns) (suc c) v h = ap (λ (ms : List ℕ). k ∷ ms) (set_past ns c v (omega (arith, h)))

none_past : {A : Type 0} → (xs : List A) (c : ℕ) → slice_get xs c ≡ None → length xs ≤ c
none_past [] c e = omega arith
none_past (x ∷ xs) zero e = cc
none_past (x ∷ xs) (suc c) e = let rest = none_past xs c e in omega (arith, rest)

pub some_within : {A : Type 0} → (xs : List A) (c : ℕ) (x : A) → slice_get xs c ≡ Some x → c < length xs
some_within [] c x e = cc
some_within (y ∷ xs) zero x e = omega arith
some_within (y ∷ xs) (suc c) x e = let rest = some_within xs c x e in omega (arith, rest)

pub get-range : (f : ℕ → ℕ) (k n j : ℕ) → j < n → slice_get (map f (range_with_len k n)) j ≡ Some (f (k + j))
get-range f k zero j h = absurd (omega (arith, h))
get-range f k (suc n) zero h = let same : k ≡ k + 0 = omega arith in ap (λ (m : ℕ). Some (f m)) same
get-range f k (suc n) (suc j) h =
    let same : (k + 1) + j ≡ k + suc j = omega arith in
    get-range f (k + 1) n j (omega (arith, h)) ∙ ap (λ (m : ℕ). Some (f m)) same

turned : (w : Way) (n : ℕ) → n ≤ 1 → (net_after w == n) ≡ not (net_before w == n)
turned Forward zero h = refl
turned Forward (suc zero) h = refl
turned Forward (suc (suc n)) h = absurd (omega (arith, h))
turned Undo zero h = refl
turned Undo (suc zero) h = refl
turned Undo (suc (suc n)) h = absurd (omega (arith, h))

tally_done : (n : ℕ) (t : Tag) (xs : List Change) (f : ℕ → ℕ) (x : Option Change) → n ≤ 1 → length xs ≤ 5000 → f t.change ≡ net_before t.way
    → slice_get xs t.change ≡ x
    → tallies n xs (set (map f (range_with_len 0 (length xs))) t.change (net_after t.way))
    ≡ shifted (net_after t.way == n) (option_map (λ (y : Change). y.phase) x) (tallies n xs (map f (range_with_len 0 (length xs))))
tally_done n t xs f None low few was e =
    let past = none_past xs t.change e in
    let long = length_range f 0 (length xs) in
    ap (λ (ns : List ℕ). tallies n xs ns) (set_past (map f (range_with_len 0 (length xs))) t.change (net_after t.way)
    (omega (arith, past, long))) where
      length_range : (f : ℕ → ℕ) (k n : ℕ) → length (map f (range_with_len k n)) ≡ n
      length_range f k zero = refl
      length_range f k (suc n) = ap suc (length_range f (k + 1) n)
tally_done n t xs f (Some x) low few was e =
    let zeroth : 0 + t.change ≡ t.change = omega arith in
    let held = get-range f 0 (length xs) t.change (some_within xs t.change x e) ∙ (ap (λ (m : ℕ). Some (f m)) zeroth ∙ ap Some was) in
    shift-set n t.change (net_after t.way) (net_before t.way) xs (map f (range_with_len 0 (length xs))) x e held (turned t.way n low) few

-- the counts after an attempt has ended
pub tally-ended : (n : ℕ) (t : Tag) (outcome : Outcome) (xs : List Change) (f : ℕ → ℕ) → n ≤ 1 → length xs ≤ 5000
    → f t.change ≡ net_before t.way
    → tallies n xs (nets_after t outcome (map f (range_with_len 0 (length xs))))
    ≡ tally_after n t outcome xs (tallies n xs (map f (range_with_len 0 (length xs))))
tally-ended n t (Done name) xs f low few was = tally_done n t xs f (slice_get xs t.change) low few was refl
tally-ended n t _ xs f low few was = refl

fresh_waiting : (p : ℕ) (xs : List Change) → tally 0 (zip xs (replicate (length xs) 0)) p
    ≡ length (filter (λ (x : Change). x.phase == p) xs)
fresh_waiting p [] = refl
fresh_waiting p (x ∷ xs) = by_test (x.phase == p)
    (λ yes. rw yes (ap suc (fresh_waiting p xs)))
    (λ no. rw no (fresh_waiting p xs))

fresh_made : (p : ℕ) (xs : List Change) → tally 1 (zip xs (replicate (length xs) 0)) p ≡ 0
fresh_made p [] = refl
fresh_made p (x ∷ xs) = by_test (x.phase == p)
    (λ yes. rw yes (fresh_made p xs))
    (λ no. rw no (fresh_made p xs))

-- all changes of a plan wait when it is asked for
pub waiting-fresh : (xs : List Change) → length xs ≤ 5000 → tallies 0 xs (replicate (length xs) 0) ≡ in_phases xs
waiting-fresh xs few =
    maps_same (tally 0 (zip xs (replicate (length xs) 0))) (λ p. min (length (filter (λ (x : Change). x.phase == p) xs)) 65535)
    (range_with_len 0 9) (λ p.
    let is = fresh_waiting p xs in
    let most = tally-few 0 p xs (replicate (length xs) 0) in
    omega (arith, is, most, few))

pub made-fresh : (xs : List Change) → tallies 1 xs (replicate (length xs) 0) ≡ replicate 9 0
made-fresh xs = maps_same (tally 1 (zip xs (replicate (length xs) 0))) (λ p. 0) (range_with_len 0 9) (λ p. fresh_made p xs)

-- each change is of one of the nine phases, and its net is one of the two
abbrev pub Sound : ℕ → ℕ → List (Change × ℕ) → Type 0
Sound m n [] = Unit {0}
Sound m n (z ∷ zs) = (z.0.phase < 9) × ((z.1 == m) ≡ not (z.1 == n)) × Sound m n zs

-- no change with this net is of a phase that passes the test
abbrev Clear : (ℕ → Bool) → ℕ → List (Change × ℕ) → Type 0
Clear goes n zs = (p : ℕ) → p < 9 → goes p ≡ true → tally n zs p ≡ 0

-- a change is through where its phase passes the test
abbrev pub through : (ℕ → Bool) → ℕ → Change × ℕ → Bool
through goes m z = not (goes z.0.phase) || (z.1 == m)

head_none : (b : Bool) (k j : ℕ) → k ≡ one b + j → k ≡ 0 → (b ≡ false) × (j ≡ 0)
head_none true k j e h = absurd (omega (arith, e, h))
head_none false k j e h = (refl, omega (arith, e, h))

clear-to : (goes : ℕ → Bool) (m n : ℕ) (zs : List (Change × ℕ)) → Sound m n zs → Clear goes n zs → list_all (through goes m) zs ≡ true
clear-to goes m n [] s c = refl
clear-to goes m n (z ∷ zs) s c =
    and_true (through goes m z) (list_all (through goes m) zs)
    (by_test (goes z.0.phase)
    (λ yes.
    let none = head_none (hits n z.0.phase z) _ _ (tally-cons n z.0.phase z zs) (c z.0.phase s.0 yes) in
    let own : (z.0.phase == z.0.phase) ≡ true = eq-eqb z.0.phase z.0.phase refl in
    let miss : (z.1 == n) ≡ false = sym (ap (λ (b : Bool). b && (z.1 == n)) own) ∙ none.0 in
    let is : (z.1 == m) ≡ true = s.1 ∙ ap not miss in
    rw (yes, is) refl)
    (λ no. rw no refl))
    (clear-to goes m n zs s.2 (λ p small yes. (head_none (hits n p z) _ _ (tally-cons n p z zs) (c p small yes)).1))

clear-from : (goes : ℕ → Bool) (m n : ℕ) (zs : List (Change × ℕ)) → Sound m n zs → list_all (through goes m) zs ≡ true → Clear goes n zs
clear-from goes m n [] s h = λ p small yes. refl
clear-from goes m n (z ∷ zs) s h = λ p small yes.
    let rest : tally n zs p ≡ 0 = clear-from goes m n zs s.2 (and_right (through goes m z) (list_all (through goes m) zs) h) p small yes in
    let front : through goes m z ≡ true = and_left (through goes m z) (list_all (through goes m) zs) h in
    let miss : hits n p z ≡ false = by_test (z.0.phase == p)
    (λ same.
    let is : z.0.phase ≡ p = eqb-true z.0.phase p same in
    let goes_z : goes z.0.phase ≡ true = ap goes is ∙ yes in
    let has : (z.1 == m) ≡ true = sym (ap (λ (b : Bool). not b || (z.1 == m)) goes_z) ∙ front in
    let none : (z.1 == n) ≡ false = not-true (z.1 == n) (sym s.1 ∙ has) in
    rw none (and_none (z.0.phase == p)))
    (λ other. rw other refl) in
    let a = tally-cons n p z zs in
    let b : one (hits n p z) ≡ 0 = ap one miss in
    omega (arith, a, b, rest) where
      and_none : (b : Bool) → (b && false) ≡ false
      and_none true = refl
      and_none false = refl

all_range-to : (g : ℕ → Bool) (k n p : ℕ) → list_all g (range_with_len k n) ≡ true → k ≤ p → p < k + n → g p ≡ true
all_range-to g k zero p h low high = absurd (omega (arith, low, high))
all_range-to g k (suc n) p h low high = by_test (k == p)
    (λ same. subst (λ (q : ℕ). g q ≡ true) (eqb-true k p same) (and_left (g k) (list_all g (range_with_len (k + 1) n)) h))
    (λ other. all_range-to g (k + 1) n p (and_right (g k) (list_all g (range_with_len (k + 1) n)) h) (above k p low other)
    (omega (arith, high))) where
      above : (a b : ℕ) → a ≤ b → (a == b) ≡ false → a + 1 ≤ b
      above a b le ne = let differ : a ≢ b = false-eqb a b (sym ne) in omega (arith, le, differ)

all_range-from : (g : ℕ → Bool) (k n : ℕ) → ((p : ℕ) → k ≤ p → p < k + n → g p ≡ true) → list_all g (range_with_len k n) ≡ true
all_range-from g k zero f = refl
all_range-from g k (suc n) f =
    and_true (g k) (list_all g (range_with_len (k + 1) n)) (f k (omega arith) (omega arith))
    (all_range-from g (k + 1) n (λ p low high. f p (omega (arith, low)) (omega (arith, high))))

-- a test of counts with their phases
counts_all : (test : ℕ × ℕ → Bool) (f : ℕ → ℕ) (k n : ℕ) → list_all test (enumerate_from k (map f (range_with_len k n)))
    ≡ list_all (λ p. test (p, f p)) (range_with_len k n)
counts_all test f k zero = refl
counts_all test f k (suc n) = ap (λ (b : Bool). test (k, f k) && b) (counts_all test f (k + 1) n)

-- no such change is counted in a phase that passes the test
abbrev clear_at : (ℕ → Bool) → ℕ → List (Change × ℕ) → ℕ → Bool
clear_at goes n zs p = not (goes p) || (tally n zs p == 0)

at-to : (goes : ℕ → Bool) (n : ℕ) (zs : List (Change × ℕ)) → ((p : ℕ) → p < 9 → clear_at goes n zs p ≡ true) → Clear goes n zs
at-to goes n zs h p small passes = eqb-true (tally n zs p) 0 (sym (ap (λ (b : Bool). not b || (tally n zs p == 0)) passes) ∙ h p small)

at-from : (goes : ℕ → Bool) (n : ℕ) (zs : List (Change × ℕ)) → Clear goes n zs → (p : ℕ) → p < 9 → clear_at goes n zs p ≡ true
at-from goes n zs c p small = by_test (goes p)
    (λ yes. rw yes (eq-eqb (tally n zs p) 0 (c p small yes)))
    (λ no. rw no refl)

same_from_both : (a b : Bool) → (a ≡ true → b ≡ true) → (b ≡ true → a ≡ true) → a ≡ b
same_from_both true b f g = sym (f refl)
same_from_both false true f g = g refl
same_from_both false false f g = refl

-- one change more is counted in its phase
phases-more : (xs : List Change) (i : ℕ) (d : Change) → i < length xs
    → raised (get_or xs i d).phase (in_phases (take i xs)) ≡ in_phases (take (i + 1) xs)
phases-more xs i d less =
    let x : Change = get_or xs i d in
    let f : ℕ → ℕ = λ p. length (filter (λ (y : Change). y.phase == p) (take i xs)) in
    let g : ℕ → ℕ = λ p. length (filter (λ (y : Change). y.phase == p) (take (i + 1) xs)) in
    let counts : ℕ → ℕ = λ p. min (f p) 65535 in
    let more : (p : ℕ) → g p ≡ f p + one (x.phase == p) = λ p. length-filter_more (λ (y : Change). y.phase == p) xs i d less in
    let others : (p : ℕ) → (x.phase == p) ≡ false → min (g p) 65535 ≡ min (f p) 65535 =
    (λ p other.
    let now = more p in
    let none : one (x.phase == p) ≡ 0 = ap one other in
    let same : g p ≡ f p = omega (arith, now, none) in
    ap (λ (k : ℕ). min k 65535) same) in
    let own : one (x.phase == x.phase) ≡ 1 = ap one (eq-eqb x.phase x.phase refl) in
    let now = more x.phase in
    let next : g x.phase ≡ f x.phase + 1 = omega (arith, now, own) in
    sym (differs counts (λ p. min (g p) 65535) 0 9 x.phase x.phase (min (f x.phase + 1) 65535) (omega arith)
    (ap (λ (k : ℕ). min k 65535) next) others
    ∙ set-any (map counts (range_with_len 0 9)) x.phase _ _ (λ small.
    let at : slice_index_or (map counts (range_with_len 0 9)) x.phase 0 ≡ min (f x.phase) 65535 =
    index-range counts 0 9 x.phase 0 small ∙ ap counts (from_zero x.phase) in
    least (f x.phase) (slice_index_or (map counts (range_with_len 0 9)) x.phase 0) at)) where
      from_zero : (p : ℕ) → 0 + p ≡ p
      from_zero p = omega arith

      least : (a b : ℕ) → b ≡ min a 65535 → min (a + 1) 65535 ≡ min (b + 1) 65535
      least a b e = omega (arith, e)

pub phases-next : (xs : List Change) (i : ℕ) (d : Change) (old new : List ℕ) → new ≡ raised (get_or xs i d).phase old
    → old ≡ in_phases (take i xs)
    → i < length xs → new ≡ in_phases (take (i + 1) xs)
phases-next xs i d old new e is less = e ∙ (ap (λ (ns : List ℕ). raised (get_or xs i d).phase ns) is ∙ phases-more xs i d less)

-- what is asked of all changes is asked of at most nine counts
pub through_by_counts : (goes : ℕ → Bool) (m n : ℕ) (zs : List (Change × ℕ)) → Sound m n zs
    → list_all (clear_at goes n zs) (range_with_len 0 9) ≡ list_all (through goes m) zs
through_by_counts goes m n zs s = same_from_both _ _
    (λ h. clear-to goes m n zs s (at-to goes n zs (λ p small. all_range-to (clear_at goes n zs) 0 9 p h (omega arith)
    (omega (arith, small)))))
    (λ h. all_range-from (clear_at goes n zs) 0 9 (λ p low high. at-from goes n zs (clear-from goes m n zs s h) p (omega (arith, high))))

-- every change that goes before a phase is through exactly where the counts are clear
pub clear-counts : (way : Way) (q : ℕ) (xs : List Change) (ns : List ℕ) → Sound (net_after way) (net_before way) (zip xs ns)
    → is_clear way q (tallies (net_before way) xs ns) ≡ list_all (through (goes_first way q) (net_after way)) (zip xs ns)
clear-counts way q xs ns s =
    counts_all (λ x. not (goes_first way q x.0) || (x.1 == 0)) (tally (net_before way) (zip xs ns)) 0 9
    ∙ through_by_counts (goes_first way q) (net_after way) (net_before way) (zip xs ns) s

none_all : (f : ℕ → ℕ) (k n : ℕ) → none_counted (map f (range_with_len k n)) ≡ list_all (λ p. f p == 0) (range_with_len k n)
none_all f k zero = refl
none_all f k (suc n) = ap (λ (b : Bool). (f k == 0) && b) (none_all f (k + 1) n)

-- every change has one of the nets exactly where none is counted with the other
pub none-counts : (m n : ℕ) (xs : List Change) (ns : List ℕ) → Sound m n (zip xs ns)
    → none_counted (tallies n xs ns) ≡ list_all (through (λ p. true) m) (zip xs ns)
none-counts m n xs ns s = none_all (tally n (zip xs ns)) 0 9 ∙ through_by_counts (λ p. true) m n (zip xs ns) s
