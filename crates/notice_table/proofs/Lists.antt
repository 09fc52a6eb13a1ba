-- Lists with an entry written, in another order, or of some entries alone.
use Rattle.std.proofs.Common.{◌≡◌, ◌≤◌, ◌<◌, ◌+◌, ◌++◌, ◌==◌, ◌∙◌, ℕ, List, [], ◌∷◌, zero, suc, Bool, true, false, cond, Option, None, Some}
use Rattle.std.proofs.Common.{refl, ap, sym, subst, length, map, filter, find, reverse, take, drop, set, get_or, arith, nat_lt, lt-ltb}
use Rattle.std.proofs.Common.{ltb-true, le-ltb, eqb-true, eq-eqb, inl, inr, is_some}
use Rattle.std.specs.List.{All, AllWithin}
use Rattle.std.specs.List.Sorted.{IsPartitionPoint}
use Rattle.std.specs.Prelude.{IfSome, slice_get, slice_index_or, unwrap_or}
use Rattle.std.proofs.lemmas.List.{length-map}
use Rattle.std.proofs.lemmas.List.Elements.{All-cons, All-head, All-nil, All-same, All-tail, filter-append}
use mathlib.Core.List.{reverse-cons}
use Rattle.lcm_model.specs.Words.{IsIn, first, last}
use Rattle.lcm_laws.proofs.Lists.{by_test, filter_swap, filter_same}
use Rattle.lcm_laws.proofs.Members.{of_filter}
use Rattle.lcm_laws.proofs.NumberLaws.{IsCounted, found_within}
use Rattle.instance_table.specs.Steps.{Over, Rises, update, with_key}
use Rattle.instance_table.proofs.Sorted.{Falls, Under, falls-filter, rises-reverse}

-- what is seen of a list stays, where what is written looks as what stood there
pub same_written : {A B : Type 0} → (f : A → B) (n : ℕ) (xs : List A) (x d : A) → n < length xs → f x ≡ f (get_or xs n d)
    → map f (set xs n x) ≡ map f xs
same_written f n [] x d h is = absurd (omega (arith, h))
same_written f zero (z ∷ zs) x d h is = ap (λ b. b ∷ map f zs) is
same_written f (suc n) (z ∷ zs) x d h is = ap (λ bs. f z ∷ bs) (same_written f n zs x d (omega (arith, h)) is)

mapped_more : {A B : Type 0} → (f : A → B) (g : B → B) (n : ℕ) (xs : List A) (x d : A) → n < length xs → f x ≡ g (f (get_or xs n d))
    → take (suc n) (map f (set xs n x)) ++ map g (drop (suc n) (map f (set xs n x))) ≡ take n (map f xs) ++ map g (drop n (map f xs))
mapped_more f g n [] x d h is = absurd (omega (arith, h))
mapped_more f g zero (z ∷ zs) x d h is = ap (λ b. b ∷ map g (map f zs)) is
mapped_more f g (suc n) (z ∷ zs) x d h is = ap (λ bs. f z ∷ bs) (mapped_more f g n zs x d (omega (arith, h)) is)

-- what is seen of a list, its front changed and the rest to be changed, before and after one entry is
pub mapped_step : {A B : Type 0} → (f : A → B) (g : B → B) (n : ℕ) (xs : List A) (x d : A) → n < length xs → f x ≡ g (f (get_or xs n d))
    → take (n + 1) (map f (set xs n x)) ++ map g (drop (n + 1) (map f (set xs n x))) ≡ take n (map f xs) ++ map g (drop n (map f xs))
mapped_step f g n xs x d h is =
    let more : n + 1 ≡ suc n = omega arith in
    ap (λ (k : ℕ). take k (map f (set xs n x)) ++ map g (drop k (map f (set xs n x)))) more ∙ mapped_more f g n xs x d h is

-- at the end all is changed
pub mapped_end : {A B : Type 0} → (f : A → B) (g : B → B) (n : ℕ) (xs : List A) → length xs ≤ n
    → take n (map f xs) ++ map g (drop n (map f xs)) ≡ map f xs
mapped_end f g zero [] h = refl
mapped_end f g (suc n) [] h = refl
mapped_end f g zero (x ∷ xs) h = absurd (omega (arith, h))
mapped_end f g (suc n) (x ∷ xs) h = ap (λ ys. f x ∷ ys) (mapped_end f g n xs (omega (arith, h)))

over_of_map : {A B : Type 0} → (f : B → ℕ) (g : A → B) (n : ℕ) (xs : List A) → Over f n (map g xs) → Over (λ x. f (g x)) n xs
over_of_map f g n [] o = tt
over_of_map f g n (x ∷ xs) o = (o.0, over_of_map f g n xs o.1)

-- what rises as it is seen rises
pub rises_of_map : {A B : Type 0} → (f : B → ℕ) (g : A → B) (xs : List A) → Rises f (map g xs) → Rises (λ x. f (g x)) xs
rises_of_map f g [] r = tt
rises_of_map f g (x ∷ xs) r = (over_of_map f g (f (g x)) xs r.0, rises_of_map f g xs r.1)

over_same : {A : Type 0} → (f : A → ℕ) (g : A → A) (n : ℕ) (xs : List A) → ((x : A) → f (g x) ≡ f x) → Over f n xs → Over f n (map g xs)
over_same f g n [] e o = tt
over_same f g n (x ∷ xs) e o = (subst (λ (k : ℕ). n < k) (sym (e x)) o.0, over_same f g n xs e o.1)

-- what rises does so after a change that leaves the numbers
pub rises_same : {A : Type 0} → (f : A → ℕ) (g : A → A) (xs : List A) → ((x : A) → f (g x) ≡ f x) → Rises f xs → Rises f (map g xs)
rises_same f g [] e r = tt
rises_same f g (x ∷ xs) e r = (subst (λ (k : ℕ). Over f k (map g xs)) (sym (e x)) (over_same f g (f x) xs e r.0), rises_same f g xs e r.1)

pub map_filter : {A B : Type 0} → (p : B → Bool) (f : A → B) (xs : List A) → map f (filter (λ x. p (f x)) xs) ≡ filter p (map f xs)
map_filter p f [] = refl
map_filter p f (x ∷ xs) = by_test (p (f x))
    (λ passes. rw passes (ap (λ ys. f x ∷ ys) (map_filter p f xs)))
    (λ fails. rw fails (map_filter p f xs))

pub nil_right : {A : Type 0} → (ys : List A) → ys ++ [] ≡ ys
nil_right [] = refl
nil_right (y ∷ ys) = ap (λ zs. y ∷ zs) (nil_right ys)

pub filter_reverse : {A : Type 0} → (p : A → Bool) (xs : List A) → filter p (reverse xs) ≡ reverse (filter p xs)
filter_reverse p [] = refl
filter_reverse p (x ∷ xs) =
    ap (filter p) (reverse-cons x xs)
    ∙ (filter-append p (reverse xs) (x ∷ [])
    ∙ (ap (λ ys. ys ++ filter p (x ∷ [])) (filter_reverse p xs)
    ∙ by_test (p x) (λ passes. rw passes (sym (reverse-cons x (filter p xs)))) (λ fails. rw fails (nil_right (reverse (filter p xs))))))

-- a list with one entry more
pub map_end : {A B : Type 0} → (f : A → B) (xs : List A) (y : A) → map f (xs ++ y ∷ []) ≡ map f xs ++ f y ∷ []
map_end f [] y = refl
map_end f (x ∷ xs) y = ap (λ ys. f x ∷ ys) (map_end f xs y)

pub map_reverse : {A B : Type 0} → (f : A → B) (xs : List A) → reverse (map f xs) ≡ map f (reverse xs)
map_reverse f [] = refl
map_reverse f (x ∷ xs) =
    reverse-cons (f x) (map f xs) ∙ (ap (λ ys. ys ++ f x ∷ []) (map_reverse f xs)
    ∙ (sym (map_end f (reverse xs) x) ∙ ap (map f) (sym (reverse-cons x xs))))

-- what is the same of each entry is the same of all
pub map_in : {A B : Type 0} → (f g : A → B) (xs : List A) → ((x : A) → IsIn x xs → f x ≡ g x) → map f xs ≡ map g xs
map_in f g [] e = refl
map_in f g (x ∷ xs) e = ap (λ y. y ∷ map f xs) (e x (inl refl)) ∙ ap (λ ys. g x ∷ ys) (map_in f g xs (λ y h. e y (inr h)))

pub map_twice : {A B C : Type 0} → (f : A → B) (g : B → C) (xs : List A) → map (λ x. g (f x)) xs ≡ map g (map f xs)
map_twice f g [] = refl
map_twice f g (x ∷ xs) = ap (λ ys. g (f x) ∷ ys) (map_twice f g xs)

pub map_self : {A : Type 0} → (xs : List A) → map (λ x. x) xs ≡ xs
map_self [] = refl
map_self (x ∷ xs) = ap (λ ys. x ∷ ys) (map_self xs)

first_end : {A : Type 0} → (xs : List A) (y : A) → first (xs ++ y ∷ []) ≡ Some (unwrap_or (first xs) y)
first_end [] y = refl
first_end (x ∷ xs) y = refl

-- the first from the other end
pub first_reverse : {A : Type 0} → (xs : List A) → first (reverse xs) ≡ last xs
first_reverse [] = refl
first_reverse (x ∷ xs) =
    ap first (reverse-cons x xs) ∙ (first_end (reverse xs) x ∙ ap (λ y. Some (unwrap_or y x)) (first_reverse xs))

pub some_same : {A : Type 0} → {a b : A} → Some a ≡ Some b → a ≡ b
some_same e = cc

last_either : {A : Type 0} → (x y : A) (z : Option A) (xs : List A) → Some (unwrap_or z x) ≡ Some y → (z ≡ Some y → IsIn y xs)
    → IsIn y (x ∷ xs)
last_either x y None xs e f = inl (some_same e)
last_either x y (Some z) xs e f = inr (f e)

-- the last is in the list
pub last_in : {A : Type 0} → (xs : List A) (y : A) → last xs ≡ Some y → IsIn y xs
last_in [] y e = cc
last_in (x ∷ xs) y e = last_either x y (last xs) xs e (λ f. last_in xs y f)

pub under_in : (b : ℕ) (ns : List ℕ) (y : ℕ) → Under (λ n. n) b ns → IsIn y ns → y < b
under_in b [] y u h = absurd h
under_in b (n ∷ ns) y u (inl e) = let low = u.0 in omega (arith, low, e)
under_in b (n ∷ ns) y u (inr h) = under_in b ns y u.1 h

pub under_more : (b c : ℕ) (ns : List ℕ) → Under (λ n. n) b ns → b ≤ c → Under (λ n. n) c ns
under_more b c [] u h = tt
under_more b c (n ∷ ns) u h = let low = u.0 in (omega (arith, low, h), under_more b c ns u.1 h)

-- nothing is above all
pub none_above : (b c : ℕ) (ns : List ℕ) → Under (λ n. n) b ns → b ≤ suc c → filter (nat_lt c) ns ≡ []
none_above b c [] u h = refl
none_above b c (n ∷ ns) u h =
    let low = u.0 in
    let no : nat_lt c n ≡ false = le-ltb c n (omega (arith, low, h)) in
    rw no (none_above b c ns u.1 h)

all_above : (n : ℕ) (ns : List ℕ) → Over (λ k. k) n ns → filter (nat_lt n) ns ≡ ns
all_above n [] o = refl
all_above n (k ∷ ks) o =
    let yes : nat_lt n k ≡ true = lt-ltb n k o.0 in
    rw yes (ap (λ (ls : List ℕ). k ∷ ls) (all_above n ks o.1))

above_first : (place : ℕ) (ns : List ℕ) → Rises (λ k. k) ns → first ns ≡ Some place → filter (nat_lt place) ns ≡ drop 1 ns
above_first place [] r e = refl
above_first place (n ∷ ns) r e =
    let is : n ≡ place = some_same e in
    let no : nat_lt n n ≡ false = le-ltb n n (omega arith) in
    subst (λ (p : ℕ). filter (nat_lt p) (n ∷ ns) ≡ ns) is (rw no (all_above n ns r.0))

-- of falling numbers those past the last that is past another are the same without it
pub without_last : (c place : ℕ) (ns : List ℕ) → Falls (λ k. k) ns → last (filter (nat_lt c) ns) ≡ Some place
    → reverse (filter (nat_lt place) ns) ≡ drop 1 (reverse (filter (nat_lt c) ns))
without_last c place ns falls e =
    let past : List ℕ = filter (nat_lt c) ns in
    let up = ltb-true c place (of_filter (nat_lt c) place ns (last_in past place e)).1 in
    let both : filter (nat_lt place) past ≡ filter (nat_lt place) ns =
    filter_swap (nat_lt place) (nat_lt c) ns
    ∙ filter_same (nat_lt place) (nat_lt c) ns (λ k h. let more = ltb-true place k h in lt-ltb c k (omega (arith, up, more))) in
    ap reverse (sym both)
    ∙ (sym (filter_reverse (nat_lt place) past)
    ∙ above_first place (reverse past) (rises-reverse (λ k. k) past (falls-filter (λ k. k) (nat_lt c) ns falls)) (first_reverse past ∙ e))

-- what is counted is found by its number
pub found_by_number : {A : Type 0} → (f : A → ℕ) (x : A) (xs : List A) → IsCounted f xs → IsIn x xs → find (λ y. f y == f x) xs ≡ Some x
found_by_number f x [] c h = absurd h
found_by_number f x (y ∷ ys) c (inl e) = let same : (f y == f x) ≡ true = eq-eqb (f y) (f x) (ap f e) in rw same (ap Some e)
found_by_number f x (y ∷ ys) c (inr h) =
    let rest : find (λ z. f z == f x) ys ≡ Some x = found_by_number f x ys c.1 h in
    let number = c.0 in
    by_test (f y == f x)
    (λ same.
    let is : f y ≡ f x = eqb-true (f y) (f x) same in
    let there : is_some (find (λ z. f z == f x) ys) ≡ true = ap is_some rest in
    let within = (found_within f ys (f x) c.1 there).1 in
    absurd (omega (arith, number, is, within)))
    (λ other. rw other rest)

-- what is found has the number
pub number_found : {A : Type 0} → (f : A → ℕ) (n : ℕ) (xs : List A) (x : A) → find (λ y. f y == n) xs ≡ Some x → f x ≡ n
number_found f n [] x e = cc
number_found f n (y ∷ ys) x e = by_test (f y == n)
    (λ same.
    let is : y ≡ x = some_same (subst (λ (b : Bool). cond b (Some y) (find (λ z. f z == n) ys) ≡ Some x) same e) in
    ap f (sym is) ∙ eqb-true (f y) n same)
    (λ other. number_found f n ys x (subst (λ (b : Bool). cond b (Some y) (find (λ z. f z == n) ys) ≡ Some x) other e))

-- what is seen of a list with an entry written, where that is what a change makes of what stood there
pub changed_written : {A B : Type 0} → (f : A → B) (g : B → B) (n : ℕ) (xs : List A) (x y : A) → n < length xs → y ≡ get_or xs n y
    → f x ≡ g (f y) → map f (set xs n x) ≡ update g n (map f xs)
changed_written f g n [] x y h e is = absurd (omega (arith, h))
changed_written f g zero (z ∷ zs) x y h e is = ap (λ b. b ∷ map f zs) (is ∙ ap (λ a. g (f a)) e)
changed_written f g (suc n) (z ∷ zs) x y h e is = ap (λ bs. f z ∷ bs) (changed_written f g n zs x y (omega (arith, h)) e is)

seen_at : {A B : Type 0} → (f : A → B) (P : B → Type 0) (ys : List A) (j : ℕ) (d : B) → j < length ys
    → ((a : A) → P (f (slice_index_or ys j a))) → P (slice_index_or (map f ys) j d)
seen_at f P [] j d h e = absurd (omega (arith, h))
seen_at f P (y ∷ ys) zero d h e = e y
seen_at f P (y ∷ ys) (suc j) d h e = seen_at f P ys j d (omega (arith, h)) e

-- where what is seen of a list is parted
pub seen_point : {A B : Type 0} → (f : A → B) (p : B → Bool) (ys : List A) (k : ℕ) → k ≤ length ys
    → IsPartitionPoint (λ y. p (f y) ≡ true) (λ y. p (f y) ≡ false) ys k
    → IsPartitionPoint (λ b. p b ≡ true) (λ b. p b ≡ false) (map f ys) k
seen_point f p ys k h point = (
  λ j d low high. seen_at f (λ b. p b ≡ true) ys j d (omega (arith, high, h)) (λ a. point.0 j a low high),
  λ j d low high. let same = length-map ys f in seen_at f (λ b. p b ≡ false) ys j d (omega (arith, high, same))
      (λ a. point.1 j a low (omega (arith, high, same))),
)

-- what holds of all that is seen of a list
pub all_of_map : {A B : Type 0} → (P : B → Type 0) (f : A → B) (ys : List A) → All P (map f ys) → All (λ y. P (f y)) ys
all_of_map P f [] a = All-nil (λ y. P (f y))
all_of_map P f (y ∷ ys) a = All-cons (λ y. P (f y)) y ys (All-head P (f y) (map f ys) a) (all_of_map P f ys (All-tail P (f y) (map f ys) a))

index_past : {A : Type 0} → (xs : List A) (i : ℕ) (x : A) (k : ℕ) (d : A) → i < k → slice_index_or (set xs i x) k d ≡ slice_index_or xs k d
index_past [] i x k d h = refl
index_past (y ∷ ys) zero x zero d h = absurd (omega (arith, h))
index_past (y ∷ ys) zero x (suc k) d h = refl
index_past (y ∷ ys) (suc i) x zero d h = absurd (omega (arith, h))
index_past (y ∷ ys) (suc i) x (suc k) d h = index_past ys i x k d (omega (arith, h))

set_length : {A : Type 0} → (xs : List A) (i : ℕ) (x : A) → length (set xs i x) ≡ length xs
set_length [] i x = refl
set_length (y ∷ ys) zero x = refl
set_length (y ∷ ys) (suc i) x = ap suc (set_length ys i x)

-- what holds of the rest holds of it behind an entry that is written
pub past_written : {A : Type 0} → (P : A → Type 0) (xs : List A) (i : ℕ) (x : A) → AllWithin P xs i (length xs)
    → AllWithin P (set xs i x) (i + 1) (length (set xs i x))
past_written P xs i x all = λ k d low high.
    let same = set_length xs i x in
    subst P (sym (index_past xs i x k d (omega (arith, low)))) (all k d (omega (arith, low)) (omega (arith, high, same)))

-- the front of a list
pub front : {A : Type 0} → (n : ℕ) (xs ys : List A) → n ≡ length xs → take n (xs ++ ys) ≡ xs
front zero [] ys e = refl
front (suc n) [] ys e = absurd (omega (arith, e))
front zero (x ∷ xs) ys e = absurd (omega (arith, e))
front (suc n) (x ∷ xs) ys e = ap (λ zs. x ∷ zs) (front n xs ys (omega (arith, e)))

-- what holds of all holds of the front of them and more
pub all_taken : {A : Type 0} → (P : A → Type 0) (n : ℕ) (xs ys : List A) → n ≡ length xs → All P xs → All P (take n (xs ++ ys))
all_taken P n xs ys e all = All-same P (take n (xs ++ ys)) xs (front n xs ys e) all

-- the rest of a list whose front is changed
pub untouched : {A : Type 0} → (f : A → A) (i : ℕ) (xs : List A) (d : A) → get_or (map f (take i xs) ++ drop i xs) i d ≡ get_or xs i d
untouched f i [] d = nowhere f i d where
  nowhere : {A : Type 0} → (f : A → A) (i : ℕ) (d : A) → get_or (map f (take i []) ++ drop i []) i d ≡ get_or [] i d
  nowhere f zero d = refl
  nowhere f (suc i) d = refl
untouched f zero (x ∷ xs) d = refl
untouched f (suc i) (x ∷ xs) d = untouched f i xs d

-- what holds of all holds of the entry at a place
pub holds_at : {A : Type 0} → (P : A → Type 0) (xs : List A) (i : ℕ) → All P xs → IfSome (slice_get xs i) P
holds_at P [] i all = tt
holds_at P (x ∷ xs) zero all = All-head P x xs all
holds_at P (x ∷ xs) (suc i) all = holds_at P xs i (All-tail P x xs all)

pub holds_keyed : {A : Type 0} → (P : A → Type 0) (f : A → ℕ) (n : ℕ) (x : Option A) → IfSome x P → IfSome (with_key f n x) P
holds_keyed P f n None h = tt
holds_keyed P f n (Some x) h = by_test (f x == n) (λ own. rw own h) (λ other. rw other tt)

-- what a change keeps holds of all after the change of one
pub all_updated : {A : Type 0} → (P : A → Type 0) (g : A → A) → ((x : A) → P x → P (g x)) → (i : ℕ) (xs : List A) → All P xs
    → All P (update g i xs)
all_updated P g keeps i [] all = All-nil P
all_updated P g keeps zero (x ∷ xs) all = All-cons P (g x) xs (keeps x (All-head P x xs all)) (All-tail P x xs all)
all_updated P g keeps (suc i) (x ∷ xs) all = All-cons P x (update g i xs) (All-head P x xs all)
    (all_updated P g keeps i xs (All-tail P x xs all))

-- what is seen of the entries up to one that is written
pub seen_step : {A B : Type 0} → (f : A → B) (n : ℕ) (xs : List A) (x : A) → n < length xs
    → take (n + 1) (map f (set xs n x)) ≡ take n (map f xs) ++ f x ∷ []
seen_step f n xs x h = let more : n + 1 ≡ suc n = omega arith in ap (λ (k : ℕ). take k (map f (set xs n x))) more ∙ step f n xs x h where
  step : {A B : Type 0} → (f : A → B) (n : ℕ) (xs : List A) (x : A) → n < length xs
      → take (suc n) (map f (set xs n x)) ≡ take n (map f xs) ++ f x ∷ []
  step f n [] x h = absurd (omega (arith, h))
  step f zero (y ∷ ys) x h = refl
  step f (suc n) (y ∷ ys) x h = ap (λ bs. f y ∷ bs) (step f n ys x (omega (arith, h)))
