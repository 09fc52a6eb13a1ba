-- What is put in two pieces is put as one.
use Rattle.std.proofs.Common.{◌≡◌, ℕ, ◌+◌, ◌-◌, ◌/◌, ◌%◌, ◌^◌, ◌<◌, ◌≤◌, List, [], ◌∷◌, ◌++◌, Bool, true, false, length, min, nat_lt}
use Rattle.std.proofs.Common.{if◌then◌else◌, refl, sym, ◌∙◌, ap, append_assoc, append-nil, subst, get_or, take, add-one, inl, inr, arith}
use Rattle.std.proofs.lemmas.Bool.{ltb-false, lt-ltb, le-ltb, cases_lt}
use Rattle.std.proofs.lemmas.List.{length-append}
use Rattle.std.specs.List.{AllByRecursion, flat_map}
use Rattle.std.proofs.Math.Seq.{take-suc}
use Rattle.std.proofs.lemmas.List.Concat.{flat_map-append}
use Rattle.std.specs.Int.{to_be_bytes, w8, w16}
use Rattle.vnfm_base.specs.declared.limits.TheConstants.{MAX_RECORD}
use Rattle.event_codec.specs.Written.{Written, put}

-- more than the room in two pieces is more than the room in one
same_test : (a b : ℕ) → (MAX_RECORD < a → MAX_RECORD < b) → (a ≤ MAX_RECORD → b ≤ MAX_RECORD) → nat_lt MAX_RECORD a ≡ nat_lt MAX_RECORD b
same_test a b over within =
    elim (cases_lt MAX_RECORD a) [
      | inl h ↦ lt-ltb MAX_RECORD a h ∙ sym (lt-ltb MAX_RECORD b (over h))
      | inr h ↦ le-ltb MAX_RECORD a h ∙ sym (le-ltb MAX_RECORD b (within h))
    ]

-- what is kept of two pieces
kept_twice : (past more : Bool) (kept x y : List ℕ) → (more ≡ false → past ≡ false)
    → (if more then [] else (if past then [] else kept ++ x) ++ y) ≡ (if more then [] else kept ++ (x ++ y))
kept_twice past true kept x y h = refl
kept_twice false false kept x y h = append_assoc kept x y
kept_twice true false kept x y h = absurd (let e : true ≡ false = h refl in cc)

pub put_twice : (w : Written) (x y : List ℕ) → put (put w x) y ≡ put w (x ++ y)
unfolding put
put_twice w x y =
    let count : min (min (w.len + length x) (2 ^ 64 - 1) + length y) (2 ^ 64 - 1) ≡ min (w.len + length (x ++ y)) (2 ^ 64 - 1) =
    omega (arith, length-append x y) in
    let test : nat_lt MAX_RECORD (min (w.len + length x) (2 ^ 64 - 1) + length y) ≡ nat_lt MAX_RECORD (w.len + length (x ++ y)) =
    same_test (min (w.len + length x) (2 ^ 64 - 1) + length y) (w.len + length (x ++ y))
    (λ h. omega (arith, length-append x y)) (λ h. omega (arith, length-append x y)) in
    let texts : (if nat_lt MAX_RECORD (min (w.len + length x) (2 ^ 64 - 1) + length y) then []
    else (if nat_lt MAX_RECORD (w.len + length x) then [] else w.kept ++ x) ++ y)
    ≡ (if nat_lt MAX_RECORD (w.len + length (x ++ y)) then [] else w.kept ++ (x ++ y)) =
    ap (λ (b : Bool). if b then [] else (if nat_lt MAX_RECORD (w.len + length x) then [] else w.kept ++ x) ++ y) test
    ∙ kept_twice (nat_lt MAX_RECORD (w.len + length x)) (nat_lt MAX_RECORD (w.len + length (x ++ y))) w.kept x y
    (λ e. le-ltb MAX_RECORD (w.len + length x)
    (let k : w.len + length (x ++ y) ≤ MAX_RECORD = ltb-false MAX_RECORD (w.len + length (x ++ y)) e in
    omega (arith, length-append x y))) in
    λ i. record { len = count i; kept = texts i }

-- a count that is cut to its bytes has the same bytes
pub count_2 : (n : ℕ) → to_be_bytes w16 (n % 65536) ≡ to_be_bytes w16 n
count_2 n = let high : n % 65536 / 256 % 256 ≡ n / 256 % 256 = omega arith in let low : n % 65536 % 256 ≡ n % 256 = omega arith in
    λ i. high i ∷ low i ∷ []

pub count_1 : (n : ℕ) → to_be_bytes w8 (n % 256) ≡ to_be_bytes w8 n
count_1 n = let low : n % 256 % 256 ≡ n % 256 = omega arith in λ i. low i ∷ []

-- what holds of some entries and of one more
pub AllByRecursion-push : {A : Type 0} (P : A → Type 0) (xs : List A) (x : A) → AllByRecursion P xs → P x → AllByRecursion P (xs ++ x ∷ [])
AllByRecursion-push P [] x h p = (p, tt)
AllByRecursion-push P (y ∷ ys) x h p = (h.0, AllByRecursion-push P ys x h.1 p)

-- the front with one entry more
take-push : {A : Type 0} (items : List A) (i : ℕ) (x : A) → i < length items → x ≡ get_or items i x
    → take (i + 1) items ≡ take i items ++ x ∷ []
take-push items i x within is = ap (λ k. take k items) (add-one i) ∙ take-suc items i x within ∙ ap (λ y. take i items ++ y ∷ []) (sym is)

-- one turn of the loop
pub put-more : {A : Type 0} (spell : A → List ℕ) (w out new : Written) (head : List ℕ) (items : List A) (i : ℕ) (x : A)
    → i < length items → x ≡ get_or items i x → new ≡ put out (spell x) → out ≡ put w (head ++ flat_map spell (take i items))
    → new ≡ put w (head ++ flat_map spell (take (i + 1) items))
put-more spell w out new head items i x within is written before =
    let front = flat_map spell (take i items) in
    written ∙ ap (λ o. put o (spell x)) before ∙ put_twice w (head ++ front) (spell x)
    ∙ ap (put w) (append_assoc head front (spell x)
    ∙ ap (λ t. head ++ t) (ap (λ t. front ++ t) (sym (append-nil (spell x))) ∙ sym (flat_map-append spell (take i items) (x ∷ []))
    ∙ ap (flat_map spell) (sym (take-push items i x within is))))

pub typed-more : {A : Type 0} (P : A → Type 0) (items : List A) (i : ℕ) (x : A)
    → i < length items → x ≡ get_or items i x → P x → AllByRecursion P (take i items) → AllByRecursion P (take (i + 1) items)
typed-more {A} P items i x within is p before =
    let Q : List A → Type 0 = AllByRecursion P in subst Q (sym (take-push items i x within is))
    (AllByRecursion-push P (take i items) x before p)

-- a piece that is put before what is put behind it
pub put_before : (out mid new : Written) (x rest : List ℕ) → mid ≡ put out x → new ≡ put mid rest → new ≡ put out (x ++ rest)
put_before out mid new x rest first behind = behind ∙ ap (λ o. put o rest) first ∙ put_twice out x rest
