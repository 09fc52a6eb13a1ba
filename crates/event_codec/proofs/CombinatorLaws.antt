-- A reader takes just the spelling of what it gives, and finds a value again in front of any bytes. Each combinator
-- keeps these two laws.
use Rattle.std.proofs.Common.{◌≡◌, ℕ, zero, suc, ◌+◌, ◌^◌, ◌<◌, ◌==◌, List, [], ◌∷◌, ◌++◌, Option, Some, None, Bool, true, false, length}
use Rattle.std.proofs.Common.{take, drop, get_or, nat_lt, refl, sym, ◌∙◌, ap, subst, if◌then◌else◌, append_assoc, inl, inr, arith}
use Rattle.std.specs.Int.{Width, byte_len, from_be_bytes}
use Rattle.std.specs.List.{AllByRecursion, flat_map}
use Rattle.std.proofs.lemmas.List.{get_or-append-add, take-append-drop, length-take-le, take_at, drop_at, get_or_past, get_or_append_left}
use Rattle.std.proofs.lemmas.List.{length-append}
use Rattle.std.proofs.lemmas.Bool.{eqb-true, ltb-false, le-ltb, cases_lt}
use Rattle.event_codec.specs.Combinators.{Reader, bind, pair_by, pair, shape, only, cases, sum, word, entries, piece, big_endian, u8_at}

-- each value is one of a byte
abbrev pub IsBytes : List ℕ → Type 0
IsBytes bytes = (i : ℕ) → get_or bytes i 0 < 256

pub IsBytes-rest : (front rest : List ℕ) → IsBytes (front ++ rest) → IsBytes rest
IsBytes-rest front rest h i = let P : ℕ → Type 0 = λ n. n < 256 in subst P (get_or-append-add front rest i 0) (h (length front + i))

-- what a reader takes is the spelling of a value that has one
abbrev pub Takes : {A : Type 0} → (A → List ℕ) → (A → Type 0) → Reader A → Type 0
Takes {A} spell Fits at = (bytes : List ℕ) (x : A × List ℕ) → IsBytes bytes → at bytes ≡ Some x → (bytes ≡ spell x.0 ++ x.1) × Fits x.0

-- and a value that has one is found in front of any bytes
pub record Reads {A : Type 0} (spell : A → List ℕ) (Fits : A → Type 0) (at : Reader A) : Type 0 where
  pub takes : Takes spell Fits at
  pub again : (x : A) (rest : List ℕ) → Fits x → at (spell x ++ rest) ≡ Some (x, rest)

-- what stands behind `bind`
pub bind-some : {A B : Type 0} (o : Option A) (f : A → Option B) (y : B) → bind o f ≡ Some y → (x : A) × (o ≡ Some x) × (f x ≡ Some y)
bind-some None f y h = absurd cc
bind-some (Some x) f y h = (x, refl, h)

-- a chosen value passed the test
pub chosen : {A : Type 0} (b : Bool) (x y : A) → (if b then Some x else None) ≡ Some y → (b ≡ true) × (x ≡ y)
chosen true x y h = (refl, cc)
chosen false x y h = absurd cc

pub reads_pair_by : {A B : Type 0} (a_spell : A → List ℕ) (AFits : A → Type 0) (a : Reader A)
    (b_spell : B → List ℕ) (BFits : A → B → Type 0) (b : A → Reader B)
    → Reads a_spell AFits a → ((x : A) → Reads b_spell (BFits x) (b x))
    → Reads (λ (p : A × B). a_spell p.0 ++ b_spell p.1) (λ (p : A × B). AFits p.0 × BFits p.0 p.1) (pair_by a b)
reads_pair_by {A} {B} a_spell AFits a b_spell BFits b ra rb = record {
  takes = λ bytes x small h.
      let first = bind-some (a bytes) (λ (u : A × List ℕ). bind (b u.0 u.1) (λ (v : B × List ℕ). Some ((u.0, v.0), v.1))) x h in
      let u : A × List ℕ = first.0 in
      let second = bind-some (b u.0 u.1) (λ (v : B × List ℕ). Some ((u.0, v.0), v.1)) x first.2 in
      let v : B × List ℕ = second.0 in
      let front = ra.takes bytes u small first.1 in
      let behind = (rb u.0).takes u.1 v (IsBytes-rest (a_spell u.0) u.1 (let P : List ℕ → Type 0 = IsBytes in subst P front.0 small))
      second.1 in
      let same : ((u.0, v.0), v.1) ≡ x = (let e : Some ((u.0, v.0), v.1) ≡ Some x = second.2 in cc) in
      let P : (A × B) × List ℕ → Type 0 = λ y. (bytes ≡ (a_spell y.0.0 ++ b_spell y.0.1) ++ y.1) × (AFits y.0.0 × BFits y.0.0 y.0.1) in
      subst P same (
        front.0 ∙ ap (λ t. a_spell u.0 ++ t) behind.0 ∙ sym (append_assoc (a_spell u.0) (b_spell v.0) v.1),
        (front.1, behind.1),
      );
  again = λ p rest fits.
      let e : a (a_spell p.0 ++ (b_spell p.1 ++ rest)) ≡ Some (p.0, b_spell p.1 ++ rest) = ra.again p.0 (b_spell p.1 ++ rest) fits.0 in
      let f : b p.0 (b_spell p.1 ++ rest) ≡ Some (p.1, rest) = (rb p.0).again p.1 rest fits.1 in
      rw (append_assoc (a_spell p.0) (b_spell p.1) rest, e, f) refl;
}

pub reads_pair : {A B : Type 0} (a_spell : A → List ℕ) (AFits : A → Type 0) (a : Reader A)
    (b_spell : B → List ℕ) (BFits : B → Type 0) (b : Reader B)
    → Reads a_spell AFits a → Reads b_spell BFits b
    → Reads (λ (p : A × B). a_spell p.0 ++ b_spell p.1) (λ (p : A × B). AFits p.0 × BFits p.1) (pair a b)
reads_pair a_spell AFits a b_spell BFits b ra rb = reads_pair_by a_spell AFits a b_spell (λ x. BFits) (λ x. b) ra (λ x. rb)

-- what is made of a value is spelled as the value
pub shape_takes : {A B : Type 0} (f : B → A) (spell : A → List ℕ) (Fits : A → Type 0) (b_spell : B → List ℕ) (BFits : B → Type 0)
    (b : Reader B)
    → ((x : B) → BFits x → spell (f x) ≡ b_spell x) → ((x : B) → BFits x → Fits (f x)) → Takes b_spell BFits b
    → Takes spell Fits (shape f b)
shape_takes {A} {B} f spell Fits b_spell BFits b same down takes bytes y small h =
    let first = bind-some (b bytes) (λ (u : B × List ℕ). Some (f u.0, u.1)) y h in
    let u : B × List ℕ = first.0 in
    let got = takes bytes u small first.1 in
    let is : (f u.0, u.1) ≡ y = (let e : Some (f u.0, u.1) ≡ Some y = first.2 in cc) in
    let P : A × List ℕ → Type 0 = λ z. (bytes ≡ spell z.0 ++ z.1) × Fits z.0 in
    subst P is (got.0 ∙ ap (λ t. t ++ u.1) (sym (same u.0 got.1)), down u.0 got.1)

pub shape_again : {A B : Type 0} (f : B → A) (b_spell : B → List ℕ) (BFits : B → Type 0) (b : Reader B)
    → Reads b_spell BFits b → (x : B) (rest : List ℕ) → BFits x → shape f b (b_spell x ++ rest) ≡ Some (f x, rest)
shape_again f b_spell BFits b rb x rest fits = rw (rb.again x rest fits) refl

pub reads_shape : {A B : Type 0} (f : B → A) (back : A → B) (spell : A → List ℕ) (Fits : A → Type 0)
    (b_spell : B → List ℕ) (BFits : B → Type 0) (b : Reader B)
    → ((x : A) → Fits x → f (back x) ≡ x) → ((x : B) → BFits x → spell (f x) ≡ b_spell x)
    → ((x : B) → BFits x → Fits (f x)) → ((x : A) → Fits x → BFits (back x))
    → Reads b_spell BFits b → Reads spell Fits (shape f b)
reads_shape {A} {B} f back spell Fits b_spell BFits b round same down up rb = record {
  takes = shape_takes f spell Fits b_spell BFits b same down rb.takes;
  again = λ x rest fits.
      let e : spell x ≡ b_spell (back x) = ap spell (sym (round x fits)) ∙ same (back x) (up x fits) in
      ap (λ t. shape f b (t ++ rest)) e ∙ (shape_again f b_spell BFits b rb (back x) rest (up x fits)
      ∙ ap (λ z. Some (z, rest)) (round x fits));
}

pub reads_only : {A : Type 0} (test : A → Bool) (spell : A → List ℕ) (Fits : A → Type 0) (a : Reader A)
    → Reads spell Fits a → Reads spell (λ x. Fits x × (test x ≡ true)) (only test a)
reads_only {A} test spell Fits a ra = record {
  takes = λ bytes y small h.
      let first = bind-some (a bytes) (λ (u : A × List ℕ). if test u.0 then Some u else None) y h in
      let u : A × List ℕ = first.0 in
      let passed = chosen (test u.0) u y first.2 in
      let got = ra.takes bytes u small first.1 in
      let P : A × List ℕ → Type 0 = λ z. (bytes ≡ spell z.0 ++ z.1) × (Fits z.0 × (test z.0 ≡ true)) in
      subst P passed.1 (got.0, (got.1, passed.0));
  again = λ x rest fits. rw (ra.again x rest fits.0, fits.1) refl;
}

-- the same values, said otherwise
pub reads_fits : {A : Type 0} (spell : A → List ℕ) (F G : A → Type 0) (a : Reader A)
    → ((x : A) → F x → G x) → ((x : A) → G x → F x) → Reads spell F a → Reads spell G a
reads_fits spell F G a to from r = record {
  takes = λ bytes x small h. let got = r.takes bytes x small h in (got.0, to x.0 got.1);
  again = λ x rest fits. r.again x rest (from x fits);
}

-- what is read behind a number
abbrev pub Case : {A : Type 0} → (A → List ℕ) → (A → Type 0) → ℕ × Reader A → Type 0
Case {A} spell Fits c = (bytes : List ℕ) (x : A × List ℕ) → IsBytes bytes → c.1 bytes ≡ Some x → (c.0 ∷ bytes ≡ spell x.0 ++ x.1) × Fits x.0

abbrev pub AllCases : {A : Type 0} → (A → List ℕ) → (A → Type 0) → List (ℕ × Reader A) → Type 0
AllCases spell Fits [] = Unit {0}
AllCases spell Fits (c ∷ cs) = Case spell Fits c × AllCases spell Fits cs

pub cases-takes : {A : Type 0} (spell : A → List ℕ) (Fits : A → Type 0) (cs : List (ℕ × Reader A)) → AllCases spell Fits cs
    → (n : ℕ) (bytes : List ℕ) (x : A × List ℕ) → IsBytes bytes → cases cs n bytes ≡ Some x → (n ∷ bytes ≡ spell x.0 ++ x.1) × Fits x.0
cases-takes spell Fits [] all n bytes x small h = absurd cc
cases-takes {A} spell Fits (c ∷ cs) all n bytes x small h =
    pick (n == c.0) refl (λ k. cases-takes spell Fits cs all.1 n bytes x small k) where
      pick : (b : Bool) → (n == c.0) ≡ b → (cases cs n bytes ≡ Some x → (n ∷ bytes ≡ spell x.0 ++ x.1) × Fits x.0)
          → (n ∷ bytes ≡ spell x.0 ++ x.1) × Fits x.0
      pick true is later =
          let k : c.1 bytes ≡ Some x = (rw is at h) in
          let got = all.0 bytes x small k in
          (ap (λ m. m ∷ bytes) (eqb-true n c.0 is) ∙ got.0, got.1)
      pick false is later = later (rw is at h)

pub reads_sum : {A : Type 0} (spell : A → List ℕ) (Fits : A → Type 0) (cs : List (ℕ × Reader A)) → AllCases spell Fits cs
    → ((x : A) (rest : List ℕ) → Fits x → sum cs (spell x ++ rest) ≡ Some (x, rest)) → Reads spell Fits (sum cs)
reads_sum {A} spell Fits cs all again = record { takes = takes; again = again } where
  takes : Takes spell Fits (sum cs)
  takes [] x small h = absurd cc
  takes (n ∷ bytes) x small h = cases-takes spell Fits cs all n bytes x (IsBytes-rest (n ∷ []) bytes small) h

pub case_of : {A B : Type 0} (n : ℕ) (f : B → A) (spell : A → List ℕ) (Fits : A → Type 0) (b_spell : B → List ℕ) (BFits : B → Type 0)
    (b : Reader B)
    → ((x : B) → BFits x → spell (f x) ≡ n ∷ b_spell x) → ((x : B) → BFits x → Fits (f x)) → Reads b_spell BFits b
    → Case spell Fits (n, shape f b)
case_of {A} {B} n f spell Fits b_spell BFits b same down rb bytes y small h =
    let first = bind-some (b bytes) (λ (u : B × List ℕ). Some (f u.0, u.1)) y h in
    let u : B × List ℕ = first.0 in
    let got = rb.takes bytes u small first.1 in
    let is : (f u.0, u.1) ≡ y = (let e : Some (f u.0, u.1) ≡ Some y = first.2 in cc) in
    let P : A × List ℕ → Type 0 = λ z. (n ∷ bytes ≡ spell z.0 ++ z.1) × Fits z.0 in
    subst P is (ap (λ t. n ∷ t) got.0 ∙ ap (λ t. t ++ u.1) (sym (same u.0 got.1)), down u.0 got.1)

pub case_word : {A : Type 0} (n : ℕ) (x : A) (spell : A → List ℕ) (Fits : A → Type 0) → spell x ≡ n ∷ [] → Fits x
    → Case spell Fits (n, word x)
case_word {A} n x spell Fits same fits bytes y small h =
    let is : (x, bytes) ≡ y = (let e : Some (x, bytes) ≡ Some y = h in cc) in
    let P : A × List ℕ → Type 0 = λ z. (n ∷ bytes ≡ spell z.0 ++ z.1) × Fits z.0 in
    subst P is (ap (λ t. t ++ bytes) (sym same), fits)

-- so many entries
pub reads_entries : {A : Type 0} (spell : A → List ℕ) (Fits : A → Type 0) (a : Reader A) → Reads spell Fits a
    → (n : ℕ) → Reads (flat_map spell) (λ (xs : List A). (length xs ≡ n) × AllByRecursion Fits xs) (entries a n)
reads_entries {A} spell Fits a ra n = record { takes = takes n; again = again n } where
  takes : (n : ℕ) → Takes (flat_map spell) (λ (xs : List A). (length xs ≡ n) × AllByRecursion Fits xs) (entries a n)
  takes zero bytes x small h =
      let is : ([], bytes) ≡ x = (let e : Some ([], bytes) ≡ Some x = h in cc) in
      let P : List A × List ℕ → Type 0 = λ z. (bytes ≡ flat_map spell z.0 ++ z.1) × ((length z.0 ≡ 0) × AllByRecursion Fits z.0) in
      subst P is (refl, (refl, tt))
  takes (suc n) bytes x small h =
      let first = bind-some (a bytes) (λ (u : A × List ℕ). bind (entries a n u.1) (λ (v : List A × List ℕ). Some (u.0 ∷ v.0, v.1))) x h in
      let u : A × List ℕ = first.0 in
      let second = bind-some (entries a n u.1) (λ (v : List A × List ℕ). Some (u.0 ∷ v.0, v.1)) x first.2 in
      let v : List A × List ℕ = second.0 in
      let front = ra.takes bytes u small first.1 in
      let behind = takes n u.1 v (IsBytes-rest (spell u.0) u.1 (let P : List ℕ → Type 0 = IsBytes in subst P front.0 small)) second.1 in
      let is : (u.0 ∷ v.0, v.1) ≡ x = (let e : Some (u.0 ∷ v.0, v.1) ≡ Some x = second.2 in cc) in
      let P : List A × List ℕ → Type 0 = λ z. (bytes ≡ flat_map spell z.0 ++ z.1) × ((length z.0 ≡ suc n) × AllByRecursion Fits z.0) in
      subst P is (
        front.0 ∙ ap (λ t. spell u.0 ++ t) behind.0 ∙ sym (append_assoc (spell u.0) (flat_map spell v.0) v.1),
        (ap suc behind.1.0, (front.1, behind.1.1)),
      )

  again : (n : ℕ) (xs : List A) (rest : List ℕ) → (length xs ≡ n) × AllByRecursion Fits xs
      → entries a n (flat_map spell xs ++ rest) ≡ Some (xs, rest)
  again zero [] rest fits = refl
  again zero (x ∷ xs) rest fits = absurd (let e : suc (length xs) ≡ 0 = fits.0 in omega arith)
  again (suc n) [] rest fits = absurd (let e : 0 ≡ suc n = fits.0 in omega arith)
  again (suc n) (x ∷ xs) rest fits =
      let e = ra.again x (flat_map spell xs ++ rest) fits.1.0 in
      let len : length xs ≡ n = (let k : suc (length xs) ≡ suc n = fits.0 in omega arith) in
      let f = again n xs rest (len, fits.1.1) in
      rw (append_assoc (spell x) (flat_map spell xs) rest, e, f) refl

-- one byte
pub reads_u8 : Reads (λ n. n ∷ []) (λ n. n < 2 ^ 8) u8_at
reads_u8 = record { takes = takes; again = λ n rest fits. refl } where
  takes : Takes (λ n. n ∷ []) (λ n. n < 2 ^ 8) u8_at
  takes [] x small h = absurd cc
  takes (n ∷ bytes) x small h =
      let is : (n, bytes) ≡ x = (let e : Some (n, bytes) ≡ Some x = h in cc) in
      let P : ℕ × List ℕ → Type 0 = λ z. (n ∷ bytes ≡ (z.0 ∷ []) ++ z.1) × (z.0 < 2 ^ 8) in
      subst P is (refl, small 0)

-- so many bytes
pub reads_piece : (n : ℕ) → Reads (λ text. text) (λ text. length text ≡ n) (piece n)
reads_piece n = record { takes = takes; again = again } where
  takes : Takes (λ text. text) (λ text. length text ≡ n) (piece n)
  takes bytes x small h = pick (nat_lt (length bytes) n) refl where
    pick : (b : Bool) → nat_lt (length bytes) n ≡ b → (bytes ≡ x.0 ++ x.1) × (length x.0 ≡ n)
    pick true is = absurd (let e : None ≡ Some x = rw is at h in cc)
    pick false is =
        let e : Some (take n bytes, drop n bytes) ≡ Some x = rw is at h in
        let same : (take n bytes, drop n bytes) ≡ x = cc in
        let P : List ℕ × List ℕ → Type 0 = λ z. (bytes ≡ z.0 ++ z.1) × (length z.0 ≡ n) in
        subst P same (sym (take-append-drop n bytes), length-take-le n bytes (ltb-false (length bytes) n is))

  again : (text rest : List ℕ) → length text ≡ n → piece n (text ++ rest) ≡ Some (text, rest)
  again text rest fits =
      let long : nat_lt (length (text ++ rest)) n ≡ false = le-ltb (length (text ++ rest)) n
      (omega (arith, length-append text rest, fits)) in
      rw (long, take_at text rest n fits, drop_at text rest n fits) refl

pub IsBytes-front : (front rest : List ℕ) → IsBytes (front ++ rest) → IsBytes front
IsBytes-front front rest h i =
    let P : ℕ → Type 0 = λ n. n < 256 in
    elim (cases_lt i (length front)) [
      | inl within ↦ subst P (get_or_append_left front rest 0 i within) (h i)
      | inr past ↦ subst P (sym (get_or_past front i 0 past)) (omega arith)
    ]

-- a number of more bytes
pub reads_big_endian : (w : Width) (spell : ℕ → List ℕ) (most : ℕ)
    → ((n : ℕ) → length (spell n) ≡ byte_len w)
    → ((bytes : List ℕ) → length bytes ≡ byte_len w → IsBytes bytes
    → (spell (from_be_bytes w bytes) ≡ bytes) × (from_be_bytes w bytes < most))
    → ((n : ℕ) → n < most → from_be_bytes w (spell n) ≡ n)
    → Reads spell (λ n. n < most) (big_endian w)
reads_big_endian w spell most len back round = record {
  takes = λ bytes x small h.
      let first = bind-some (piece (byte_len w) bytes) (λ (u : List ℕ × List ℕ). Some (from_be_bytes w u.0, u.1)) x h in
      let u : List ℕ × List ℕ = first.0 in
      let got = (reads_piece (byte_len w)).takes bytes u small first.1 in
      let is : (from_be_bytes w u.0, u.1) ≡ x = (let e : Some (from_be_bytes w u.0, u.1) ≡ Some x = first.2 in cc) in
      let few : IsBytes u.0 = IsBytes-front u.0 u.1 (let P : List ℕ → Type 0 = IsBytes in subst P got.0 small) in
      let b = back u.0 got.1 few in
      let P : ℕ × List ℕ → Type 0 = λ z. (bytes ≡ spell z.0 ++ z.1) × (z.0 < most) in
      subst P is (got.0 ∙ ap (λ t. t ++ u.1) (sym b.0), b.1);
  again = λ n rest fits.
      let e = (reads_piece (byte_len w)).again (spell n) rest (len n) in
      rw e (ap (λ m. Some (m, rest)) (round n fits));
}

-- the same laws, with what the readers say of themselves left out

pub pair_of : {A B : Type 0} {a_spell : A → List ℕ} {AFits : A → Type 0} {a : Reader A} {b_spell : B → List ℕ} {BFits : B → Type 0}
    {b : Reader B}
    → Reads a_spell AFits a → Reads b_spell BFits b
    → Reads (λ (p : A × B). a_spell p.0 ++ b_spell p.1) (λ (p : A × B). AFits p.0 × BFits p.1) (pair a b)
pair_of {A} {B} {a_spell} {AFits} {a} {b_spell} {BFits} {b} ra rb = reads_pair a_spell AFits a b_spell BFits b ra rb

pub shape_of : {A B : Type 0} {b_spell : B → List ℕ} {BFits : B → Type 0} {b : Reader B}
    → Reads b_spell BFits b → (f : B → A) (back : A → B) (spell : A → List ℕ) (Fits : A → Type 0)
    → ((x : A) → Fits x → f (back x) ≡ x) → ((x : B) → BFits x → spell (f x) ≡ b_spell x)
    → ((x : B) → BFits x → Fits (f x)) → ((x : A) → Fits x → BFits (back x))
    → Reads spell Fits (shape f b)
shape_of {A} {B} {b_spell} {BFits} {b} rb f back spell Fits round same down up =
    reads_shape f back spell Fits b_spell BFits b round same down up rb

pub case_by : {A B : Type 0} {b_spell : B → List ℕ} {BFits : B → Type 0} {b : Reader B}
    → Reads b_spell BFits b → (n : ℕ) (f : B → A) (spell : A → List ℕ) (Fits : A → Type 0)
    → ((x : B) → BFits x → spell (f x) ≡ n ∷ b_spell x) → ((x : B) → BFits x → Fits (f x)) → Case spell Fits (n, shape f b)
case_by {A} {B} {b_spell} {BFits} {b} rb n f spell Fits same down = case_of n f spell Fits b_spell BFits b same down rb

pub again_of : {A B : Type 0} {b_spell : B → List ℕ} {BFits : B → Type 0} {b : Reader B}
    → Reads b_spell BFits b → (f : B → A) (x : B) (rest : List ℕ) → BFits x → shape f b (b_spell x ++ rest) ≡ Some (f x, rest)
again_of {A} {B} {b_spell} {BFits} {b} rb f x rest fits = shape_again f b_spell BFits b rb x rest fits
