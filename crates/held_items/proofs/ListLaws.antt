-- Lists that a question makes of definitions: one definition's answer changes, more definitions are asked.
use Rattle.std.proofs.Common.{◌≡◌, ◌≤◌, ◌+◌, ◌++◌, ◌∙◌, ℕ, List, [], ◌∷◌, zero, suc, Bool, true, false, Option, None, Some, inl, inr, refl}
use Rattle.std.proofs.Common.{ap, sym, subst, filter, filter_map, flat_map, arith}
use Rattle.std.specs.List.{cons_option, range_with_len}
use Rattle.std.specs.Prelude.{option_map}
use Rattle.lcm_events.specs.Same.{same_def}
use Rattle.lcm_events.proofs.SameLaws.{same_def-refl, same_def-true}
use Rattle.lcm_events.specs.declared.changes.Def.{Def}
use Rattle.lcm_events.specs.declared.held.Held.{Held}
use Rattle.lcm_model.specs.Descriptors.{is_def_before}
use Rattle.lcm_model.specs.Words.{IsIn}
use Rattle.lcm_laws.proofs.HoldingLaws.{of_filter_map}
use Rattle.lcm_laws.proofs.Lists.{and_true, by_test}
use Rattle.lcm_laws.proofs.Members.{Rises}
use Rattle.held_items.specs.Items.{AreInOrder, item_of, with_item, with_power, without}
use Rattle.held_items.proofs.Orders.{DefBefore, before_differs, differs_back, not_before, not_before_itself}

-- each answer is of the definition that was asked for
abbrev pub IsOwn : (Def → Option Held) → Type 0
IsOwn f = (z : Def) (y : Held) → f z ≡ Some y → y.def ≡ z

-- another question gives the same answers, but at this definition
abbrev pub AgreesOff : Def → (Def → Option Held) → (Def → Option Held) → Type 0
AgreesOff x f g = (z : Def) → same_def z x ≡ false → g z ≡ f z

-- the same answers make the same list
pub filter_map-same : {A B : Type 0} → (f g : A → Option B) (xs : List A) → ((x : A) → IsIn x xs → g x ≡ f x)
    → filter_map g xs ≡ filter_map f xs
filter_map-same f g [] e = refl
filter_map-same f g (x ∷ xs) e =
    ap (λ o. cons_option o (filter_map g xs)) (e x (inl refl)) ∙ ap (λ ys. cons_option (f x) ys)
    (filter_map-same f g xs (λ y h. e y (inr h)))

-- no answers make no list
pub filter_map-none : {A B : Type 0} → (f : A → Option B) (xs : List A) → ((x : A) → IsIn x xs → f x ≡ None) → filter_map f xs ≡ []
filter_map-none f [] e = refl
filter_map-none f (x ∷ xs) e =
    ap (λ o. cons_option o (filter_map f xs)) (e x (inl refl)) ∙ filter_map-none f xs (λ y h. e y (inr h))

cons_option-append : {A : Type 0} → (o : Option A) (xs ys : List A) → cons_option o xs ++ ys ≡ cons_option o (xs ++ ys)
cons_option-append None xs ys = refl
cons_option-append (Some x) xs ys = refl

pub filter_map-both : {A B : Type 0} → (f : A → Option B) (xs ys : List A) → filter_map f (xs ++ ys) ≡ filter_map f xs ++ filter_map f ys
filter_map-both f [] ys = refl
filter_map-both f (x ∷ xs) ys =
    ap (λ zs. cons_option (f x) zs) (filter_map-both f xs ys) ∙ sym (cons_option-append (f x) (filter_map f xs) (filter_map f ys))

pub flat-same : {A B C : Type 0} → (f : B → Option C) (g h : A → List B) (xs : List A)
    → ((x : A) → IsIn x xs → filter_map f (g x) ≡ filter_map f (h x))
    → filter_map f (flat_map g xs) ≡ filter_map f (flat_map h xs)
flat-same f g h [] e = refl
flat-same f g h (x ∷ xs) e =
    filter_map-both f (g x) (flat_map g xs)
    ∙ (ap (λ ys. ys ++ filter_map f (flat_map g xs)) (e x (inl refl))
    ∙ (ap (λ ys. filter_map f (h x) ++ ys) (flat-same f g h xs (λ y within. e y (inr within)))
    ∙ sym (filter_map-both f (h x) (flat_map h xs))))

flat-none : {B C : Type 0} → (f : B → Option C) (g : ℕ → List B) (a n : ℕ) → ((s : ℕ) → a ≤ s → filter_map f (g s) ≡ [])
    → filter_map f (flat_map g (range_with_len a n)) ≡ []
flat-none f g a zero e = refl
flat-none f g a (suc n) e =
    filter_map-both f (g a) (flat_map g (range_with_len (a + 1) n))
    ∙ (ap (λ ys. ys ++ filter_map f (flat_map g (range_with_len (a + 1) n))) (e a (omega arith))
    ∙ flat-none f g (a + 1) n (λ s h. e s (omega (arith, h))))

-- numbers whose definitions give no answer make the list no longer
pub flat-longer : {B C : Type 0} → (f : B → Option C) (g : ℕ → List B) (a n k : ℕ) → n ≤ k → ((s : ℕ) → a + n ≤ s → filter_map f (g s) ≡ [])
    → filter_map f (flat_map g (range_with_len a k)) ≡ filter_map f (flat_map g (range_with_len a n))
flat-longer f g a zero k h e = flat-none f g a k (λ s low. e s (omega (arith, low)))
flat-longer f g a (suc n) zero h e = absurd (omega (arith, h))
flat-longer f g a (suc n) (suc k) h e =
    filter_map-both f (g a) (flat_map g (range_with_len (a + 1) k))
    ∙ (ap (λ ys. filter_map f (g a) ++ ys) (flat-longer f g (a + 1) n k (omega (arith, h)) (λ s low. e s (omega (arith, low))))
    ∙ sym (filter_map-both f (g a) (flat_map g (range_with_len (a + 1) n))))

filter-all : {A : Type 0} → (p : A → Bool) (xs : List A) → ((x : A) → IsIn x xs → p x ≡ true) → filter p xs ≡ xs
filter-all p [] e = refl
filter-all p (x ∷ xs) e = let passes : p x ≡ true = e x (inl refl) in rw passes (ap (λ ys. x ∷ ys) (filter-all p xs (λ y h. e y (inr h))))

filter-none : {A : Type 0} → (p : A → Bool) (xs : List A) → ((x : A) → IsIn x xs → p x ≡ false) → filter p xs ≡ []
filter-none p [] e = refl
filter-none p (x ∷ xs) e = let fails : p x ≡ false = e x (inl refl) in rw fails (filter-none p xs (λ y h. e y (inr h)))

-- an item goes behind one before it
pub put-behind : (y w : Held) (ys : List Held) → DefBefore w.def y.def → with_item y (w ∷ ys) ≡ w ∷ with_item y ys
put-behind y w ys before = let back = not_before w.def y.def before in rw (before, back) refl

-- an item takes the place of one of its definition
pub put-over : (y w : Held) (ys : List Held) → w.def ≡ y.def → with_item y (w ∷ ys) ≡ with_item y ys
put-over y w ys same =
    let here : is_def_before w.def y.def ≡ false = subst (λ (z : Def). is_def_before z y.def ≡ false) (sym same)
    (not_before_itself y.def) in
    let back : is_def_before y.def w.def ≡ false = subst (λ (z : Def). is_def_before y.def z ≡ false) (sym same)
    (not_before_itself y.def) in
    rw (here, back) refl

-- an item goes in front of those behind it
pub put-front : (y : Held) (ys : List Held) → ((w : Held) → IsIn w ys → DefBefore y.def w.def) → with_item y ys ≡ y ∷ ys
put-front y ys after =
    ap (λ zs. zs ++ y ∷ filter (λ z. is_def_before y.def z.def) ys)
    (filter-none (λ z. is_def_before z.def y.def) ys (λ w h. not_before y.def w.def (after w h)))
    ∙ ap (λ zs. y ∷ zs) (filter-all (λ z. is_def_before y.def z.def) ys after)

-- the items that behind definitions make are behind
behind : (f : Def → Option Held) (x : Def) (ds : List Def) → IsOwn f → ((z : Def) → IsIn z ds → DefBefore x z) → (w : Held)
    → IsIn w (filter_map f ds) → DefBefore x w.def
behind f x ds own after w h =
    let from = of_filter_map f w ds h in subst (λ (z : Def). DefBefore x z) (sym (own from.0 w from.2)) (after from.0 from.1)

put-first : (y : Held) (o : Option Held) (ys : List Held) → ((w : Held) → o ≡ Some w → w.def ≡ y.def)
    → ((w : Held) → IsIn w ys → DefBefore y.def w.def)
    → with_item y (cons_option o ys) ≡ y ∷ ys
put-first y None ys own after = put-front y ys after
put-first y (Some w) ys own after = put-over y w ys (own w refl) ∙ put-front y ys after

put-later : (y : Held) (o : Option Held) (ys : List Held) → ((w : Held) → o ≡ Some w → DefBefore w.def y.def)
    → with_item y (cons_option o ys) ≡ cons_option o (with_item y ys)
put-later y None ys before = refl
put-later y (Some w) ys before = put-behind y w ys (before w refl)

-- where one definition's answer changes to an item, that item is put in its place
pub one_put : (f g : Def → Option Held) (x : Def) (y : Held) (ds : List Def) → Rises DefBefore ds → IsIn x ds → IsOwn f → AgreesOff x f g
    → g x ≡ Some y → y.def ≡ x
    → filter_map g ds ≡ with_item y (filter_map f ds)
one_put f g x y [] rises among own agree now def = absurd among
one_put f g x y (z ∷ ds) rises (inl is) own agree now def =
    let here : y.def ≡ z = def ∙ sym is in
    let now_z : g z ≡ Some y = subst (λ (w : Def). g w ≡ Some y) (sym is) now in
    let rest : filter_map g ds ≡ filter_map f ds =
    filter_map-same f g ds (λ w h. agree w (differs_back x w (before_differs x w (subst (λ (v : Def). DefBefore v w) is (rises.0 w h))))) in
    let after : (w : Held) → IsIn w (filter_map f ds) → DefBefore y.def w.def =
    λ w h. subst (λ (v : Def). DefBefore v w.def) (sym here) (behind f z ds own rises.0 w h) in
    ap (λ o. cons_option o (filter_map g ds)) now_z
    ∙ (ap (λ ys. y ∷ ys) rest ∙ sym (put-first y (f z) (filter_map f ds) (λ w e. own z w e ∙ sym here) after))
one_put f g x y (z ∷ ds) rises (inr among) own agree now def =
    let before : DefBefore z x = rises.0 x among in
    let same : g z ≡ f z = agree z (before_differs z x before) in
    let front : (w : Held) → f z ≡ Some w → DefBefore w.def y.def =
    λ w e. subst (λ (v : Def). DefBefore w.def v) (sym def) (subst (λ (v : Def). DefBefore v x) (sym (own z w e)) before) in
    ap (λ o. cons_option o (filter_map g ds)) same
    ∙ (ap (λ ys. cons_option (f z) ys) (one_put f g x y ds rises.1 among own agree now def)
    ∙ sym (put-later y (f z) (filter_map f ds) front))

kept_out : (x : Def) (o : Option Held) (ys : List Held) → ((w : Held) → o ≡ Some w → same_def w.def x ≡ false)
    → without x (cons_option o ys) ≡ cons_option o (without x ys)
kept_out x None ys e = refl
kept_out x (Some w) ys e = let differ = e w refl in rw differ refl

left_out : (x : Def) (o : Option Held) (ys : List Held) → ((w : Held) → o ≡ Some w → w.def ≡ x)
    → without x (cons_option o ys) ≡ without x ys
left_out x None ys e = refl
left_out x (Some w) ys e =
    let same : same_def w.def x ≡ true = subst (λ (z : Def). same_def w.def z ≡ true) (e w refl) (same_def-refl w.def) in rw same refl

-- where one definition's answer goes, its item goes
pub one_out : (f g : Def → Option Held) (x : Def) (ds : List Def) → IsOwn f → AgreesOff x f g → g x ≡ None
    → filter_map g ds ≡ without x (filter_map f ds)
one_out f g x [] own agree none = refl
one_out f g x (z ∷ ds) own agree none = by_test (same_def z x)
    (λ same.
    let is : z ≡ x = same_def-true z x same in
    let gone : g z ≡ None = subst (λ (w : Def). g w ≡ None) (sym is) none in
    ap (λ o. cons_option o (filter_map g ds)) gone
    ∙ (one_out f g x ds own agree none ∙ sym (left_out x (f z) (filter_map f ds) (λ w e. own z w e ∙ is))))
    (λ differ.
    ap (λ o. cons_option o (filter_map g ds)) (agree z differ)
    ∙ (ap (λ ys. cons_option (f z) ys) (one_out f g x ds own agree none)
    ∙ sym (kept_out x (f z) (filter_map f ds) (λ w e. subst (λ (v : Def). same_def v x ≡ false) (sym (own z w e)) differ))))

-- an item that runs or doesn't
abbrev pub running : Bool → Held → Held
running b y = record y { running = b }

kept_as : (x : Def) (b : Bool) (o : Option Held) (ys : List Held) → ((w : Held) → o ≡ Some w → same_def w.def x ≡ false)
    → with_power x b (cons_option o ys) ≡ cons_option o (with_power x b ys)
kept_as x b None ys e = refl
kept_as x b (Some w) ys e = let differ = e w refl in rw differ refl

turned : (x : Def) (b : Bool) (o : Option Held) (ys : List Held) → ((w : Held) → o ≡ Some w → w.def ≡ x)
    → with_power x b (cons_option o ys) ≡ cons_option (option_map (running b) o) (with_power x b ys)
turned x b None ys e = refl
turned x b (Some w) ys e =
    let same : same_def w.def x ≡ true = subst (λ (z : Def). same_def w.def z ≡ true) (e w refl) (same_def-refl w.def) in rw same refl

-- where one definition's answer runs or doesn't, its item does
pub one_powered : (f g : Def → Option Held) (x : Def) (b : Bool) (ds : List Def) → IsOwn f → AgreesOff x f g
    → g x ≡ option_map (running b) (f x)
    → filter_map g ds ≡ with_power x b (filter_map f ds)
one_powered f g x b [] own agree now = refl
one_powered f g x b (z ∷ ds) own agree now = by_test (same_def z x)
    (λ same.
    let is : z ≡ x = same_def-true z x same in
    let here : g z ≡ option_map (running b) (f z) = subst (λ (w : Def). g w ≡ option_map (running b) (f w)) (sym is) now in
    ap (λ o. cons_option o (filter_map g ds)) here
    ∙ (ap (λ ys. cons_option (option_map (running b) (f z)) ys) (one_powered f g x b ds own agree now)
    ∙ sym (turned x b (f z) (filter_map f ds) (λ w e. own z w e ∙ is))))
    (λ differ.
    ap (λ o. cons_option o (filter_map g ds)) (agree z differ)
    ∙ (ap (λ ys. cons_option (f z) ys) (one_powered f g x b ds own agree now)
    ∙ sym (kept_as x b (f z) (filter_map f ds) (λ w e. subst (λ (v : Def). same_def v x ≡ false) (sym (own z w e)) differ))))

skipped : (x : Def) (o : Option Held) (ys : List Held) → ((w : Held) → o ≡ Some w → same_def w.def x ≡ false)
    → item_of x (cons_option o ys) ≡ item_of x ys
skipped x None ys e = refl
skipped x (Some w) ys e = let differ = e w refl in rw differ refl

hit : (x : Def) (w : Held) (ys : List Held) → w.def ≡ x → item_of x (w ∷ ys) ≡ Some w
hit x w ys e = let same : same_def w.def x ≡ true = subst (λ (z : Def). same_def w.def z ≡ true) e (same_def-refl w.def) in rw same refl

-- no item is of a definition that has no answer
pub not_found : (f : Def → Option Held) (x : Def) (ds : List Def) → IsOwn f → f x ≡ None → item_of x (filter_map f ds) ≡ None
not_found f x [] own none = refl
not_found f x (z ∷ ds) own none =
    skipped x (f z) (filter_map f ds) (λ w e. by_test (same_def w.def x)
    (λ same.
    let is : z ≡ x = sym (own z w e) ∙ same_def-true w.def x same in
    let clash : None ≡ Some w = sym none ∙ (ap f (sym is) ∙ e) in cc)
    (λ differ. differ))
    ∙ not_found f x ds own none

first_found : (f : Def → Option Held) (x : Def) (y : Held) (z : Def) (ds : List Def) → IsOwn f → z ≡ x → f x ≡ Some y
    → item_of x (filter_map f (z ∷ ds)) ≡ Some y
first_found f x y z ds own e is =
    let here : f z ≡ Some y = subst (λ (w : Def). f w ≡ Some y) (sym e) is in
    ap (λ o. item_of x (cons_option o (filter_map f ds))) here ∙ hit x y (filter_map f ds) (own x y is)

-- the item of a definition is its answer
pub is_found : (f : Def → Option Held) (x : Def) (y : Held) (ds : List Def) → IsOwn f → IsIn x ds → f x ≡ Some y
    → item_of x (filter_map f ds) ≡ Some y
is_found f x y [] own among is = absurd among
is_found f x y (z ∷ ds) own (inl e) is = first_found f x y z ds own e is
is_found f x y (z ∷ ds) own (inr among) is = by_test (same_def z x)
    (λ same. first_found f x y z ds own (same_def-true z x same) is)
    (λ differ.
    skipped x (f z) (filter_map f ds) (λ w e. subst (λ (v : Def). same_def v x ≡ false) (sym (own z w e)) differ)
    ∙ is_found f x y ds own among is)

-- the first item stands before the second
abbrev pub Sooner : Held → Held → Type 0
Sooner x y = DefBefore x.def y.def

rises-option : (o : Option Held) (ys : List Held) → ((w y : Held) → o ≡ Some w → IsIn y ys → Sooner w y) → Rises Sooner ys
    → Rises Sooner (cons_option o ys)
rises-option None ys e rest = rest
rises-option (Some w) ys e rest = (λ y h. e w y refl h, rest)

-- the items of definitions in order are in order
pub items_rise : (f : Def → Option Held) (ds : List Def) → IsOwn f → Rises DefBefore ds → Rises Sooner (filter_map f ds)
items_rise f [] own h = tt
items_rise f (z ∷ ds) own h =
    rises-option (f z) (filter_map f ds)
    (λ w y e within. subst (λ (v : Def). DefBefore v y.def) (sym (own z w e)) (behind f z ds own h.0 y within)) (items_rise f ds own h.1)

pub in_order : (ys : List Held) → Rises Sooner ys → AreInOrder ys
in_order [] h = refl
in_order (x ∷ []) h = refl
in_order (x ∷ y ∷ ys) h = and_true _ _ (h.0 y (inl refl)) (in_order (y ∷ ys) h.1)
