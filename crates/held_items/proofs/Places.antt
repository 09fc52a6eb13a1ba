-- Where a search among items in order leads, and what a change there makes of them.
use Rattle.std.proofs.Common.{◌≡◌, ◌≤◌, ◌<◌, ◌∙◌, ℕ, List, [], ◌∷◌, zero, suc, Bool, true, false, cond, Option, None, Some, is_some, inl}
use Rattle.std.proofs.Common.{inr, refl, ap, sym, subst, length, set, get_or, arith, slice_get}
use Rattle.std.specs.List.{insert, remove}
use Rattle.std.specs.List.Sorted.{IsPartitionPoint, IsPartitionedBy}
use Rattle.std.specs.Prelude.{option_copied, slice_index_or}
use denote.Ref.{Bor}
use Rattle.lcm_events.specs.Same.{same_def}
use Rattle.lcm_events.proofs.SameLaws.{same_def-true}
use Rattle.lcm_events.specs.declared.changes.Def.{Def}
use Rattle.lcm_events.specs.declared.held.Held.{Held}
use Rattle.lcm_model.specs.Descriptors.{is_def_before}
use Rattle.lcm_model.specs.Words.{IsIn}
use Rattle.lcm_laws.proofs.Lists.{and_left, and_right, by_test}
use Rattle.lcm_laws.proofs.Members.{Rises}
use Rattle.held_items.specs.Items.{AreInOrder, item_of, when_of, with_item, with_power, without}
use Rattle.held_items.proofs.Orders.{DefBefore, before_differs, before_on, before_or, differs_back}
use Rattle.held_items.proofs.ListLaws.{Sooner, put-behind, put-front, put-over}

-- items in order: each stands before all later ones
pub sooner : (ys : List Held) → AreInOrder ys → Rises Sooner ys
sooner [] e = tt
sooner (x ∷ []) e = (λ y h. absurd h, tt)
sooner (x ∷ y ∷ ys) e = all (and_left (is_def_before x.def y.def) _ e) (sooner (y ∷ ys) (and_right (is_def_before x.def y.def) _ e)) where
  step : Sooner x y → Rises Sooner (y ∷ ys) → (z : Held) → IsIn z (y ∷ ys) → Sooner x z
  step first rest z (inl is) = subst (λ (w : Held). Sooner x w) is first
  step first rest z (inr h) = before_on x.def y.def z.def first (rest.0 z h)

  all : Sooner x y → Rises Sooner (y ∷ ys) → Rises Sooner (x ∷ y ∷ ys)
  all first rest = (λ z h. step first rest z h, rest)

-- the item stands before the definition
abbrev pub leads : Def → Held → Bool
leads x y = is_def_before y.def x

at_in : (ys : List Held) (j : ℕ) (d : Held) → j < length ys → IsIn (slice_index_or ys j d) ys
at_in [] j d h = absurd (omega (arith, h))
at_in (y ∷ ys) zero d h = inl refl
at_in (y ∷ ys) (suc j) d h = inr (at_in ys j d (omega (arith, h)))

parted-at : (x : Def) (ys : List Held) → Rises Sooner ys → (i j : ℕ) (d : Held) → i ≤ j → j < length ys
    → leads x (slice_index_or ys j d) ≡ true → leads x (slice_index_or ys i d) ≡ true
parted-at x [] r i j d h less passes = absurd (omega (arith, less))
parted-at x (y ∷ ys) r zero zero d h less passes = passes
parted-at x (y ∷ ys) r zero (suc j) d h less passes =
    before_on y.def (slice_index_or ys j d).def x (r.0 (slice_index_or ys j d) (at_in ys j d (omega (arith, less)))) passes
parted-at x (y ∷ ys) r (suc i) zero d h less passes = absurd (omega (arith, h))
parted-at x (y ∷ ys) r (suc i) (suc j) d h less passes = parted-at x ys r.1 i j d (omega (arith, h)) (omega (arith, less)) passes

-- how many items at the front stand before the definition
abbrev pub leading : Def → List Held → ℕ
leading x [] = 0
leading x (y ∷ ys) = cond (leads x y) (suc (leading x ys)) 0

leading-is : (x : Def) (ys : List Held) (k : ℕ) → k ≤ length ys → IsPartitionPoint (λ y. leads x y ≡ true) (λ y. leads x y ≡ false) ys k
    → k ≡ leading x ys
leading-is x [] k h point = omega (arith, h)
leading-is x (y ∷ ys) zero h point = let fails : leads x y ≡ false = point.1 0 y (omega arith) (omega arith) in rw fails refl
leading-is x (y ∷ ys) (suc k) h point =
    let passes : leads x y ≡ true = point.0 0 y (omega arith) (omega arith) in
    let rest : k ≡ leading x ys = leading-is x ys k (omega (arith, h)) (
      (λ j d low high. point.0 (suc j) d (omega arith) (omega (arith, high))),
      (λ j d low high. point.1 (suc j) d (omega (arith, low)) (omega (arith, high))),
    ) in
    rw passes (ap suc rest)

-- a search among items leads to this place
pub record IsPlaceOf (x : Def) (ys : List Held) (k : ℕ) : Type 0 where
  pub bound : k ≤ length ys
  pub place : IsPartitionedBy (λ y. is_def_before y.def x) ys → IsPartitionPoint (λ y. is_def_before y.def x ≡ true)
      (λ y. is_def_before y.def x ≡ false) ys k

place_is : (x : Def) (ys : List Held) (k : ℕ) → Rises Sooner ys → IsPlaceOf x ys k → k ≡ leading x ys
place_is x ys k r h = leading-is x ys k h.bound (h.place (λ i j d low less passes. parted-at x ys r i j d low less passes))

-- all items of a list are later than a definition
abbrev AreLater : Def → List Held → Type 0
AreLater x ys = (w : Held) → IsIn w ys → DefBefore x w.def

later_differs : (x : Def) (y : Held) → DefBefore x y.def → same_def y.def x ≡ false
later_differs x y h = differs_back x y.def (before_differs x y.def h)

later_none : (x : Def) (ys : List Held) → AreLater x ys → item_of x ys ≡ None
later_none x [] h = refl
later_none x (y ∷ ys) h = let differ = later_differs x y (h y (inl refl)) in rw differ (later_none x ys (λ w g. h w (inr g)))

later_stay : (x : Def) (ys : List Held) → AreLater x ys → without x ys ≡ ys
later_stay x [] h = refl
later_stay x (y ∷ ys) h = let differ = later_differs x y (h y (inl refl)) in
    rw differ (ap (λ zs. y ∷ zs) (later_stay x ys (λ w g. h w (inr g))))

later_same : (x : Def) (b : Bool) (ys : List Held) → AreLater x ys → with_power x b ys ≡ ys
later_same x b [] h = refl
later_same x b (y ∷ ys) h = let differ = later_differs x y (h y (inl refl)) in
    rw differ (ap (λ zs. y ∷ zs) (later_same x b ys (λ w g. h w (inr g))))

-- the first item that isn't before the definition is of it, or later with all behind it
here_later : (x : Def) (y : Held) (ys : List Held) → Rises Sooner (y ∷ ys) → leads x y ≡ false → same_def y.def x ≡ false
    → AreLater x (y ∷ ys)
here_later x y ys r fails differ w (inl e) = subst (λ (z : Held). DefBefore x z.def) e (before_or y.def x fails differ)
here_later x y ys r fails differ w (inr h) = before_on x y.def w.def (before_or y.def x fails differ) (r.0 w h)

behind_later : (x : Def) (y : Held) (ys : List Held) → Rises Sooner (y ∷ ys) → y.def ≡ x → AreLater x ys
behind_later x y ys r e w h = subst (λ (z : Def). DefBefore z w.def) e (r.0 w h)

found_at : (x : Def) (ys : List Held) → Rises Sooner ys → when_of x (slice_get ys (leading x ys)) ≡ item_of x ys
found_at x [] r = refl
found_at x (y ∷ ys) r = by_test (leads x y)
    (λ passes. let differ = before_differs y.def x passes in rw (passes, differ) (found_at x ys r.1))
    (λ fails. rw fails (by_test (same_def y.def x)
    (λ same. rw same refl)
    (λ differ. rw differ (sym (later_none x ys (λ w h. here_later x y ys r fails differ w (inr h)))))))

-- what is found at the place of a definition is its item
pub found : (x : Def) (ys : List Held) (k : ℕ) → AreInOrder ys → IsPlaceOf x ys k → when_of x (slice_get ys k) ≡ item_of x ys
found x ys k e h = ap (λ (j : ℕ). when_of x (slice_get ys j)) (place_is x ys k (sooner ys e) h) ∙ found_at x ys (sooner ys e)

-- there is an item at this place, of this definition
abbrev pub IsAt : Def → List Held → ℕ → Bool → Type 0
IsAt x ys k b = is_some (when_of x (slice_get ys k)) ≡ b

some_copied : (r : Option (Bor Held)) → is_some (option_copied r) ≡ is_some r
some_copied None = refl
some_copied (Some y) = refl

-- what a look at a place tells
pub is_at : (r : Option (Bor Held)) (x : Def) (zs ys : List Held) (k : ℕ) (got b : Bool) → got ≡ is_some r → got ≡ b
    → option_copied r ≡ when_of x (slice_get zs k) → zs ≡ ys
    → IsAt x ys k b
is_at r x zs ys k got b is test e same =
    ap (λ ws. is_some (when_of x (slice_get ws k))) (sym same) ∙ (ap is_some (sym e) ∙ (some_copied r ∙ (sym is ∙ test)))

-- what a search tells
pub is_place : (x : Def) (zs ys : List Held) (k : ℕ) → zs ≡ ys → k ≤ length zs
    → (IsPartitionedBy (λ y. is_def_before y.def x) zs → IsPartitionPoint (λ y. is_def_before y.def x ≡ true)
    (λ y. is_def_before y.def x ≡ false) zs k) → IsPlaceOf x ys k
is_place x zs ys k same bound place = subst (λ ws. IsPlaceOf x ws k) same (record { bound = bound; place = place })

pub at_within : (x : Def) (ys : List Held) (k : ℕ) → IsAt x ys k true → k < length ys
at_within x [] k e = cc
at_within x (y ∷ ys) zero e = omega arith
at_within x (y ∷ ys) (suc k) e = let h = at_within x ys k e in omega (arith, h)

of_when : (x : Def) (y : Held) → is_some (when_of x (Some y)) ≡ true → same_def y.def x ≡ true
of_when x y e = by_test (same_def y.def x) (λ same. same) (λ differ. let clash : false ≡ true =
    subst (λ (b : Bool). is_some (cond b (Some y) None) ≡ true) differ e in cc)

not_when : (x : Def) (y : Held) → is_some (when_of x (Some y)) ≡ false → same_def y.def x ≡ false
not_when x y e = by_test (same_def y.def x) (λ same. let clash : true ≡ false =
    subst (λ (b : Bool). is_some (cond b (Some y) None) ≡ false) same e in cc) (λ differ. differ)

removed_at : (x : Def) (ys : List Held) → Rises Sooner ys → IsAt x ys (leading x ys) true → remove ys (leading x ys) ≡ without x ys
removed_at x [] r e = cc
removed_at x (y ∷ ys) r e = by_test (leads x y)
    (λ passes.
    let differ = before_differs y.def x passes in
    let rest : IsAt x ys (leading x ys) true = subst (λ (b : Bool). IsAt x (y ∷ ys) (cond b (suc (leading x ys)) 0) true) passes e in
    rw (passes, differ) (ap (λ zs. y ∷ zs) (removed_at x ys r.1 rest)))
    (λ fails.
    let here : IsAt x (y ∷ ys) 0 true = subst (λ (b : Bool). IsAt x (y ∷ ys) (cond b (suc (leading x ys)) 0) true) fails e in
    let same = of_when x y here in
    rw (fails, same) (sym (later_stay x ys (behind_later x y ys r (same_def-true y.def x same)))))

-- the item that is there goes
pub removed : (x : Def) (ys : List Held) (k : ℕ) → AreInOrder ys → IsPlaceOf x ys k → IsAt x ys k true → remove ys k ≡ without x ys
removed x ys k e h is =
    let at = place_is x ys k (sooner ys e) h in
    ap (λ (j : ℕ). remove ys j) at ∙ removed_at x ys (sooner ys e) (subst (λ (j : ℕ). IsAt x ys j true) at is)

stays_at : (x : Def) (ys : List Held) → Rises Sooner ys → IsAt x ys (leading x ys) false → without x ys ≡ ys
stays_at x [] r e = refl
stays_at x (y ∷ ys) r e = by_test (leads x y)
    (λ passes.
    let differ = before_differs y.def x passes in
    let rest : IsAt x ys (leading x ys) false = subst (λ (b : Bool). IsAt x (y ∷ ys) (cond b (suc (leading x ys)) 0) false) passes e in
    rw differ (ap (λ zs. y ∷ zs) (stays_at x ys r.1 rest)))
    (λ fails.
    let here : IsAt x (y ∷ ys) 0 false = subst (λ (b : Bool). IsAt x (y ∷ ys) (cond b (suc (leading x ys)) 0) false) fails e in
    later_stay x (y ∷ ys) (here_later x y ys r fails (not_when x y here)))

-- where there is none nothing goes
pub stays : (x : Def) (ys : List Held) (k : ℕ) → AreInOrder ys → IsPlaceOf x ys k → IsAt x ys k false → ys ≡ without x ys
stays x ys k e h is = sym (stays_at x ys (sooner ys e) (subst (λ (j : ℕ). IsAt x ys j false) (place_is x ys k (sooner ys e) h) is))

powered_at : (x : Def) (b : Bool) (y : Held) (ys : List Held) → Rises Sooner ys → IsAt x ys (leading x ys) true
    → y ≡ get_or ys (leading x ys) y
    → set ys (leading x ys) (record y { running = b }) ≡ with_power x b ys
powered_at x b y [] r e is = cc
powered_at x b z (y ∷ ys) r e is = by_test (leads x y)
    (λ passes.
    let differ = before_differs y.def x passes in
    let rest : IsAt x ys (leading x ys) true = subst (λ (b : Bool). IsAt x (y ∷ ys) (cond b (suc (leading x ys)) 0) true) passes e in
    let is_z : z ≡ get_or ys (leading x ys) z = subst (λ (b : Bool). z ≡ get_or (y ∷ ys) (cond b (suc (leading x ys)) 0) z) passes is in
    rw (passes, differ) (ap (λ zs. y ∷ zs) (powered_at x b z ys r.1 rest is_z)))
    (λ fails.
    let here : IsAt x (y ∷ ys) 0 true = subst (λ (b : Bool). IsAt x (y ∷ ys) (cond b (suc (leading x ys)) 0) true) fails e in
    let is_z : z ≡ y = subst (λ (b : Bool). z ≡ get_or (y ∷ ys) (cond b (suc (leading x ys)) 0) z) fails is in
    let same = of_when x y here in
    rw (fails, same) (ap (λ (w : Held). record w { running = b } ∷ ys) is_z
    ∙ ap (λ zs. record y { running = b } ∷ zs) (sym (later_same x b ys (behind_later x y ys r (same_def-true y.def x same))))))

-- the item that is there runs or doesn't
pub powered : (x : Def) (b : Bool) (y : Held) (ys : List Held) (k : ℕ) → AreInOrder ys → IsPlaceOf x ys k → IsAt x ys k true
    → y ≡ get_or ys k y
    → set ys k (record y { running = b }) ≡ with_power x b ys
powered x b y ys k e h is entry =
    let at = place_is x ys k (sooner ys e) h in
    ap (λ (j : ℕ). set ys j (record y { running = b })) at
    ∙ powered_at x b y ys (sooner ys e) (subst (λ (j : ℕ). IsAt x ys j true) at is) (subst (λ (j : ℕ). y ≡ get_or ys j y) at entry)

same_at : (x : Def) (b : Bool) (ys : List Held) → Rises Sooner ys → IsAt x ys (leading x ys) false → with_power x b ys ≡ ys
same_at x b [] r e = refl
same_at x b (y ∷ ys) r e = by_test (leads x y)
    (λ passes.
    let differ = before_differs y.def x passes in
    let rest : IsAt x ys (leading x ys) false = subst (λ (b : Bool). IsAt x (y ∷ ys) (cond b (suc (leading x ys)) 0) false) passes e in
    rw differ (ap (λ zs. y ∷ zs) (same_at x b ys r.1 rest)))
    (λ fails.
    let here : IsAt x (y ∷ ys) 0 false = subst (λ (b : Bool). IsAt x (y ∷ ys) (cond b (suc (leading x ys)) 0) false) fails e in
    later_same x b (y ∷ ys) (here_later x y ys r fails (not_when x y here)))

-- where there is none nothing changes
pub same_power : (x : Def) (b : Bool) (ys : List Held) (k : ℕ) → AreInOrder ys → IsPlaceOf x ys k → IsAt x ys k false
    → ys ≡ with_power x b ys
same_power x b ys k e h is = sym (same_at x b ys (sooner ys e) (subst (λ (j : ℕ). IsAt x ys j false) (place_is x ys k (sooner ys e) h) is))

over_at : (y : Held) (ys : List Held) → Rises Sooner ys → IsAt y.def ys (leading y.def ys) true
    → set ys (leading y.def ys) y ≡ with_item y ys
over_at y [] r e = cc
over_at y (z ∷ ys) r e = by_test (leads y.def z)
    (λ passes.
    let rest : IsAt y.def ys (leading y.def ys) true = subst (λ (b : Bool). IsAt y.def (z ∷ ys) (cond b (suc (leading y.def ys)) 0) true)
    passes e in
    ap (λ (b : Bool). set (z ∷ ys) (cond b (suc (leading y.def ys)) 0) y) passes
    ∙ (ap (λ zs. z ∷ zs) (over_at y ys r.1 rest) ∙ sym (put-behind y z ys passes)))
    (λ fails.
    let here : IsAt y.def (z ∷ ys) 0 true = subst (λ (b : Bool). IsAt y.def (z ∷ ys) (cond b (suc (leading y.def ys)) 0) true) fails e in
    let same : z.def ≡ y.def = same_def-true z.def y.def (of_when y.def z here) in
    ap (λ (b : Bool). set (z ∷ ys) (cond b (suc (leading y.def ys)) 0) y) fails
    ∙ sym (put-over y z ys same ∙ put-front y ys (behind_later y.def z ys r same)))

-- an item takes the place of one of its definition
pub put_over : (y : Held) (ys : List Held) (k : ℕ) → AreInOrder ys → IsPlaceOf y.def ys k → IsAt y.def ys k true
    → set ys k y ≡ with_item y ys
put_over y ys k e h is =
    let at = place_is y.def ys k (sooner ys e) h in
    ap (λ (j : ℕ). set ys j y) at ∙ over_at y ys (sooner ys e) (subst (λ (j : ℕ). IsAt y.def ys j true) at is)

between_at : (y : Held) (ys : List Held) → Rises Sooner ys → IsAt y.def ys (leading y.def ys) false
    → insert ys (leading y.def ys) y ≡ with_item y ys
between_at y [] r e = refl
between_at y (z ∷ ys) r e = by_test (leads y.def z)
    (λ passes.
    let rest : IsAt y.def ys (leading y.def ys) false = subst (λ (b : Bool). IsAt y.def (z ∷ ys) (cond b (suc (leading y.def ys)) 0) false)
    passes e in
    ap (λ (b : Bool). insert (z ∷ ys) (cond b (suc (leading y.def ys)) 0) y) passes
    ∙ (ap (λ zs. z ∷ zs) (between_at y ys r.1 rest) ∙ sym (put-behind y z ys passes)))
    (λ fails.
    let here : IsAt y.def (z ∷ ys) 0 false = subst (λ (b : Bool). IsAt y.def (z ∷ ys) (cond b (suc (leading y.def ys)) 0) false) fails e in
    ap (λ (b : Bool). insert (z ∷ ys) (cond b (suc (leading y.def ys)) 0) y) fails
    ∙ sym (put-front y (z ∷ ys) (here_later y.def z ys r fails (not_when y.def z here))))

-- an item goes between those before it and those after it
pub put_between : (y : Held) (ys : List Held) (k : ℕ) → AreInOrder ys → IsPlaceOf y.def ys k → IsAt y.def ys k false
    → insert ys k y ≡ with_item y ys
put_between y ys k e h is =
    let at = place_is y.def ys k (sooner ys e) h in
    ap (λ (j : ℕ). insert ys j y) at ∙ between_at y ys (sooner ys e) (subst (λ (j : ℕ). IsAt y.def ys j false) at is)
