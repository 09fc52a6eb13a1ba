-- The plan that rolls and items make is the plan, and how large it is.
use Rattle.std.proofs.Common.{◌≡◌, ◌≤◌, ◌+◌, ◌*◌, ◌++◌, ◌∙◌, ℕ, zero, suc, List, [], ◌∷◌, Bool, true, false, cond, not, refl, ap, sym}
use Rattle.std.proofs.Common.{subst, length, map, filter, flat_map, arith, eqb-true, length-append}
use Rattle.std.proofs.Math.Nat.{suc-mul}
use Rattle.std.proofs.Math.Path.{fun_ext}
use Rattle.std.proofs.lemmas.List.{length-map}
use Rattle.std.specs.List.{enumerate_from, range_with_len}
use Rattle.lcm_events.specs.Same.{same_kind, same_verb}
use Rattle.lcm_events.proofs.SameLaws.{def_ext}
use Rattle.lcm_events.specs.declared.asks.Ask.{Ask}
use Rattle.lcm_events.specs.declared.asks.Ask.TheVariants.{Heal, Instantiate, Operate, Scale, ScaleToLevel, Terminate}
use Rattle.lcm_events.specs.declared.changes.Change.{Change}
use Rattle.lcm_events.specs.declared.changes.Def.{Def}
use Rattle.lcm_events.specs.declared.changes.DefKind.{DefKind}
use Rattle.lcm_events.specs.declared.changes.DefKind.TheVariants.{Compute, Link, Port, Storage}
use Rattle.lcm_events.specs.declared.changes.Verb.{Verb}
use Rattle.lcm_events.specs.declared.changes.Verb.TheVariants.{Create, Remove, Start, Stop}
use Rattle.lcm_events.specs.declared.descriptor.Vnfd.{Vnfd}
use Rattle.lcm_events.specs.declared.held.Held.{Held}
use Rattle.lcm_events.specs.declared.held.Holding.{Holding}
use Rattle.lcm_laws.proofs.Lists.{and_left, and_right, by_test, filter_shorter}
use Rattle.lcm_laws.proofs.Members.{among_in, in_among, in_filter, in_map, of_filter, of_map}
use Rattle.lcm_laws.proofs.PlanOrder.{one_way}
use Rattle.lcm_model.specs.Descriptors.{IsHoldingOf}
use Rattle.lcm_model.specs.Instances.{inventory_of}
use Rattle.lcm_model.specs.Plans.{Case, change, links_made, made, makes_links, new_by, plan, removes_links, started, starts, stops}
use Rattle.lcm_model.specs.Refusals.{created}
use Rattle.lcm_model.specs.Vnfcs.{defs, def_of, is_def_in, items, link_def, vdu_numbers}
use Rattle.lcm_model.specs.Words.{IsIn, is_among}
use Rattle.change_planner.specs.Inventories.{case_of}
use Rattle.change_planner.specs.Rolls.{CanBePlanned, changes_if, changes_where, held_links, is_link, is_running, is_stopped, leaves}
use Rattle.change_planner.specs.Rolls.{links_to_make, made_by, missing_by, new_defs, parts_made, plan_by, roll_of}
use Rattle.change_planner.specs.declared.rolls.Roll.{Roll}
use Rattle.change_planner.proofs.InventoryLaws.{said, same_test, says}
use Rattle.change_planner.proofs.RollLaws.{known_item}
use Rattle.change_planner.proofs.SectionLaws.{InOrder, links_removed_is, parts_rise, removed_is, rolls_of, started_is, stopped_is}

-- a link of a holding is that of its number
link_own : (d : Vnfd) (kind : DefKind) (x : Def) → x.kind ≡ kind → same_kind kind Link ≡ true → is_def_in d kind x ≡ true
    → x ≡ link_def x.item
link_own d Link x is same e = def_ext is refl (eqb-true x.vdu 65535 (and_right _ _ (and_left _ _ e)))
    (eqb-true x.serial 0 (and_right _ _ e))
link_own d Storage x is same e = absurd cc
link_own d Compute x is same e = absurd cc
link_own d Port x is same e = absurd cc

link_held : (d : Vnfd) (h : Holding) (n : ℕ) → IsHoldingOf d h → is_among (held_links h.items) n ≡ (inventory_of h).stands (link_def n)
link_held d h n is = same_test (is_among (held_links h.items) n) ((inventory_of h).stands (link_def n))
    (λ e.
    let from = of_map (λ (y : Held). y.def.item) n (filter is_link h.items) (among_in (held_links h.items) n e) in
    let own = of_filter is_link from.0 h.items from.1 in
    let same : from.0.def ≡ link_def from.0.def.item = link_own d from.0.def.kind from.0.def refl own.1
    (and_left _ _ (known_item d h from.0 is own.0)) in
    let at : from.0.def ≡ link_def n = same ∙ ap link_def from.2 in
    said h.items (link_def n) (subst (λ (x : Def). IsIn x (map (λ y. y.def) h.items)) at
    (in_map (λ (y : Held). y.def) from.0 h.items own.0)))
    (λ e.
    let from = of_map (λ (y : Held). y.def) (link_def n) h.items (says h.items (link_def n) e) in
    let kind : same_kind from.0.def.kind Link ≡ true = subst (λ (x : Def). same_kind x.kind Link ≡ true) (sym from.2) refl in
    let number : from.0.def.item ≡ n = ap (λ (x : Def). x.item) from.2 in
    in_among (held_links h.items) n
    (subst (λ (k : ℕ). IsIn k (held_links h.items)) number (in_map (λ (y : Held). y.def.item) from.0 (filter is_link h.items)
    (in_filter is_link from.0 h.items from.1 kind))))

filter_of_map : {A B : Type 0} → (f : A → B) (p : B → Bool) (xs : List A) → filter p (map f xs) ≡ map f (filter (λ x. p (f x)) xs)
filter_of_map f p [] = refl
filter_of_map f p (x ∷ xs) = by_test (p (f x))
    (λ passes. rw passes (ap (λ ys. f x ∷ ys) (filter_of_map f p xs)))
    (λ fails. rw fails (filter_of_map f p xs))

-- the links that are made
links_made_is : (d : Vnfd) (h : Holding) (ask : Ask) (to : List ℕ) → CanBePlanned d h to
    → map link_def (links_to_make d ask h.items) ≡ links_made (case_of d h ask to)
links_made_is d h ask to can = by_test (makes_links ask)
    (λ asked. rw asked (sym (filter_of_map link_def (λ x. not ((inventory_of h).stands x)) (range_with_len 0 (length d.links))
    ∙ ap (λ p. map link_def (filter p (range_with_len 0 (length d.links)))) (fun_ext (λ n. ap not (sym (link_held d h n can.held)))))))
    (λ none. rw none refl)

-- the new machines
enumerated : (g : ℕ × Roll → List Def) (f : ℕ → Roll) (k n : ℕ)
    → flat_map g (enumerate_from k (map f (range_with_len k n))) ≡ flat_map (λ v. g (v, f v)) (range_with_len k n)
enumerated g f k zero = refl
enumerated g f k (suc n) = ap (λ xs. g (k, f k) ++ xs) (enumerated g f (k + 1) n)

new_is : (p : Case) (ask : Ask) (v : ℕ) → range_with_len (p.held.top v + 1) (missing_by ask p v) ≡ new_by ask p v
new_is p (Operate started stop) v = refl
new_is p (Terminate mode timeout) v = refl
new_is p (Instantiate flavour level) v = refl
new_is p (Scale way aspect steps) v = refl
new_is p (ScaleToLevel aim) v = refl
new_is p (Heal cause named) v = refl

made_is : (p : Case) (kind : DefKind) → made_by p.vnfd kind (rolls_of p) ≡ made p kind
made_is p kind =
    ap (map (change Create)) (enumerated (new_defs p.vnfd kind) (roll_of p) 0 (length p.vnfd.vdus)
    ∙ ap (λ f. flat_map f (vdu_numbers p.vnfd)) (fun_ext (λ v. ap (flat_map (defs p.vnfd kind v)) (new_is p p.ask v))))

joined : (a b c d e f g h i j a' b' c' d' e' f' g' h' i' j' : List Change) → a ≡ a' → b ≡ b' → c ≡ c' → d ≡ d' → e ≡ e' → f ≡ f' → g ≡ g'
    → h ≡ h' → i ≡ i' → j ≡ j'
    → a ++ b ++ c ++ d ++ e ++ f ++ g ++ h ++ i ++ j ≡ a' ++ b' ++ c' ++ d' ++ e' ++ f' ++ g' ++ h' ++ i' ++ j'
joined a b c d e f g h i j a' b' c' d' e' f' g' h' i' j' ea eb ec ed ee ef eg eh ei ej = cc

-- the plan that the rolls of a case and the items of its holding make is the plan
pub plan_is : (d : Vnfd) (h : Holding) (ask : Ask) (to : List ℕ) → CanBePlanned d h to
    → plan_by d ask (rolls_of (case_of d h ask to)) h.items ≡ plan (case_of d h ask to)
plan_is d h ask to can =
    let p = case_of d h ask to in
    let order : InOrder p = parts_rise p can.valid in
    joined _ _ _ _ _ _ _ _ _ _ _ _ _ _ _ _ _ _ _ _
    (ap (map (change Create)) (links_made_is d h ask to can)) (made_is p Storage) (made_is p Compute) (made_is p Port)
    (started_is d h ask to can order.started) (stopped_is d h ask to can order.stopped)
    (removed_is d h ask to Port can refl order.ports) (removed_is d h ask to Compute can refl order.computes)
    (removed_is d h ask to Storage can refl order.storages)
    (links_removed_is d h ask to can order.links)

-- how many definitions changes make
created_both : (xs ys : List Change) → created (xs ++ ys) ≡ created xs + created ys
created_both [] ys = omega arith
created_both (x ∷ xs) ys = let rest = created_both xs ys in by_test (same_verb x.verb Create) (λ makes. rw makes (omega (arith, rest)))
    (λ other. rw other rest)

created_makes : (ds : List Def) → created (map (change Create) ds) ≡ length ds
created_makes [] = refl
created_makes (x ∷ ds) = ap suc (created_makes ds)

created_none : (v : Verb) (ds : List Def) → same_verb v Create ≡ false → created (map (change v) ds) ≡ 0
created_none v [] e = refl
created_none v (x ∷ ds) e = rw e (created_none v ds e)

created_if : (b : Bool) (v : Verb) (test : Held → Bool) (ys : List Held) → same_verb v Create ≡ false → created (changes_if b v test ys) ≡ 0
created_if true v test ys e = created_none v (map (λ y. y.def) (filter test ys)) e
created_if false v test ys e = refl

-- how many definitions the new machines have
machines_size : (d : Vnfd) (kind : DefKind) (v a n : ℕ) → length (flat_map (defs d kind v) (range_with_len a n))
    ≡ n * length (items d kind v)
machines_size d kind v a zero = omega arith
machines_size d kind v a (suc n) =
    let rest = machines_size d kind v (a + 1) n in
    let here = length-map (items d kind v) (def_of kind v a) in
    omega (
      arith,
      length-append (defs d kind v a) (flat_map (defs d kind v) (range_with_len (a + 1) n)),
      rest,
      here,
      suc-mul n (length (items d kind v)),
    )

shared : (m a b c : ℕ) → m * a + m * b + m * c ≡ m * (a + b + c)
shared zero a b c = omega arith
shared (suc m) a b c = let rest = shared m a b c in omega (arith, rest, suc-mul m a, suc-mul m b, suc-mul m c, suc-mul m (a + b + c))

three_kinds : (d : Vnfd) (xs : List (ℕ × Roll)) → length (flat_map (new_defs d Storage) xs) + length (flat_map (new_defs d Compute) xs)
    + length (flat_map (new_defs d Port) xs) ≡ parts_made d xs
three_kinds d [] = refl
three_kinds d (x ∷ xs) =
    let rest = three_kinds d xs in
    let s = machines_size d Storage x.0 (x.1.top + 1) x.1.missing in
    let c = machines_size d Compute x.0 (x.1.top + 1) x.1.missing in
    let p = machines_size d Port x.0 (x.1.top + 1) x.1.missing in
    let all = shared x.1.missing (length (items d Storage x.0)) (length (items d Compute x.0)) (length (items d Port x.0)) in
    omega (
      arith,
      rest,
      s,
      c,
      p,
      all,
      length-append (new_defs d Storage x) (flat_map (new_defs d Storage) xs),
      length-append (new_defs d Compute x) (flat_map (new_defs d Compute) xs),
      length-append (new_defs d Port x) (flat_map (new_defs d Port) xs),
    )

-- how many definitions a plan makes
pub created_is : (d : Vnfd) (ask : Ask) (rolls : List Roll) (ys : List Held)
    → created (plan_by d ask rolls ys) ≡ length (links_to_make d ask ys) + parts_made d (enumerate_from 0 rolls)
created_is d ask rolls ys =
    let l = map (change Create) (map link_def (links_to_make d ask ys)) in
    let s = made_by d Storage rolls in let c = made_by d Compute rolls in let p = made_by d Port rolls in
    let b = changes_if (starts ask) Start (is_stopped rolls) ys in let e = changes_if (stops ask) Stop is_running ys in
    let rp = changes_where Remove (leaves Port rolls) ys in let rc = changes_where Remove (leaves Compute rolls) ys in let rs =
    changes_where Remove (leaves Storage rolls) ys in
    let k = changes_if (removes_links ask) Remove is_link ys in
    let links = created_makes (map link_def (links_to_make d ask ys)) in
    let counted = length-map (links_to_make d ask ys) link_def in
    let storages = created_makes (flat_map (new_defs d Storage) (enumerate_from 0 rolls)) in
    let computes = created_makes (flat_map (new_defs d Compute) (enumerate_from 0 rolls)) in
    let ports = created_makes (flat_map (new_defs d Port) (enumerate_from 0 rolls)) in
    let three = three_kinds d (enumerate_from 0 rolls) in
    let z1 = created_if (starts ask) Start (is_stopped rolls) ys refl in
    let z2 = created_if (stops ask) Stop is_running ys refl in
    let z3 = created_none Remove (map (λ y. y.def) (filter (leaves Port rolls) ys)) refl in
    let z4 = created_none Remove (map (λ y. y.def) (filter (leaves Compute rolls) ys)) refl in
    let z5 = created_none Remove (map (λ y. y.def) (filter (leaves Storage rolls) ys)) refl in
    let z6 = created_if (removes_links ask) Remove is_link ys refl in
    let j1 = created_both l s in
    let j2 = created_both (l ++ s) c in
    let j3 = created_both (l ++ s ++ c) p in
    let j4 = created_both (l ++ s ++ c ++ p) b in
    let j5 = created_both (l ++ s ++ c ++ p ++ b) e in
    let j6 = created_both (l ++ s ++ c ++ p ++ b ++ e) rp in
    let j7 = created_both (l ++ s ++ c ++ p ++ b ++ e ++ rp) rc in
    let j8 = created_both (l ++ s ++ c ++ p ++ b ++ e ++ rp ++ rc) rs in
    let j9 = created_both (l ++ s ++ c ++ p ++ b ++ e ++ rp ++ rc ++ rs) k in
    omega (arith, links, counted, storages, computes, ports, three, z1, z2, z3, z4, z5, z6, j1, j2, j3, j4, j5, j6, j7, j8, j9)

-- how many changes a plan has beside those that make
kinds_apart : (kind : DefKind) (y : Held) (p s c l : List Held)
    → length (cond (same_kind kind Port) (y ∷ p) p) + length (cond (same_kind kind Storage) (y ∷ s) s)
    + length (cond (same_kind kind Compute) (y ∷ c) c) + length (cond (same_kind kind Link) (y ∷ l) l)
    ≡ suc (length p + length s + length c + length l)
kinds_apart Link y p s c l = omega arith
kinds_apart Storage y p s c l = omega arith
kinds_apart Compute y p s c l = omega arith
kinds_apart Port y p s c l = omega arith

abbrev is_kind : DefKind → Held → Bool
is_kind kind y = same_kind y.def.kind kind

four_kinds : (ys : List Held) → length (filter (is_kind Port) ys) + length (filter (is_kind Storage) ys)
    + length (filter (is_kind Compute) ys) + length (filter (is_kind Link) ys) ≡ length ys
four_kinds [] = refl
four_kinds (y ∷ ys) =
    kinds_apart y.def.kind y (filter (is_kind Port) ys) (filter (is_kind Storage) ys) (filter (is_kind Compute) ys)
    (filter (is_kind Link) ys) ∙ ap suc (four_kinds ys)

where_size : (v : Verb) (test : Held → Bool) (ys : List Held) → length (changes_where v test ys) ≡ length (filter test ys)
where_size v test ys = length-map (map (λ y. y.def) (filter test ys)) (change v) ∙ length-map (filter test ys) (λ y. y.def)

if_size : (b : Bool) (v : Verb) (test : Held → Bool) (ys : List Held) → length (changes_if b v test ys) ≤ length (filter test ys)
if_size true v test ys = let size = where_size v test ys in omega (arith, size)
if_size false v test ys = omega arith

filter_size : (test : Held → Bool) (ys : List Held) → length (filter test ys) ≤ length ys
filter_size test [] = omega arith
filter_size test (y ∷ ys) = let rest = filter_size test ys in by_test (test y) (λ passes. rw passes (omega (arith, rest)))
    (λ fails. rw fails (omega (arith, rest)))

powered_size : (ask : Ask) (rolls : List Roll) (ys : List Held)
    → length (changes_if (starts ask) Start (is_stopped rolls) ys) + length (changes_if (stops ask) Stop is_running ys) ≤ length ys
powered_size ask rolls ys =
    let a = if_size (starts ask) Start (is_stopped rolls) ys in
    let b = if_size (stops ask) Stop is_running ys in
    let most = filter_size (is_stopped rolls) ys in
    let more = filter_size is_running ys in
    by_test (starts ask)
    (λ start.
    let none : length (changes_if (stops ask) Stop is_running ys) ≡ 0 =
    ap (λ b. length (changes_if b Stop is_running ys)) (one_way ask start) in
    omega (arith, a, most, none))
    (λ still.
    let none : length (changes_if (starts ask) Start (is_stopped rolls) ys) ≡ 0 =
    ap (λ b. length (changes_if b Start (is_stopped rolls) ys)) still in
    omega (arith, b, more, none))

-- a plan has at most what it makes, and twice what stands
pub plan_size : (d : Vnfd) (ask : Ask) (rolls : List Roll) (ys : List Held)
    → length (plan_by d ask rolls ys) ≤ length (links_to_make d ask ys) + parts_made d (enumerate_from 0 rolls) + (length ys + length ys)
plan_size d ask rolls ys =
    let l = map (change Create) (map link_def (links_to_make d ask ys)) in
    let s = made_by d Storage rolls in let c = made_by d Compute rolls in let p = made_by d Port rolls in
    let b = changes_if (starts ask) Start (is_stopped rolls) ys in let e = changes_if (stops ask) Stop is_running ys in
    let rp = changes_where Remove (leaves Port rolls) ys in let rc = changes_where Remove (leaves Compute rolls) ys in let rs =
    changes_where Remove (leaves Storage rolls) ys in
    let k = changes_if (removes_links ask) Remove is_link ys in
    let m1 = length-map (map link_def (links_to_make d ask ys)) (change Create) in
    let m2 = length-map (links_to_make d ask ys) link_def in
    let m3 = length-map (flat_map (new_defs d Storage) (enumerate_from 0 rolls)) (change Create) in
    let m4 = length-map (flat_map (new_defs d Compute) (enumerate_from 0 rolls)) (change Create) in
    let m5 = length-map (flat_map (new_defs d Port) (enumerate_from 0 rolls)) (change Create) in
    let three = three_kinds d (enumerate_from 0 rolls) in
    let power = powered_size ask rolls ys in
    let four = four_kinds ys in
    let n1 = where_size Remove (leaves Port rolls) ys in let n2 = where_size Remove (leaves Compute rolls) ys in let n3 =
    where_size Remove (leaves Storage rolls) ys in
    let o1 = filter_shorter (leaves Port rolls) (is_kind Port) ys (λ y e. and_left (same_kind y.def.kind Port) _ e) in
    let o2 = filter_shorter (leaves Compute rolls) (is_kind Compute) ys (λ y e. and_left (same_kind y.def.kind Compute) _ e) in
    let o3 = filter_shorter (leaves Storage rolls) (is_kind Storage) ys (λ y e. and_left (same_kind y.def.kind Storage) _ e) in
    let o4 = if_size (removes_links ask) Remove is_link ys in
    let j1 = length-append l s in
    let j2 = length-append (l ++ s) c in
    let j3 = length-append (l ++ s ++ c) p in
    let j4 = length-append (l ++ s ++ c ++ p) b in
    let j5 = length-append (l ++ s ++ c ++ p ++ b) e in
    let j6 = length-append (l ++ s ++ c ++ p ++ b ++ e) rp in
    let j7 = length-append (l ++ s ++ c ++ p ++ b ++ e ++ rp) rc in
    let j8 = length-append (l ++ s ++ c ++ p ++ b ++ e ++ rp ++ rc) rs in
    let j9 = length-append (l ++ s ++ c ++ p ++ b ++ e ++ rp ++ rc ++ rs) k in
    omega (arith, m1, m2, m3, m4, m5, three, power, four, n1, n2, n3, o1, o2, o3, o4, j1, j2, j3, j4, j5, j6, j7, j8, j9)
