-- What each event makes of what stands of an instance, and of its row.
use Rattle.std.proofs.Common.{◌≡◌, ◌≤◌, ◌<◌, ◌==◌, ◌∙◌, ℕ, List, [], ◌∷◌, Bool, true, false, cond, not, Option, None, Some, is_some, refl}
use Rattle.std.proofs.Common.{ap, sym, subst, arith, eqb-true, slice_get}
use Rattle.std.specs.List.{cons_option}
use Rattle.std.specs.Option.{option_map_or}
use Rattle.std.specs.Prelude.{option_and_then, unwrap_or}
use Rattle.lcm_events.specs.declared.asks.Ask.{Ask}
use Rattle.lcm_events.specs.declared.asks.Ask.TheVariants.{Heal, Instantiate, Operate, Scale, ScaleToLevel, Terminate}
use Rattle.lcm_events.specs.declared.attempts.Outcome.TheVariants.{Done}
use Rattle.lcm_events.specs.declared.attempts.Tag.{Tag}
use Rattle.lcm_events.specs.declared.changes.Change.{Change}
use Rattle.lcm_events.specs.declared.changes.Def.{Def}
use Rattle.lcm_events.specs.declared.changes.Verb.{Verb}
use Rattle.lcm_events.specs.declared.changes.Verb.TheVariants.{Create, Remove, Start, Stop}
use Rattle.lcm_events.specs.declared.descriptor.Vnfd.{Vnfd}
use Rattle.lcm_events.specs.declared.events.Event.{Event}
use Rattle.lcm_events.specs.declared.events.EventKind.{EventKind}
use Rattle.lcm_events.specs.declared.events.EventKind.TheVariants.{Asked, Created, Moved, Settled}
use Rattle.lcm_events.specs.declared.events.Operation.{Operation}
use Rattle.lcm_events.specs.declared.held.Held.{Held}
use Rattle.lcm_events.specs.declared.held.Holding.{Holding}
use Rattle.lcm_events.specs.declared.places.Place.{Place}
use Rattle.lcm_events.specs.declared.states.OpState.{OpState}
use Rattle.lcm_events.specs.declared.states.OpState.TheVariants.{Completed, Failed, RolledBack}
use Rattle.lcm_model.specs.Allowed.{IsAllowedWithin, IsLegalWithin}
use Rattle.lcm_model.specs.Holding.{effect_in, top}
use Rattle.lcm_model.specs.Instances.{defs_up_to, held_at, holding, instantiates, levels, levels_from, moving, sets_levels, starts_or_stops}
use Rattle.lcm_model.specs.Levels.{target}
use Rattle.lcm_model.specs.Lives.{CreatedInstance, creation, creations, descriptor, descriptor_named, instances_made, is_deleted}
use Rattle.lcm_model.specs.Moves.{is_final}
use Rattle.lcm_model.specs.Operations.{operation, verb_done}
use Rattle.lcm_model.specs.Words.{IsIn, first, told}
use Rattle.lcm_laws.proofs.HoldLaws.{some_value}
use Rattle.lcm_laws.proofs.Histories.{event, legal_induction}
use Rattle.lcm_laws.proofs.Lists.{and_left, by_test}
use Rattle.lcm_laws.proofs.NumberLaws.{found_within, instances_counted}
use Rattle.lcm_laws.proofs.SettledLaws.{find-own}
use Rattle.held_items.specs.Following.{is_done, items, once_done, place_made}
use Rattle.held_items.proofs.EffectLaws.{held_same}
use Rattle.held_items.proofs.ItemLaws.{items_follow, new_holds_nothing, others_leave, others_stay}
use Rattle.held_items.proofs.ListLaws.{filter_map-same}
use Rattle.instance_table.specs.Rows.{aim, end_effect, going_of, instance_row, row_with, unheld}
use Rattle.instance_table.specs.Steps.{after_work, asked, end_of, ended, first_holding, first_instance, raised}
use Rattle.instance_table.specs.declared.going.EndEffect.{EndEffect}
use Rattle.instance_table.specs.declared.going.Going.{Going}
use Rattle.instance_table.specs.declared.rows.InstanceRow.{InstanceRow}
use Rattle.instance_table.proofs.LiveLaws.{flip}
use Rattle.instance_table.proofs.TopLaws.{named-next, named_of, new_tops, tops-asked}
use Rattle.instance_table.proofs.LevelLaws.{levels-moved, moving_at, none_levels}

-- an operation is of an instance that was made
abbrev OwnMade : List Event → Type 0
OwnMade H = (o : ℕ) (a : Operation) → operation H o ≡ Some a → a.instance ≤ instances_made H

own_step : (width m : ℕ) (H : List Event) (time : ℕ) (k : EventKind) → IsLegalWithin width m H → IsAllowedWithin width m H k → OwnMade H
    → OwnMade (event time k ∷ H)
own_step width m H time (Created i vnfd name text) legal allowed h o a e = let low = h o a e in omega (arith, low)
own_step width m H time (Asked b) legal allowed h o a e = by_test (b.occ == o)
    (λ same.
    let is : b ≡ a = some_same (subst (λ (c : Bool). cond c (Some b) (operation H o) ≡ Some a) same e) in
    let there = and_left (is_some (creation H b.instance)) (not (is_deleted H b.instance)) allowed.live in
    subst (λ (x : Operation). x.instance ≤ instances_made H) is (found_within (λ x. x.instance) (creations H) b.instance
    (instances_counted width m H legal) there).1)
    (λ other. h o a (subst (λ (c : Bool). cond c (Some b) (operation H o) ≡ Some a) other e)) where
      some_same : {x y : Operation} → Some x ≡ Some y → x ≡ y
      some_same e = cc
own_step width m H time k legal allowed h o a e = h o a e

own_made : (width m : ℕ) (H : List Event) → IsLegalWithin width m H → OwnMade H
own_made width m H legal = legal_induction width m OwnMade (λ o a e. cc)
    (λ H time k legal allowed h. own_step width m H time k legal allowed h) H legal

-- no operation of an instance that wasn't made has moved
abbrev Unmoved : {A : Type 0} → (Ask → OpState → Option A) → List Event → Type 0
Unmoved ask H = (i : ℕ) → instances_made H < i → told (moving ask i) H ≡ []

unmoved_step : {A : Type 0} → (ask : Ask → OpState → Option A) (width m : ℕ) (H : List Event) (time : ℕ) (k : EventKind)
    → IsLegalWithin width m H → IsAllowedWithin width m H k → Unmoved ask H
    → Unmoved ask (event time k ∷ H)
unfolding moving
unmoved_step ask width m H time (Moved o to) legal allowed h i high =
    let found = some_value (operation H o) allowed.0 in
    let low = own_made width m H legal o found.0 found.1 in
    let other : (found.0.instance == i) ≡ false = by_test (found.0.instance == i)
    (λ same. let is : found.0.instance ≡ i = eqb-true found.0.instance i same in absurd (omega (arith, low, high, is))) (λ no. no) in
    ap (λ x. cons_option x (told (moving ask i) H)) (moving_at ask i H o to found.0 found.1
    ∙ ap (λ (b : Bool). cond b (ask found.0.ask to) None) other)
    ∙ h i high
unmoved_step ask width m H time (Created j vnfd name text) legal allowed h i high = h i (omega (arith, high))
unmoved_step ask width m H time k legal allowed h i high = h i high

unmoved : {A : Type 0} → (ask : Ask → OpState → Option A) (width m : ℕ) (H : List Event) → IsLegalWithin width m H → Unmoved ask H
unfolding moving
unmoved ask width m H legal = legal_induction width m (Unmoved ask) (λ i high. refl)
    (λ H time k legal allowed h. unmoved_step ask width m H time k legal allowed h) H legal

last_of : (y : Option Bool) (ys : List Bool) (b : Bool) → unwrap_or (first (cons_option y ys)) b ≡ unwrap_or y (unwrap_or (first ys) b)
last_of None ys b = refl
last_of (Some y) ys b = refl

told_move : (ask : Ask → OpState → Option Bool) (H : List Event) (time i o : ℕ) (to : OpState) (a : Operation) → operation H o ≡ Some a
    → unwrap_or (first (told (moving ask i) (event time (Moved o to) ∷ H))) false
    ≡ unwrap_or (cond (a.instance == i) (ask a.ask to) None) (unwrap_or (first (told (moving ask i) H)) false)
told_move ask H time i o to a e =
    last_of (moving ask i H (Moved o to)) (told (moving ask i) H) false
    ∙ ap (λ (y : Option Bool). unwrap_or y (unwrap_or (first (told (moving ask i) H)) false)) (moving_at ask i H o to a e)

-- holdings that are alike in all parts are one
hold_by : (a b : Holding) → a.instantiated ≡ b.instantiated → a.started ≡ b.started → a.levels ≡ b.levels → a.items ≡ b.items
    → a.top ≡ b.top → a ≡ b
hold_by a b e f g h i =
    ap (λ (z : Bool). record a { instantiated = z }) e
    ∙ (ap (λ (z : Bool). record b { started = z; levels = a.levels; items = a.items; top = a.top }) f
    ∙ (ap (λ (z : List ℕ). record b { levels = z; items = a.items; top = a.top }) g
    ∙ (ap (λ (z : List Held). record b { items = z; top = a.top }) h ∙ ap (λ (z : List ℕ). record b { top = z }) i)))

-- the event neither asks for an operation nor moves one, and no attempt is done by it
abbrev pub leaves_holdings : EventKind → Bool
leaves_holdings (Asked a) = false
leaves_holdings (Moved o to) = false
leaves_holdings (Settled t (Done name)) = false
leaves_holdings _ = true

not_done : (k : EventKind) → leaves_holdings k ≡ true → is_done k ≡ false
not_done (Settled t (Done name)) e = cc
not_done (Settled t _) e = refl
not_done _ e = refl

-- what such an event leaves
holding-stays : (width m : ℕ) (H : List Event) (time : ℕ) (k : EventKind) (i : ℕ) (d : Vnfd) → IsLegalWithin width m H
    → IsAllowedWithin width m H k → leaves_holdings k ≡ true
    → holding d (event time k ∷ H) i ≡ holding d H i
unfolding moving
holding-stays width m H time (Asked a) i d legal allowed e = cc
holding-stays width m H time (Moved o to) i d legal allowed e = cc
holding-stays width m H time k i d legal allowed e = ap (λ (ys : List Held). record (holding d H i) { items = ys })
    (others_leave width m H time k i d legal allowed (not_done k e))

-- what stands of an instance when it is created
holding-new : (width m : ℕ) (H : List Event) (time i : ℕ) (vnfd : List ℕ) (name text : Option (List ℕ)) (d : Vnfd) → IsLegalWithin width m H
    → IsAllowedWithin width m H (Created i vnfd name text) → holding d (event time (Created i vnfd name text) ∷ H) i
    ≡ first_holding (Some d)
unfolding moving
holding-new width m H time i vnfd name text d legal allowed =
    let number = allowed.number in
    hold_by _ _
    (ap (λ (bs : List Bool). unwrap_or (first bs) false) (unmoved instantiates width m H legal i (omega (arith, number))))
    (ap (λ (bs : List Bool). unwrap_or (first bs) false) (unmoved starts_or_stops width m H legal i (omega (arith, number))))
    (ap (levels_from d) (unmoved sets_levels width m H legal i (omega (arith, number))) ∙ none_levels d.aspects)
    (new_holds_nothing width m H time i vnfd name text d legal allowed)
    (new_tops width m H i d legal (omega (arith, number)))

asked_when : (b : Bool) (h : Holding) (ts : List ℕ) → record h { top = cond b ts h.top } ≡ cond b (record h { top = ts }) h
asked_when true h ts = refl
asked_when false h ts = refl

-- what an ask makes of a holding
holding-asked : (width m : ℕ) (H : List Event) (time i : ℕ) (a : Operation) (d : Vnfd) → IsLegalWithin width m H
    → IsAllowedWithin width m H (Asked a)
    → holding d (event time (Asked a) ∷ H) i ≡ cond (a.instance == i)
    (record (holding d H i) { top = raised a.changes (holding d H i).top }) (holding d H i)
unfolding moving
holding-asked width m H time i a d legal allowed =
    hold_by _ (record (holding d H i) { top = cond (a.instance == i) (raised a.changes (holding d H i).top) (holding d H i).top }) refl refl
    refl
    (others_leave width m H time (Asked a) i d legal allowed refl) (tops-asked H time i a d)
    ∙ asked_when (a.instance == i) (holding d H i) (raised a.changes (holding d H i).top)

-- what the end of an operation makes of a holding
abbrev end_with : EndEffect → List ℕ → Holding → Holding
end_with e aim h = record h {
  instantiated = unwrap_or e.instantiated h.instantiated;
  started = unwrap_or e.started h.started;
  levels =
      cond e.levels aim h.levels;
}

ended_when : (b : Bool) (e : EndEffect) (aim : List ℕ) (h : Holding)
    → record h {
      instantiated = unwrap_or (cond b e.instantiated None) h.instantiated;
      started =
          unwrap_or (cond b e.started None) h.started;
      levels = cond b (cond e.levels aim h.levels) h.levels;
    }
    ≡ cond b (end_with e aim h) h
ended_when true e aim h = refl
ended_when false e aim h = refl

-- what a move makes of a holding
holding-moved : (width m : ℕ) (H : List Event) (time i o : ℕ) (to : OpState) (a : Operation) (d : Vnfd) → IsLegalWithin width m H
    → IsAllowedWithin width m H (Moved o to)
    → operation H o ≡ Some a
    → holding d (event time (Moved o to) ∷ H) i ≡ cond (a.instance == i)
    (end_with (end_effect a.ask to) (target d (levels d H i) a.ask) (holding d H i)) (holding d H i)
holding-moved width m H time i o to a d legal allowed e =
    hold_by _ (record (holding d H i) {
      instantiated = unwrap_or (cond (a.instance == i) (instantiates a.ask to) None) (holding d H i).instantiated;
      started = unwrap_or (cond (a.instance == i) (starts_or_stops a.ask to) None) (holding d H i).started;
      levels = cond (a.instance == i) (cond (is_some (sets_levels a.ask to)) (target d (levels d H i) a.ask) (levels d H i)) (levels d H i);
    })
    (told_move instantiates H time i o to a e) (told_move starts_or_stops H time i o to a e) (levels-moved d H time i o to a e)
    (others_leave width m H time (Moved o to) i d legal allowed refl) refl
    ∙ ended_when (a.instance == i) (end_effect a.ask to) (target d (levels d H i) a.ask) (holding d H i)

-- what an attempt that is done makes of a holding
holding-done : (width m : ℕ) (H : List Event) (time : ℕ) (t : Tag) (name : List ℕ) (a : Operation) (k : Change) (i : ℕ) (d : Vnfd)
    → IsLegalWithin width m H
    → IsAllowedWithin width m H (Settled t (Done name)) → operation H t.occ ≡ Some a → slice_get a.changes t.change ≡ Some k
    → descriptor H i ≡ Some d
    → holding d (event time (Settled t (Done name)) ∷ H) i
    ≡ cond (a.instance == i) (record (holding d H i) {
      items = once_done (verb_done t.way k.verb) k.def name
          (place_made H t t.way a.instance k.def) (items d H i);
    }) (holding d H i)
unfolding moving
holding-done width m H time t name a k i d legal allowed found at described = by_test (a.instance == i)
    (λ same.
    let is : a.instance ≡ i = eqb-true a.instance i same in
    let law = items_follow width m H time t name a k d legal allowed found at (ap (descriptor H) is ∙ described) in
    let ours : items d (event time (Settled t (Done name)) ∷ H) i ≡ once_done (verb_done t.way k.verb) k.def name
    (place_made H t t.way a.instance k.def) (items d H i) =
    ap (items d (event time (Settled t (Done name)) ∷ H)) (sym is)
    ∙ (law.items ∙ ap (λ (n : ℕ). once_done (verb_done t.way k.verb) k.def name (place_made H t t.way a.instance k.def) (items d H n)) is)
    in
    ap (λ (ys : List Held). record (holding d H i) { items = ys }) ours
    ∙ ap (λ (b : Bool). cond b (record (holding d H i) {
      items = once_done (verb_done t.way k.verb) k.def name
          (place_made H t t.way a.instance k.def) (items d H i);
    }) (holding d H i)) (sym same))
    (λ other.
    ap (λ (ys : List Held). record (holding d H i) { items = ys }) (others_stay width m H time t name a i d legal allowed found other)
    ∙ ap (λ (b : Bool). cond b (record (holding d H i) {
      items = once_done (verb_done t.way k.verb) k.def name
          (place_made H t t.way a.instance k.def) (items d H i);
    }) (holding d H i)) (sym other))

-- an attempt that is done without an effect
holding-idle : (H : List Event) (time : ℕ) (t : Tag) (name : List ℕ) (i : ℕ) (d : Vnfd) → effect_in H (Settled t (Done name)) ≡ None
    → holding d (event time (Settled t (Done name)) ∷ H) i ≡ holding d H i
unfolding moving
holding-idle H time t name i d none =
    ap (λ (ys : List Held). record (holding d H i) { items = ys })
    (filter_map-same (held_at H i) (held_at (event time (Settled t (Done name)) ∷ H) i) (defs_up_to d (top H i))
    (λ x among. held_same H (event time (Settled t (Done name)) ∷ H) i x (rw none refl) (λ y h. refl)))

-- the row of an instance follows what becomes of its holding
row-follows : (width m : ℕ) (H : List Event) (time : ℕ) (k : EventKind) (x : CreatedInstance) (h : InstanceRow → InstanceRow)
    → IsLegalWithin width m H → IsAllowedWithin width m H k
    → IsIn x (creations H)
    → ((d : Vnfd) → descriptor H x.instance ≡ Some d → row_with x (holding d (event time k ∷ H) x.instance)
    ≡ h (row_with x (holding d H x.instance)))
    → instance_row (event time k ∷ H) x ≡ h (instance_row H x)
row-follows width m H time k x h legal allowed among f =
    let named = named_of width m H x legal among in
    let later : descriptor_named (event time k ∷ H) x.vnfd ≡ Some named.0 = named-next width m H time k x.vnfd named.0 allowed named.1 in
    let made : creation H x.instance ≡ Some x = find-own (λ x. x.instance) (creations H) x (instances_counted width m H legal) among in
    let described : descriptor H x.instance ≡ Some named.0 = ap (λ (c : Option CreatedInstance).
    option_and_then (λ c. descriptor_named H c.vnfd) c) made ∙ named.1 in
    ap (λ (y : Option Vnfd). row_with x (option_map_or (λ d. holding d (event time k ∷ H) x.instance) y unheld)) later
    ∙ (f named.0 described ∙ ap h (sym (ap (λ (y : Option Vnfd). row_with x (option_map_or (λ d. holding d H x.instance) y unheld))
    named.1)))

-- a row that stays
pub row-stays : (width m : ℕ) (H : List Event) (time : ℕ) (k : EventKind) (x : CreatedInstance) → IsLegalWithin width m H
    → IsAllowedWithin width m H k → leaves_holdings k ≡ true
    → IsIn x (creations H) → instance_row (event time k ∷ H) x ≡ instance_row H x
row-stays width m H time k x legal allowed e among =
    row-follows width m H time k x (λ r. r) legal allowed among (λ d described.
    ap (row_with x) (holding-stays width m H time k x.instance d legal allowed e))

-- the row of an instance when it is created
pub row-new : (width m : ℕ) (H : List Event) (time i : ℕ) (vnfd : List ℕ) (name text : Option (List ℕ)) → IsLegalWithin width m H
    → IsAllowedWithin width m H (Created i vnfd name text)
    → instance_row (event time (Created i vnfd name text) ∷ H) (record { instance = i; vnfd = vnfd; name = name; text = text })
    ≡ first_instance (descriptor_named H vnfd) i vnfd name text
row-new width m H time i vnfd name text legal allowed =
    let x : CreatedInstance = record { instance = i; vnfd = vnfd; name = name; text = text } in
    let named = some_value (descriptor_named H vnfd) allowed.onboarded in
    ap (λ (y : Option Vnfd). row_with x (option_map_or (λ d. holding d (event time (Created i vnfd name text) ∷ H) i) y unheld)) named.1
    ∙ (ap (row_with x) (holding-new width m H time i vnfd name text named.0 legal allowed)
    ∙ ap (λ (y : Option Vnfd). row_with x (first_holding y)) (sym named.1))

row_cond : (x : CreatedInstance) (n : ℕ) (g h : Holding) → row_with x (cond (n == x.instance) g h)
    ≡ cond (x.instance == n) (row_with x g) (row_with x h)
row_cond x n g h = inside (n == x.instance) ∙ ap (λ (b : Bool). cond b (row_with x g) (row_with x h)) (flip n x.instance) where
  inside : (b : Bool) → row_with x (cond b g h) ≡ cond b (row_with x g) (row_with x h)
  inside true = refl
  inside false = refl

-- what an ask makes of the row of an instance
pub row-asked : (width m : ℕ) (H : List Event) (time : ℕ) (a : Operation) (x : CreatedInstance) → IsLegalWithin width m H
    → IsAllowedWithin width m H (Asked a) → IsIn x (creations H)
    → instance_row (event time (Asked a) ∷ H) x ≡ asked a.instance a.changes (instance_row H x)
row-asked width m H time a x legal allowed among =
    row-follows width m H time (Asked a) x (asked a.instance a.changes) legal allowed among
    (λ d described.
    ap (row_with x) (holding-asked width m H time x.instance a d legal allowed)
    ∙ row_cond x a.instance (record (holding d H x.instance) { top = raised a.changes (holding d H x.instance).top })
    (holding d H x.instance))

-- what is kept of an operation says what a move to a state says
end-law : (H : List Event) (ask : Ask) (to : OpState) (a : Operation) → a.ask ≡ ask → end_of to (going_of H a) ≡ end_effect ask to
end-law H ask Completed a is = ap (λ (x : Ask). end_effect x Completed) is
end-law H ask Failed a is = ap (λ (x : Ask). end_effect x Failed) is
end-law H (Instantiate flavour level) _ a is = refl
end-law H (Scale way aspect steps) _ a is = refl
end-law H (ScaleToLevel aim) _ a is = refl
end-law H (Heal cause named) _ a is = refl
end-law H (Operate started stop) _ a is = refl
end-law H (Terminate mode timeout) _ a is = refl

aim_by : (H : List Event) (a : Operation) (i : ℕ) (d : Vnfd) → descriptor H i ≡ Some d → a.instance ≡ i
    → target d (levels d H i) a.ask ≡ aim H a
aim_by H a i d described is =
    ap (λ (n : ℕ). target d (levels d H n) a.ask) (sym is)
    ∙ sym (ap (λ (y : Option Vnfd). option_map_or (λ d. target d (levels d H a.instance) a.ask) y []) (ap (descriptor H) is ∙ described))

-- what a move makes of the row of an instance
pub row-moved : (width m : ℕ) (H : List Event) (time o : ℕ) (to : OpState) (a : Operation) (x : CreatedInstance) → IsLegalWithin width m H
    → IsAllowedWithin width m H (Moved o to)
    → operation H o ≡ Some a → IsIn x (creations H)
    → instance_row (event time (Moved o to) ∷ H) x ≡ ended a.instance (end_of to (going_of H a)) (aim H a) (instance_row H x)
row-moved width m H time o to a x legal allowed e among =
    row-follows width m H time (Moved o to) x (ended a.instance (end_of to (going_of H a)) (aim H a)) legal allowed among
    (λ d described.
    let i = x.instance in
    let h : Holding = holding d H i in
    ap (row_with x)
    (holding-moved width m H time i o to a d legal allowed e
    ∙ by_test (a.instance == i)
    (λ same. ap (λ (ns : List ℕ). cond (a.instance == i) (end_with (end_effect a.ask to) ns h) h)
    (aim_by H a i d described (eqb-true a.instance i same)))
    (λ other. rw other refl))
    ∙ (row_cond x a.instance (end_with (end_effect a.ask to) (aim H a) h) h
    ∙ ap (λ (n : EndEffect). ended a.instance n (aim H a) (row_with x h)) (sym (end-law H a.ask to a refl))))

-- a move that ends nothing says nothing
pub not_ended : (g : Going) (to : OpState) (i : ℕ) (aim : List ℕ) (r : InstanceRow) → is_final to ≡ false → ended i (end_of to g) aim r ≡ r
not_ended g Completed i aim r e = cc
not_ended g Failed i aim r e = cc
not_ended g RolledBack i aim r e = cc
not_ended g _ i aim r e = by_test (r.number == i) (λ same. rw same refl) (λ other. rw other refl)

-- where nothing is made it is all one at which place
at_place : (v : Verb) (x : Def) (name : List ℕ) (p q : Option Place) (ys : List Held) → (v ≡ Create → p ≡ q)
    → once_done v x name p ys ≡ once_done v x name q ys
at_place Create x name p q ys f = ap (λ (y : Option Place). once_done Create x name y ys) (f refl)
at_place Remove x name p q ys f = refl
at_place Start x name p q ys f = refl
at_place Stop x name p q ys f = refl

-- what an attempt that is done makes of the row of an instance
pub row-done : (width m : ℕ) (H : List Event) (time : ℕ) (t : Tag) (name : List ℕ) (a : Operation) (k : Change) (at : Option Place)
    (x : CreatedInstance) → IsLegalWithin width m H
    → IsAllowedWithin width m H (Settled t (Done name)) → operation H t.occ ≡ Some a → slice_get a.changes t.change ≡ Some k
    → (verb_done t.way k.verb ≡ Create → place_made H t t.way a.instance k.def ≡ at) → IsIn x (creations H)
    → instance_row (event time (Settled t (Done name)) ∷ H) x
    ≡ after_work (record { instance = a.instance; verb = verb_done t.way k.verb; def = k.def; resource = name; place = at })
    (instance_row H x)
row-done width m H time t name a k at x legal allowed found change places among =
    row-follows width m H time (Settled t (Done name)) x (after_work
    (record { instance = a.instance; verb = verb_done t.way k.verb; def = k.def; resource = name; place = at })) legal allowed among
    (λ d described.
    let h : Holding = holding d H x.instance in
    ap (row_with x)
    (holding-done width m H time t name a k x.instance d legal allowed found change described
    ∙ ap (λ (ys : List Held). cond (a.instance == x.instance) (record h { items = ys }) h)
    (at_place (verb_done t.way k.verb) k.def name (place_made H t t.way a.instance k.def) at h.items places))
    ∙ row_cond x a.instance (record h { items = once_done (verb_done t.way k.verb) k.def name at h.items }) h)

-- a row that an attempt without an effect leaves
pub row-idle : (width m : ℕ) (H : List Event) (time : ℕ) (t : Tag) (name : List ℕ) (x : CreatedInstance) → IsLegalWithin width m H
    → IsAllowedWithin width m H (Settled t (Done name)) → effect_in H (Settled t (Done name)) ≡ None → IsIn x (creations H)
    → instance_row (event time (Settled t (Done name)) ∷ H) x ≡ instance_row H x
row-idle width m H time t name x legal allowed none among =
    row-follows width m H time (Settled t (Done name)) x (λ r. r) legal allowed among
    (λ d described. ap (row_with x) (holding-idle H time t name x.instance d none))
