-- What the row of an instance says of it.
use Rattle.std.proofs.Common.{◌≡◌, ◌∙◌, ◌↔◌, ℕ, List, Bool, true, false, cond, not, Option, None, Some, refl, ap, sym, option_map}
use Rattle.lcm_events.specs.declared.events.Event.{Event}
use Rattle.lcm_events.specs.declared.descriptor.Vnfd.{Vnfd}
use Rattle.lcm_events.specs.declared.held.Holding.{Holding}
use Rattle.lcm_model.specs.Instances.{holding, is_instantiated}
use Rattle.lcm_model.specs.Lives.{CreatedInstance, creation, creations, is_live}
use Rattle.lcm_laws.proofs.Lists.{not-false, not-true}
use Rattle.lcm_laws.proofs.SettledLaws.{found_number}
use Rattle.instance_table.specs.Rows.{instance, instance_row}
use Rattle.instance_table.specs.declared.rows.InstanceRow.{InstanceRow}

chosen : {A : Type 0} → (b : Bool) (x : Option A) (r : A) → cond b x None ≡ Some r → (b ≡ true) × (x ≡ Some r)
chosen true x r e = (refl, e)
chosen false x r e = cc

mapped : {A B : Type 0} → (f : A → B) (x : Option A) (y : B) → option_map f x ≡ Some y → (a : A) × (x ≡ Some a) × (f a ≡ y)
mapped f None y e = cc
mapped f (Some a) y e = (a, refl, cc)

-- the instance whose row is found is live, and the row is that of its creation
pub row_found : (H : List Event) (i : ℕ) (r : InstanceRow) → instance H i ≡ Some r
    → (x : CreatedInstance) × (is_live H i ≡ true) × (creation H i ≡ Some x) × (x.instance ≡ i) × (instance_row H x ≡ r)
row_found H i r e =
    let live = chosen (is_live H i) (option_map (instance_row H) (creation H i)) r e in
    let mine = mapped (instance_row H) (creation H i) r live.1 in
    (mine.0, live.0, mine.1, found_number (λ x. x.instance) (creations H) i mine.0 mine.1, mine.2)

-- whether an instance with this row is live and NOT_INSTANTIATED
pub idle_found : (H : List Event) (i : ℕ) (r : InstanceRow) (d : Vnfd) → instance H i ≡ Some r → r.holding ≡ holding d H i
    → (not r.holding.instantiated ≡ true) ↔ (is_live H i ≡ true) × (is_instantiated H i ≡ false)
idle_found H i r d e held =
    let mine = row_found H i r e in
    let same : is_instantiated H i ≡ r.holding.instantiated = sym (ap (λ (h : Holding). h.instantiated) held) in
    (λ h. (mine.1, same ∙ not-true r.holding.instantiated h), λ h. not-false r.holding.instantiated (sym same ∙ h.1))
