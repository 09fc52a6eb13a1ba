-- Room for what stands, and what is found before it is looked for.
use Rattle.std.proofs.Common.{◌≡◌, ◌<◌, ◌==◌, ℕ, List, Option, None, Some, Result, Ok, Err, OnOk, refl, ap, subst, length, find, option_map}
use Rattle.std.specs.Prelude.{IfSome, option_and_then}
use Rattle.lcm_model.specs.Words.{IsIn}
use Rattle.lcm_laws.proofs.PlanHistory.{found_in}
use Rattle.held_items.specs.Items.{AreInOrder}
use Rattle.instance_table.specs.Rows.{Rows}
use Rattle.instance_table.specs.Steps.{AreOrdered, HasItemRoom, items_about, work_done, work_in}
use Rattle.instance_table.specs.declared.going.Going.{Going}
use Rattle.instance_table.specs.declared.rows.InstanceRow.{InstanceRow}
use Rattle.instance_table.specs.declared.work.Work.{Work}
use Rattle.lcm_events.specs.declared.attempts.Tag.{Tag}
use Rattle.lcm_events.specs.declared.changes.Change.{Change}
use Rattle.std.proofs.Common.{slice_get}
use Rattle.instance_table.specs.Steps.{work_of}

-- what follows where a call did its work
pub on_ok : {A B : Type 0} → (P Q : Type 0) (r : Result A B) → (P → Q) → OnOk r P → OnOk r Q
on_ok P Q (Ok x) f p = f p
on_ok P Q (Err x) f p = p

items_room : (room : ℕ) (z : Option InstanceRow) → IfSome z (λ r. length r.holding.items < room)
    → IfSome (option_map (λ r. r.holding.items) z) (λ ys. length ys < room)
items_room room None h = h
items_room room (Some r) h = h

about_by : (rs : Rows) (y : Option Going) (n room : ℕ) → option_map (λ g. g.instance) y ≡ Some n
    → IfSome (find (λ r. r.number == n) rs.instances) (λ r. length r.holding.items < room)
    → IfSome (option_and_then (λ g. option_map (λ r. r.holding.items) (find (λ r. r.number == g.instance) rs.instances)) y)
    (λ ys. length ys < room)
about_by rs None n room e h = cc
about_by rs (Some g) n room e h =
    let is : n ≡ g.instance = cc in
    items_room room (find (λ r. r.number == g.instance) rs.instances)
    (subst (λ (k : ℕ). IfSome (find (λ r. r.number == k) rs.instances) (λ r. length r.holding.items < room)) is h)

-- room for the items of its instance is room for those of an occurrence
pub room_about : (rs : Rows) (o n room : ℕ) → option_map (λ g. g.instance) (find (λ g. g.occ == o) rs.going) ≡ Some n
    → IfSome (find (λ r. r.number == n) rs.instances) (λ r. length r.holding.items < room)
    → IfSome (items_about rs o) (λ ys. length ys < room)
room_about rs o n room e h = about_by rs (find (λ g. g.occ == o) rs.going) n room e h

work_instance : (t : Tag) (name : List ℕ) (g : Going) (k : Option Change) (w : Work) → option_map (work_of t name g) k ≡ Some w
    → g.instance ≡ w.instance
work_instance t name g None w e = cc
work_instance t name g (Some k) w e = let is : work_of t name g k ≡ w = cc in ap (λ (z : Work). z.instance) is

has_room : (room : ℕ) (z : Option InstanceRow) → IfSome (option_map (λ r. r.holding.items) z) (λ ys. length ys < room)
    → ((r : InstanceRow) → z ≡ Some r → AreInOrder r.holding.items)
    → IfSome z (HasItemRoom room)
has_room room None h f = h
has_room room (Some r) h f = (h, f r refl)

work_by : (t : Tag) (name : List ℕ) (rs : Rows) (y : Option Going) (w : Work) (room : ℕ) → option_and_then (work_in t name) y ≡ Some w
    → IfSome (option_and_then (λ g. option_map (λ r. r.holding.items) (find (λ r. r.number == g.instance) rs.instances)) y)
    (λ ys. length ys < room)
    → ((r : InstanceRow) → IsIn r rs.instances → AreInOrder r.holding.items)
    → IfSome (find (λ r. r.number == w.instance) rs.instances) (HasItemRoom room)
work_by t name rs None w room e h f = cc
work_by t name rs (Some g) w room e h f =
    subst (λ (n : ℕ). IfSome (find (λ r. r.number == n) rs.instances) (HasItemRoom room))
    (work_instance t name g (slice_get g.changes t.change) w e)
    (has_room room (find (λ r. r.number == g.instance) rs.instances) h
    (λ r is. f r (found_in (λ r. r.number == g.instance) rs.instances r is)))

-- room for the items of an occurrence is room for what an attempt of it made
pub room_worked : (t : Tag) (name : List ℕ) (rs : Rows) (w : Work) (room : ℕ) → AreOrdered rs → work_done t name rs ≡ Some w
    → IfSome (items_about rs t.occ) (λ ys. length ys < room)
    → IfSome (find (λ r. r.number == w.instance) rs.instances) (HasItemRoom room)
room_worked t name rs w room ordered e h = work_by t name rs (find (λ g. g.occ == t.occ) rs.going) w room e h ordered.items
