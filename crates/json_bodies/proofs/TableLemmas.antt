-- What a reading is refused for is what is wrong first by its table.
use Rattle.std.proofs.Common.{◌≡◌, ◌∙◌, List, [], ◌∷◌, ℕ, Bool, true, Option, Some, None, Result, Ok, Err, ap, refl}
use Rattle.std.specs.Prelude.{codes, filter_map, if◌then◌else◌, is_some, option_and_then, slice_get}
use Rattle.std.specs.List.{cons_option}
use Rattle.std.specs.Option.{option_map_or}
use Rattle.serde_json.specs.Data.{Data}
use Rattle.lcm_events.specs.declared.asks.AspectLevel.{AspectLevel}
use Rattle.json_bodies.specs.Body.{and_then, by_form, member_of, needed, needed_member, needed_value, optional, optional_read}
use Rattle.json_bodies.specs.Forms.{objects_in}
use Rattle.json_bodies.specs.Operations.{each_read, objects_read, one_aim}
use Rattle.json_bodies.specs.Tables.{RefusesFirstFault, Row, fault_in, first_fault, first_of, needed_row, of_form, of_objects, one_of}
use Rattle.json_bodies.specs.Tables.{optional_row}
use Rattle.json_bodies.specs.declared.body.BodyFault.{BodyFault}
use Rattle.json_bodies.specs.declared.body.BodyFault.TheVariants.{Lacks, Wrong}

value_fault : {A : Type 0} (name : List ℕ) (said : Option A) → fault_in (needed_value name said)
    ≡ (if is_some said then None else Some (Wrong name))
value_fault name None = refl
value_fault name (Some a) = refl

-- what is done with what was read is no fault
pub fault_stays : {A B : Type 0} (read : Result A BodyFault) (h : A → B) → fault_in (and_then read (λ a. Ok (h a))) ≡ fault_in read
fault_stays (Ok a) h = refl
fault_stays (Err fault) h = refl

-- what is wrong with a member that is needed is what its row says
pub needed_fault : {A : Type 0} (form : Data → Option A) (name : List ℕ) (d : Data)
    → fault_in (needed form name d) ≡ needed_row (of_form form) name d
needed_fault form name d = by (member_of name d) where
  by : (o : Option Data) → fault_in (needed_member form name o)
      ≡ option_map_or (of_form form name) o (Some (Lacks name))
  by None = refl
  by (Some value) = value_fault name (form value)

-- and so it is with one that may be absent, whatever is read of its value
pub inside_fault : {A : Type 0} (inside : List ℕ → Data → Result A BodyFault) (wrong : List ℕ → Data → Option BodyFault) (name : List ℕ)
    (o : Option Data) → ((d : Data) → fault_in (inside name d) ≡ wrong name d)
    → fault_in (optional_read inside name o) ≡ option_and_then (wrong name) o
inside_fault inside wrong name None same = refl
inside_fault inside wrong name (Some d) same = fault_stays (inside name d) Some ∙ same d

pub optional_fault : {A : Type 0} (form : Data → Option A) (name : List ℕ) (d : Data)
    → fault_in (optional form name d) ≡ optional_row (of_form form) name d
optional_fault form name d =
    inside_fault (by_form form) (of_form form) name (member_of name d) (λ value. value_fault name (form value))

-- a reading that reads one member and then the others is refused for what is wrong with the one, and else for what is wrong first with the
-- others
pub first_then : {A B : Type 0} (first : Result A BodyFault) (next : A → Result B BodyFault) (wrong : Option BodyFault)
    (others : List BodyFault) → fault_in first ≡ wrong
    → ((a : A) → first ≡ Ok a → fault_in (next a) ≡ slice_get others 0)
    → fault_in (and_then first next) ≡ slice_get (cons_option wrong others) 0
first_then (Ok a) next wrong others is behind =
    behind a refl ∙ ap (λ (o : Option BodyFault). slice_get (cons_option o others) 0) is
first_then (Err fault) next wrong others is behind = ap (λ (o : Option BodyFault). slice_get (cons_option o others) 0) is

-- a reading of one member is refused for what is wrong with it
pub first_alone : {A : Type 0} (only : Result A BodyFault) (wrong : Option BodyFault) → fault_in only ≡ wrong
    → fault_in only ≡ slice_get (cons_option wrong []) 0
first_alone only None is = is
first_alone only (Some fault) is = is

-- a reading of objects is refused for what is wrong first with the first that has a fault by the table of one
pub each_fault : {A : Type 0} (object : Data → Result A BodyFault) (table : List Row) → RefusesFirstFault object table
    → (ds : List Data) → fault_in (each_read object ds) ≡ first_of (first_fault table) ds
each_fault object table same [] = refl
each_fault object table same (d ∷ ds) =
    first_then (object d) _ (first_fault table d) (filter_map (first_fault table) ds) (same d)
    (λ a _. fault_stays (each_read object ds) (λ more. a ∷ more) ∙ each_fault object table same ds)

pub objects_fault : {A : Type 0} (object : Data → Result A BodyFault) (table : List Row) → RefusesFirstFault object table
    → (name : List ℕ) (d : Data) → fault_in (objects_read object name (objects_in d)) ≡ of_objects table name d
objects_fault object table same name d = by (objects_in d) where
  by : (o : Option (List Data)) → fault_in (objects_read object name o)
      ≡ option_map_or (first_of (first_fault table)) o (Some (Wrong name))
  by None = refl
  by (Some ds) = each_fault object table same ds

-- a member that may be absent says something exactly where it is there
pub is_there : {A : Type 0} (inside : List ℕ → Data → Result A BodyFault) (name : List ℕ) (o : Option Data) (said : Option A)
    → optional_read inside name o ≡ Ok said → is_some said ≡ is_some o
is_there inside name None said e = cc
is_there {A = A} inside name (Some d) said e = by (inside name d) said e where
  by : (read : Result A BodyFault) (said : Option A) → and_then read (λ a. Ok (Some a)) ≡ Ok said → is_some said ≡ true
  by (Ok a) None e = cc
  by (Ok a) (Some b) e = refl
  by (Err fault) said e = cc

-- the aim of two members is refused where it isn't exactly one of them that is there
pub aim_fault : (level : Option (List ℕ)) (levels : Option (List AspectLevel)) (a b : Bool) → is_some level ≡ a → is_some levels ≡ b
    → fault_in (one_aim level levels) ≡ one_of (codes "instantiationLevelId") (codes "scaleInfo") a b
aim_fault None None a b is_a is_b = rw (← is_a, ← is_b) refl
aim_fault (Some level) None a b is_a is_b = rw (← is_a, ← is_b) refl
aim_fault None (Some levels) a b is_a is_b = rw (← is_a, ← is_b) refl
aim_fault (Some level) (Some levels) a b is_a is_b = rw (← is_a, ← is_b) refl
