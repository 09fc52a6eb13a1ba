-- The table of a body's members, in the order in which they are checked, and what is wrong first (own rule over SOL 003
-- 5.5.2).
use Rattle.std.specs.Prelude.{◌≡◌, List, [], ◌∷◌, ℕ, codes, filter_map, if◌then◌else◌, is_some, option_and_then}
use Rattle.std.specs.Prelude.{slice_get, Bool, true, false, Option, Some, None, Result, Ok, Err}
use Rattle.std.specs.Option.{option_map_or}
use Rattle.serde_json.specs.Data.{Data}
use Rattle.json_bodies.specs.Body.{cancel_mode_in, line_in, member_of, name_in, some_name_in}
use Rattle.json_bodies.specs.Forms.{list_in, notice_in, objects_in, operation_type_in, power_in, state_in, stop_in}
use Rattle.json_bodies.specs.Forms.{way_in, whole_in}
use Rattle.serde_json.specs.Find.{as_object}
use Rattle.json_bodies.specs.declared.body.BodyFault.{BodyFault}
use Rattle.json_bodies.specs.declared.body.BodyFault.TheVariants.{Lacks, Wrong}

-- a row of a body's table: what is wrong with an object in one respect, where something is
abbrev pub Row : Type 0
Row = Data → Option BodyFault

-- what is wrong with the value of the member of this name: it hasn't this form
abbrev pub of_form : {A : Type 0} → (Data → Option A) → List ℕ → Data → Option BodyFault
of_form form name d = if is_some (form d) then None else Some (Wrong name)

-- the first fault of some things, by what is wrong with each
abbrev pub first_of : {A : Type 0} → (A → Option BodyFault) → List A → Option BodyFault
first_of fault xs = slice_get (filter_map fault xs) 0

-- what is wrong first with an object, in the table's order
abbrev pub first_fault : List Row → Data → Option BodyFault
first_fault table d = first_of (λ row. row d) table

-- what is wrong inside the value of the member of this name: it is no list of objects, or what is wrong first with the
-- first of them that has a fault by this table
abbrev pub of_objects : List Row → List ℕ → Data → Option BodyFault
of_objects table name d = option_map_or (first_of (first_fault table)) (objects_in d) (Some (Wrong name))

-- what is wrong with the value of the member of this name: it is no object, or what is wrong first with that by this
-- table
abbrev pub of_object : List Row → List ℕ → Data → Option BodyFault
of_object table name d = if is_some (as_object d) then first_fault table d else Some (Wrong name)

-- a member that is needed, by what may be wrong with its value: it is missing, or that
abbrev pub needed_row : (List ℕ → Data → Option BodyFault) → List ℕ → Row
needed_row inside name d = option_map_or (inside name) (member_of name d) (Some (Lacks name))

-- a member that may be absent, by what may be wrong with its value
abbrev pub optional_row : (List ℕ → Data → Option BodyFault) → List ℕ → Row
optional_row inside name d = option_and_then (inside name) (member_of name d)

-- exactly one of two members is there: with neither the first is missing, with both the second is wrong
abbrev pub one_of : List ℕ → List ℕ → Bool → Bool → Option BodyFault
one_of first second false false = Some (Lacks first)
one_of first second true false = None
one_of first second false true = None
one_of first second true true = Some (Wrong second)

abbrev pub one_of_row : List ℕ → List ℕ → Row
one_of_row first second d = one_of first second (is_some (member_of first d)) (is_some (member_of second d))

-- the fault of a reading, where it has one
abbrev pub fault_in : {A : Type 0} → Result A BodyFault → Option BodyFault
fault_in (Ok a) = None
fault_in (Err fault) = Some fault

-- the table of a create request's body (SOL 003 5.5.2.3, CreateVnfRequest)
abbrev pub create_table : List Row
create_table =
    needed_row (of_form some_name_in) (codes "vnfdId")
    ∷ optional_row (of_form name_in) (codes "vnfInstanceName")
    ∷ optional_row (of_form line_in) (codes "vnfInstanceDescription")
    ∷ []

-- the table of an instantiate request's body (SOL 003 5.5.2.4, InstantiateVnfRequest)
abbrev pub instantiate_table : List Row
instantiate_table =
    needed_row (of_form some_name_in) (codes "flavourId")
    ∷ optional_row (of_form name_in) (codes "instantiationLevelId")
    ∷ []

-- the table of a cancel request's body (SOL 003 5.5.2.14, CancelMode)
abbrev pub cancel_table : List Row
cancel_table = needed_row (of_form cancel_mode_in) (codes "cancelMode") ∷ []

-- the table of a scale request's body (SOL 003 5.5.2.5, ScaleVnfRequest)
abbrev pub scale_table : List Row
scale_table =
    needed_row (of_form way_in) (codes "type")
    ∷ needed_row (of_form some_name_in) (codes "aspectId")
    ∷ optional_row (of_form whole_in) (codes "numberOfSteps")
    ∷ []

-- the table of the level of an aspect (SOL 003 5.5.2.6, ScaleVnfToLevelRequest, scaleInfo)
abbrev pub aspect_level_table : List Row
aspect_level_table =
    needed_row (of_form some_name_in) (codes "aspectId")
    ∷ needed_row (of_form whole_in) (codes "scaleLevel")
    ∷ []

-- the table of a body that asks to scale to a level (SOL 003 5.5.2.6, ScaleVnfToLevelRequest)
abbrev pub scale_to_level_table : List Row
scale_to_level_table =
    optional_row (of_form name_in) (codes "instantiationLevelId")
    ∷ optional_row (of_objects aspect_level_table) (codes "scaleInfo")
    ∷ one_of_row (codes "instantiationLevelId") (codes "scaleInfo")
    ∷ []

-- the table of a heal request's body (SOL 003 5.5.2.9, HealVnfRequest; SOL 002 for vnfcInstanceId; own limit)
abbrev pub heal_table : List Row
heal_table =
    optional_row (of_form line_in) (codes "cause")
    ∷ optional_row (of_form (list_in 512 name_in)) (codes "vnfcInstanceId")
    ∷ []

-- the table of an operate request's body (SOL 003 5.5.2.10, OperateVnfRequest)
abbrev pub operate_table : List Row
operate_table =
    needed_row (of_form power_in) (codes "changeStateTo")
    ∷ optional_row (of_form stop_in) (codes "stopType")
    ∷ []

-- the table of a terminate request's body (SOL 003 5.5.2.8, TerminateVnfRequest)
abbrev pub terminate_table : List Row
terminate_table =
    needed_row (of_form stop_in) (codes "terminationType")
    ∷ optional_row (of_form whole_in) (codes "gracefulTerminationTimeout")
    ∷ []

-- the table of the instances that a filter is about (SOL 003 5.5.3, VnfInstanceSubscriptionFilter; own limit)
abbrev pub instances_table : List Row
instances_table =
    optional_row (of_form (list_in 64 name_in)) (codes "vnfdIds")
    ∷ optional_row (of_form (list_in 64 name_in)) (codes "vnfInstanceIds")
    ∷ optional_row (of_form (list_in 64 name_in)) (codes "vnfInstanceNames")
    ∷ []

-- the table of a filter (SOL 003 5.5.3, LifecycleChangeNotificationsFilter; own limit)
abbrev pub filter_table : List Row
filter_table =
    optional_row (of_object instances_table) (codes "vnfInstanceSubscriptionFilter")
    ∷ optional_row (of_form (list_in 64 notice_in)) (codes "notificationTypes")
    ∷ optional_row (of_form (list_in 64 operation_type_in)) (codes "operationTypes")
    ∷ optional_row (of_form (list_in 64 state_in)) (codes "operationStates")
    ∷ []

-- the table of the body of a request to subscribe (SOL 003 5.5.2.15, LccnSubscriptionRequest)
abbrev pub subscription_table : List Row
subscription_table =
    needed_row (of_form line_in) (codes "callbackUri")
    ∷ optional_row (of_object filter_table) (codes "filter")
    ∷ []

-- an object is refused as a body for what is wrong first by its table, and for nothing else
abbrev pub RefusesFirstFault : {A : Type 0} → (Data → Result A BodyFault) → List Row → Type 0
RefusesFirstFault body table = (d : Data) → fault_in (body d) ≡ first_fault table d
