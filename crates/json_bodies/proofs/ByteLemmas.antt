-- What bytes say as a body is never want of memory: that is the reader's alone.
use Rattle.std.proofs.Common.{List, [], ◌∷◌, ℕ, Bool, true, false, Option, Some, None, Result, Ok, Err}
use Rattle.std.specs.Prelude.{codes, if◌then◌else◌, is_some}
use Rattle.lcm_events.specs.declared.asks.AspectLevel.{AspectLevel}
use Rattle.serde_json.specs.Data.{Data}
use Rattle.json_bodies.specs.Body.{and_then, by_form, cancel_in, cancel_mode_in, cancel_of, create_in, create_of, document}
use Rattle.json_bodies.specs.Body.{instantiate_in, instantiate_of, line_in, member_of, name_in, needed, needed_member, needed_value}
use Rattle.json_bodies.specs.Body.{object_read, optional, optional_read, some_name_in}
use Rattle.json_bodies.specs.Forms.{list_in, notice_in, objects_in, operation_type_in, power_in, state_in, stop_in, way_in, whole_in}
use Rattle.json_bodies.specs.Subscribing.{about_in, filter_in, inside_object, instances_in, subscription_in, subscription_of, values_in}
use Rattle.serde_json.specs.Find.{as_object}
use Rattle.json_bodies.specs.Operations.{aspect_level_in, each_read, heal_in, heal_of, levels_in, objects_read, one_aim, operate_in}
use Rattle.json_bodies.specs.Operations.{operate_of, scale_in, scale_of, scale_to_level_in, scale_to_level_of, terminate_in, terminate_of}
use Rattle.json_bodies.specs.declared.body.BodyFault.{BodyFault}
use Rattle.json_bodies.specs.declared.body.BodyFault.TheVariants.{Lacks, Malformed, Memory, Wrong}

-- the reading doesn't speak of memory
abbrev pub IsOfBytes : {A : Type 0} → Result A BodyFault → Type 0
IsOfBytes (Ok a) = Unit {0}
IsOfBytes (Err Malformed) = Unit {0}
IsOfBytes (Err (Lacks name)) = Unit {0}
IsOfBytes (Err (Wrong name)) = Unit {0}
IsOfBytes (Err Memory) = ⊥

-- of two readings in a row
pub both_of_bytes : {A B : Type 0} (first : Result A BodyFault) (next : A → Result B BodyFault) → IsOfBytes first
    → ((a : A) → IsOfBytes (next a)) → IsOfBytes (and_then first next)
both_of_bytes (Ok a) next is behind = behind a
both_of_bytes (Err Malformed) next is behind = tt
both_of_bytes (Err (Lacks name)) next is behind = tt
both_of_bytes (Err (Wrong name)) next is behind = tt
both_of_bytes (Err Memory) next is behind = absurd is

-- of a member that is needed, and of one that may be absent
value_of_bytes : {A : Type 0} (name : List ℕ) (said : Option A) → IsOfBytes (needed_value name said)
value_of_bytes name None = tt
value_of_bytes name (Some a) = tt

needed_of_bytes : {A : Type 0} (form : Data → Option A) (name : List ℕ) (d : Data) → IsOfBytes (needed form name d)
needed_of_bytes form name d = by (member_of name d) where
  by : (o : Option Data) → IsOfBytes (needed_member form name o)
  by None = tt
  by (Some value) = value_of_bytes name (form value)

inside_of_bytes : {A : Type 0} (inside : List ℕ → Data → Result A BodyFault) (name : List ℕ) (o : Option Data)
    → ((d : Data) → IsOfBytes (inside name d)) → IsOfBytes (optional_read inside name o)
inside_of_bytes inside name None each = tt
inside_of_bytes inside name (Some d) each = both_of_bytes (inside name d) _ (each d) (λ a. tt)

optional_of_bytes : {A : Type 0} (form : Data → Option A) (name : List ℕ) (d : Data) → IsOfBytes (optional form name d)
optional_of_bytes form name d = inside_of_bytes (by_form form) name (member_of name d) (λ value. value_of_bytes name (form value))

-- of objects, and of a list of them
each_of_bytes : {A : Type 0} (object : Data → Result A BodyFault) → ((d : Data) → IsOfBytes (object d)) → (ds : List Data)
    → IsOfBytes (each_read object ds)
each_of_bytes object one [] = tt
each_of_bytes object one (d ∷ ds) =
    both_of_bytes (object d) _ (one d) (λ a. both_of_bytes (each_read object ds) _ (each_of_bytes object one ds) (λ more. tt))

objects_of_bytes : {A : Type 0} (object : Data → Result A BodyFault) → ((d : Data) → IsOfBytes (object d)) → (name : List ℕ)
    (o : Option (List Data)) → IsOfBytes (objects_read object name o)
objects_of_bytes object one name None = tt
objects_of_bytes object one name (Some ds) = each_of_bytes object one ds

-- of a JSON object
object_of_bytes : {A : Type 0} (body : Data → Result A BodyFault) (o : Option Data) → ((d : Data) → IsOfBytes (body d))
    → IsOfBytes (object_read body o)
object_of_bytes body None each = tt
object_of_bytes body (Some d) each = each d

pub create_of_bytes : (bytes : List ℕ) → IsOfBytes (create_of bytes)
create_of_bytes bytes = object_of_bytes create_in (document bytes) (λ d.
    both_of_bytes _ _ (needed_of_bytes some_name_in (codes "vnfdId") d) (λ vnfd.
    both_of_bytes _ _ (optional_of_bytes name_in (codes "vnfInstanceName") d) (λ name.
    both_of_bytes _ _ (optional_of_bytes line_in (codes "vnfInstanceDescription") d) (λ text. tt))))

pub instantiate_of_bytes : (bytes : List ℕ) → IsOfBytes (instantiate_of bytes)
instantiate_of_bytes bytes = object_of_bytes instantiate_in (document bytes) (λ d.
    both_of_bytes _ _ (needed_of_bytes some_name_in (codes "flavourId") d) (λ flavour.
    both_of_bytes _ _ (optional_of_bytes name_in (codes "instantiationLevelId") d) (λ level. tt)))

pub scale_of_bytes : (bytes : List ℕ) → IsOfBytes (scale_of bytes)
scale_of_bytes bytes = object_of_bytes scale_in (document bytes) (λ d.
    both_of_bytes _ _ (needed_of_bytes way_in (codes "type") d) (λ way.
    both_of_bytes _ _ (needed_of_bytes some_name_in (codes "aspectId") d) (λ aspect.
    both_of_bytes _ _ (optional_of_bytes whole_in (codes "numberOfSteps") d) (λ steps. tt))))

aspect_level_of_bytes : (d : Data) → IsOfBytes (aspect_level_in d)
aspect_level_of_bytes d =
    both_of_bytes _ _ (needed_of_bytes some_name_in (codes "aspectId") d) (λ aspect.
    both_of_bytes _ _ (needed_of_bytes whole_in (codes "scaleLevel") d) (λ level. tt))

aim_of_bytes : (level : Option (List ℕ)) (levels : Option (List AspectLevel)) → IsOfBytes (one_aim level levels)
aim_of_bytes None None = tt
aim_of_bytes (Some level) None = tt
aim_of_bytes None (Some levels) = tt
aim_of_bytes (Some level) (Some levels) = tt

pub scale_to_level_of_bytes : (bytes : List ℕ) → IsOfBytes (scale_to_level_of bytes)
scale_to_level_of_bytes bytes = object_of_bytes scale_to_level_in (document bytes) (λ d.
    both_of_bytes _ _ (optional_of_bytes name_in (codes "instantiationLevelId") d) (λ level.
    both_of_bytes _ _ (inside_of_bytes levels_in (codes "scaleInfo") (member_of (codes "scaleInfo") d) (λ value.
    objects_of_bytes aspect_level_in aspect_level_of_bytes (codes "scaleInfo") (objects_in value))) (λ levels.
    aim_of_bytes level levels)))

pub heal_of_bytes : (bytes : List ℕ) → IsOfBytes (heal_of bytes)
heal_of_bytes bytes = object_of_bytes heal_in (document bytes) (λ d.
    both_of_bytes _ _ (optional_of_bytes line_in (codes "cause") d) (λ cause.
    both_of_bytes _ _ (optional_of_bytes (list_in 512 name_in) (codes "vnfcInstanceId") d) (λ named. tt)))

pub operate_of_bytes : (bytes : List ℕ) → IsOfBytes (operate_of bytes)
operate_of_bytes bytes = object_of_bytes operate_in (document bytes) (λ d.
    both_of_bytes _ _ (needed_of_bytes power_in (codes "changeStateTo") d) (λ started.
    both_of_bytes _ _ (optional_of_bytes stop_in (codes "stopType") d) (λ stop. tt)))

pub terminate_of_bytes : (bytes : List ℕ) → IsOfBytes (terminate_of bytes)
terminate_of_bytes bytes = object_of_bytes terminate_in (document bytes) (λ d.
    both_of_bytes _ _ (needed_of_bytes stop_in (codes "terminationType") d) (λ mode.
    both_of_bytes _ _ (optional_of_bytes whole_in (codes "gracefulTerminationTimeout") d) (λ timeout. tt)))

pub cancel_of_bytes : (bytes : List ℕ) → IsOfBytes (cancel_of bytes)
cancel_of_bytes bytes = object_of_bytes cancel_in (document bytes) (λ d. needed_of_bytes cancel_mode_in (codes "cancelMode") d)

-- of an object
inside_object_of_bytes : {A : Type 0} (members : Data → Result A BodyFault) (name : List ℕ) (d : Data)
    → ((e : Data) → IsOfBytes (members e)) → IsOfBytes (inside_object members name d)
inside_object_of_bytes members name d each = by (is_some (as_object d)) where
  by : (b : Bool) → IsOfBytes (and_then (if b then Ok (tt {0}) else Err (Wrong name)) (λ is. members d))
  by true = each d
  by false = tt

-- of the values of a list
values_of_bytes : {A : Type 0} (form : Data → Option A) (name : List ℕ) (d : Data) → IsOfBytes (values_in form name d)
values_of_bytes form name d = both_of_bytes _ _ (optional_of_bytes (list_in 64 form) name d) (λ values. tt)

instances_of_bytes : (d : Data) → IsOfBytes (instances_in d)
instances_of_bytes d =
    both_of_bytes _ _ (values_of_bytes name_in (codes "vnfdIds") d) (λ vnfds.
    both_of_bytes _ _ (values_of_bytes name_in (codes "vnfInstanceIds") d) (λ instances.
    both_of_bytes _ _ (values_of_bytes name_in (codes "vnfInstanceNames") d) (λ names. tt)))

about_of_bytes : (d : Data) → IsOfBytes (about_in d)
about_of_bytes d =
    both_of_bytes _ _ (inside_of_bytes (inside_object instances_in) (codes "vnfInstanceSubscriptionFilter")
    (member_of (codes "vnfInstanceSubscriptionFilter") d) (λ value.
    inside_object_of_bytes instances_in (codes "vnfInstanceSubscriptionFilter") value instances_of_bytes)) (λ about. tt)

pub filter_of_bytes : (d : Data) → IsOfBytes (filter_in d)
filter_of_bytes d =
    both_of_bytes _ _ (about_of_bytes d) (λ about.
    both_of_bytes _ _ (values_of_bytes notice_in (codes "notificationTypes") d) (λ notices.
    both_of_bytes _ _ (values_of_bytes operation_type_in (codes "operationTypes") d) (λ operations.
    both_of_bytes _ _ (values_of_bytes state_in (codes "operationStates") d) (λ states. tt))))

pub subscription_of_bytes : (bytes : List ℕ) → IsOfBytes (subscription_of bytes)
subscription_of_bytes bytes = object_of_bytes subscription_in (document bytes) (λ d.
    both_of_bytes _ _ (needed_of_bytes line_in (codes "callbackUri") d) (λ callback.
    both_of_bytes _ _ (inside_of_bytes (inside_object filter_in) (codes "filter") (member_of (codes "filter") d) (λ value.
    inside_object_of_bytes filter_in (codes "filter") value filter_of_bytes)) (λ asked. tt)))
