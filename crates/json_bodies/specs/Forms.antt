-- The forms of the values that requests for operations have: whole numbers, words and lists (own rule).
use Rattle.std.specs.List.{filter_map, list_all}
use Rattle.std.specs.Prelude.{[], ◌∷◌, Bool, List, None, Option, Some, false, if◌then◌else◌, is_some, length, nat_le}
use Rattle.std.specs.Prelude.{option_and_then, option_map, true, ℕ}
use Rattle.lcm_events.specs.declared.asks.OpKind.TheVariants as kinds
use Rattle.lcm_events.specs.declared.asks.ScaleWay.{ScaleWay}
use Rattle.lcm_events.specs.declared.asks.ScaleWay.TheVariants.{In, Out}
use Rattle.lcm_events.specs.declared.asks.StopType.{StopType}
use Rattle.lcm_events.specs.declared.asks.StopType.TheVariants.{Forceful, Graceful}
use Rattle.lcm_events.specs.declared.filters.NoticeKind.{NoticeKind}
use Rattle.lcm_events.specs.declared.filters.NoticeKind.TheVariants.{Creation, Deletion, Occurrence}
use Rattle.lcm_events.specs.declared.filters.OperationType.{OperationType}
use Rattle.lcm_events.specs.declared.filters.OperationType.TheVariants.{ChangeExtConn, ModifyInfo, Of}
use Rattle.lcm_events.specs.declared.states.OpState.{OpState}
use Rattle.lcm_events.specs.declared.states.OpState.TheVariants.{Completed, Failed, FailedTemp, Processing, RolledBack}
use Rattle.lcm_events.specs.declared.states.OpState.TheVariants.{RollingBack, Starting}
use Rattle.serde_json.specs.Data.{Data, Items, item, no_items}
use Rattle.serde_json.specs.Find.{as_array, as_number, as_object, as_str, as_u64}
use Rattle.json_bodies.specs.Words.{notice_word, of_word, operation_type_word, power_word, state_word, stop_word}
use Rattle.json_bodies.specs.Words.{way_word}

-- the number, where it is at most 4,294,967,295
abbrev pub whole_number : ℕ → Option ℕ
whole_number n = if nat_le n 4294967295 then Some n else None

-- the whole number that a value is, where it is one that isn't too large
abbrev pub whole_in : Data → Option ℕ
whole_in d = option_and_then whole_number (option_and_then as_u64 (as_number d))

-- the way to scale that the text is the word of (SOL 003 5.5.2.5, ScaleVnfRequest, type)
abbrev pub way_text : List ℕ → Option ScaleWay
way_text text = of_word way_word (Out ∷ In ∷ []) text

abbrev pub way_in : Data → Option ScaleWay
way_in d = option_and_then way_text (as_str d)

-- the way to stop that the text is the word of (SOL 003 5.5.4, StopType)
abbrev pub stop_text : List ℕ → Option StopType
stop_text text = of_word stop_word (Forceful ∷ Graceful ∷ []) text

abbrev pub stop_in : Data → Option StopType
stop_in d = option_and_then stop_text (as_str d)

-- whether the text is the word for started, and not for stopped (SOL 003 5.5.4, VnfOperationalStateType)
abbrev pub power_text : List ℕ → Option Bool
power_text text = of_word power_word (true ∷ false ∷ []) text

abbrev pub power_in : Data → Option Bool
power_in d = option_and_then power_text (as_str d)

-- the kind of notification that the text is the word of (SOL 003 5.5.2.17 to 5.5.2.19, notificationType)
abbrev pub notice_text : List ℕ → Option NoticeKind
notice_text text = of_word notice_word (Occurrence ∷ Creation ∷ Deletion ∷ []) text

abbrev pub notice_in : Data → Option NoticeKind
notice_in d = option_and_then notice_text (as_str d)

-- the operation type that the text is the word of (SOL 003 5.5.4, LcmOperationType)
abbrev pub operation_type_text : List ℕ → Option OperationType
operation_type_text text =
    of_word operation_type_word (Of kinds.Instantiate ∷ Of kinds.Scale ∷ Of kinds.ScaleToLevel ∷ Of kinds.Heal
    ∷ Of kinds.Operate ∷ Of kinds.Terminate ∷ Of kinds.ChangeFlavour ∷ ChangeExtConn ∷ ModifyInfo ∷ []) text

abbrev pub operation_type_in : Data → Option OperationType
operation_type_in d = option_and_then operation_type_text (as_str d)

-- the state that the text is the word of (SOL 003 5.5.4, LcmOperationStateType)
abbrev pub state_text : List ℕ → Option OpState
state_text text =
    of_word state_word (Starting ∷ Processing ∷ Completed ∷ FailedTemp ∷ Failed ∷ RollingBack ∷ RolledBack ∷ []) text

abbrev pub state_in : Data → Option OpState
state_in d = option_and_then state_text (as_str d)

-- the values of a list, in order (RFC 8259 5)
abbrev pub items_in : Items → List Data
items_in no_items = []
items_in (item d ds) = d ∷ items_in ds

abbrev pub values_in : Data → Option (List Data)
values_in d = option_map items_in (as_array d)

-- the values, where they are at most so many
abbrev pub at_most : ℕ → List Data → Option (List Data)
at_most most ds = if nat_le (length ds) most then Some ds else None

-- what each of the values says by a form, where all have it
abbrev pub each_in : {A : Type 0} → (Data → Option A) → List Data → Option (List A)
each_in form ds = if list_all (λ d. is_some (form d)) ds then Some (filter_map form ds) else None

-- what each value of a list of at most so many says by a form, where all have it
abbrev pub list_in : {A : Type 0} → ℕ → (Data → Option A) → Data → Option (List A)
list_in most form d = option_and_then (each_in form) (option_and_then (at_most most) (values_in d))

-- the values, where all are objects
abbrev pub only_objects : List Data → Option (List Data)
only_objects ds = if list_all (λ d. is_some (as_object d)) ds then Some ds else None

-- the objects of a list, where it is a list of objects
abbrev pub objects_in : Data → Option (List Data)
objects_in d = option_and_then only_objects (values_in d)
