-- The rows of the table of paths, and what a walk over them finds.
use Rattle.std.proofs.Common.{◌≡◌, ℕ, suc, List, [], ◌∷◌, ◌++◌, codes, get_or, map, Some, None, true, refl, sym, ap, ◌∙◌}
use Rattle.matchit.specs.Rows.{Rows, prepend, ends}
use Rattle.matchit.specs.Level.{IsText}
use Rattle.matchit.specs.Seek.{first}
use Rattle.matchit.specs.Router.{map_key, rename}
use Rattle.matchit.specs.Route.{scan}
use Rattle.matchit.proofs.SeekLemmas.{seek-empty}
use Rattle.matchit.proofs.RenameLemmas.{first-rename}
use Rattle.lcm_events.specs.declared.asks.OpKind.TheVariants.{Instantiate, Scale, ScaleToLevel, Heal, Operate, Terminate, ChangeFlavour}
use Rattle.lcm_events.specs.declared.states.Task.TheVariants.{Retry, Rollback, Fail, Cancel}
use Rattle.lcm_routes.specs.declared.resources.Resource.{Resource}
use Rattle.lcm_routes.specs.declared.resources.Resource.TheVariants.{Instances, Instance, InstanceTask, Occurrences, Occurrence}
use Rattle.lcm_routes.specs.declared.resources.Resource.TheVariants.{OccurrenceTask, Subscriptions, Subscription}
use Rattle.lcm_routes.specs.declared.table.TheConstants.{PATHS}
use Rattle.lcm_routes.specs.Targets.{segments}
use Rattle.lcm_routes.specs.Paths.{Names, Collection, below, among, under, root, collections, resource_of, subscription_tasks}
use Rattle.lcm_routes.specs.Paths.{instance_tasks, occurrence_tasks}
use Rattle.lcm_routes.specs.Table.{AreBytes, found, with_routes}
use Rattle.lcm_routes.proofs.FindLemmas.{all_plain, is_name, at_name, Slashless, first-item, first-name, first-among}

-- each of these is a byte
pub text-from-bytes : (path : List ℕ) → AreBytes path → IsText path
text-from-bytes [] h = tt
text-from-bytes (b ∷ path) h = (h 0, text-from-bytes path (λ i. h (suc i)))

-- the resources in the order of the table's rows
abbrev pub resources : List Resource
resources =
    Subscription ∷ Subscriptions
    ∷ InstanceTask ChangeFlavour ∷ InstanceTask Heal ∷ InstanceTask Instantiate ∷ InstanceTask Operate ∷ InstanceTask ScaleToLevel
    ∷ InstanceTask Scale ∷ InstanceTask Terminate ∷ Instance ∷ Instances
    ∷ OccurrenceTask Cancel ∷ OccurrenceTask Fail ∷ OccurrenceTask Retry ∷ OccurrenceTask Rollback ∷ Occurrence ∷ Occurrences
    ∷ []

abbrev pub resource_at : ℕ → Resource
resource_at n = get_or resources n Instances

-- the rows behind a collection's name: its items', with the names of what stands under them, and its own
abbrev pub collection_rows : Rows → ℕ → ℕ → Rows
collection_rows names item whole = prepend (47 ∷ []) (prepend (256 ∷ []) (prepend (47 ∷ []) names ++ ends (Some item))) ++ ends (Some whole)

abbrev pub instance_names : Rows
instance_names =
    (codes "change_flavour", 2) ∷ (codes "heal", 3) ∷ (codes "instantiate", 4) ∷ (codes "operate", 5) ∷ (codes "scale_to_level", 6)
    ∷ (codes "scale", 7) ∷ (codes "terminate", 8) ∷ []

abbrev pub occurrence_names : Rows
occurrence_names = (codes "cancel", 11) ∷ (codes "fail", 12) ∷ (codes "retry", 13) ∷ (codes "rollback", 14) ∷ []

abbrev pub occurrence_rows : Rows
occurrence_rows = prepend (codes "vnf_lcm_op_occs") (collection_rows occurrence_names 15 16) ++ []

abbrev pub instance_rows : Rows
instance_rows = prepend (codes "vnf_instances") (collection_rows instance_names 9 10) ++ occurrence_rows

-- the rows behind the root
abbrev pub all_rows : Rows
all_rows = prepend (codes "subscriptions") (collection_rows [] 0 1) ++ instance_rows

-- rows behind the segments of a front
abbrev pub rows_under : List (List ℕ) → Rows → Rows
rows_under [] rows = rows
rows_under (part ∷ front) rows = prepend part (prepend (47 ∷ []) (rows_under front rows) ++ ends None)

-- ---- what a walk finds

first-collection : (c : Collection) (names : Rows) (item whole : ℕ) (tail : List ℕ) → resource_at item ≡ c.item
    → resource_at whole ≡ c.whole
    → all_plain names ≡ true → rename resource_at names ≡ c.tasks → Slashless c.tasks → is_name c.name ≡ true → IsText tail
    → map_key resource_at (first (prepend c.name (collection_rows names item whole)) tail) ≡ at_name c.name (below c) (segments tail)
first-collection c names item whole tail is_item is_whole plain table free name text =
    first-name resource_at (below c) (prepend (256 ∷ []) (prepend (47 ∷ []) names ++ ends (Some item))) (Some whole) (ap Some is_whole)
    (λ more more_text. first-item resource_at c item is_item names more plain table free more_text) c.name tail name text

abbrev pub subscriptions_of : Collection
subscriptions_of = record { name = codes "subscriptions"; whole = Subscriptions; item = Subscription; tasks = subscription_tasks }

abbrev pub instances_of : Collection
instances_of = record { name = codes "vnf_instances"; whole = Instances; item = Instance; tasks = instance_tasks }

abbrev pub occurrences_of : Collection
occurrences_of = record { name = codes "vnf_lcm_op_occs"; whole = Occurrences; item = Occurrence; tasks = occurrence_tasks }

first-occurrences : (tail : List ℕ) → IsText tail → map_key resource_at (first occurrence_rows tail)
    ≡ among (occurrences_of ∷ []) (segments tail)
first-occurrences tail text =
    first-among resource_at occurrences_of [] (collection_rows occurrence_names 15 16) [] tail refl refl (λ rest. refl)
    (first-collection occurrences_of occurrence_names 15 16 tail refl refl refl refl (refl, (refl, (refl, (refl, tt)))) refl text)
    (ap (map_key resource_at) (seek-empty 0 tail))

first-instances : (tail : List ℕ) → IsText tail → map_key resource_at (first instance_rows tail)
    ≡ among (instances_of ∷ occurrences_of ∷ []) (segments tail)
first-instances tail text =
    first-among resource_at instances_of (occurrences_of ∷ []) (collection_rows instance_names 9 10) occurrence_rows tail refl refl
    (λ rest. refl)
    (first-collection instances_of instance_names 9 10 tail refl refl refl refl
    (refl, (refl, (refl, (refl, (refl, (refl, (refl, tt))))))) refl text) (first-occurrences tail text)

first-all : (tail : List ℕ) → IsText tail → map_key resource_at (first all_rows tail) ≡ among collections (segments tail)
first-all tail text =
    first-among resource_at subscriptions_of (instances_of ∷ occurrences_of ∷ []) (collection_rows [] 0 1) instance_rows tail refl refl
    (λ rest. refl)
    (first-collection subscriptions_of [] 0 1 tail refl refl refl refl tt refl text) (first-instances tail text)

-- ---- the root

-- each part of the front is a name
abbrev pub AreNames : List (List ℕ) → Type 0
AreNames [] = Unit {0}
AreNames (part ∷ front) = (is_name part ≡ true) × AreNames front

under-empty : (front : List (List ℕ)) → None ≡ under front []
under-empty [] = refl
under-empty (part ∷ front) = refl

under-part : (part : List ℕ) (front l : List (List ℕ)) → at_name part (under front) l ≡ under (part ∷ front) l
under-part part front [] = refl
under-part part front (s ∷ rest) = refl

first-under : (front : List (List ℕ)) (path : List ℕ) → AreNames front → IsText path
    → map_key resource_at (first (rows_under front all_rows) path) ≡ under front (segments path)
first-under [] path names text = first-all path text
first-under (part ∷ front) path names text =
    first-name resource_at (under front) (rows_under front all_rows) None (under-empty front)
    (λ more more_text. first-under front more names.1 more_text) part path names.0 text
    ∙ under-part part front (segments path)

pub first-root : (path : List ℕ) → IsText path → map_key resource_at (first (rows_under root all_rows) path) ≡ resource_of path
first-root path text = first-under root path (refl, (refl, (refl, tt))) text

-- ---- the table

-- the table's paths, each with what it names
abbrev pub paths : Names
paths = map (λ row. (row.0.now, row.1)) PATHS

-- they give these rows
rows-are : rename (λ route. route.value) (with_routes paths []) ≡ rename resource_at (rows_under root all_rows)
unfolding scan
rows-are = refl

pub found-all : (path : List ℕ) → AreBytes path → found (with_routes paths []) path ≡ resource_of path
found-all path bytes =
    sym (first-rename (λ route. route.value) (with_routes paths []) path)
    ∙ ap (λ rows. first rows path) rows-are
    ∙ first-rename resource_at (rows_under root all_rows) path
    ∙ first-root path (text-from-bytes path bytes)
