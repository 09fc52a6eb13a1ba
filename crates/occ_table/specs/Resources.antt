-- What the table keeps beside its rows of definitions, so that an attempt at one is told its resource, and what each
-- event makes of it (own rule).
use Rattle.std.specs.List.{list_any}
use Rattle.std.specs.Map.{lookup}
use Rattle.std.specs.Prelude.{Bool, List, None, Option, Some, true, if◌then◌else◌, option_and_then, option_map}
use Rattle.std.specs.Prelude.{slice_get, ℕ, ◌&&◌, ◌==◌}
use Rattle.lcm_events.specs.Same.{kind_number, same_def, same_way}
use Rattle.lcm_events.specs.declared.attempts.Outcome.{Outcome}
use Rattle.lcm_events.specs.declared.attempts.Outcome.TheVariants.{Done}
use Rattle.lcm_events.specs.declared.attempts.Tag.{Tag}
use Rattle.lcm_events.specs.declared.attempts.Way.TheVariants.{Forward}
use Rattle.lcm_events.specs.declared.changes.Change.{Change}
use Rattle.lcm_events.specs.declared.changes.Def.{Def}
use Rattle.lcm_events.specs.declared.events.EventKind.{EventKind}
use Rattle.lcm_events.specs.declared.events.EventKind.TheVariants.{Moved, Settled}
use Rattle.lcm_events.specs.declared.places.Place.{Place}
use Rattle.lcm_events.specs.declared.states.OpState.{OpState}
use Rattle.lcm_model.specs.declared.holding.Effect.{Effect}
use Rattle.lcm_model.specs.Grants.{place_at}
use Rattle.lcm_model.specs.Holding.{is_creation, is_effect_on, leaves_it}
use Rattle.lcm_model.specs.Moves.{is_final}
use Rattle.lcm_model.specs.Operations.{verb_done}
use Rattle.occ_table.specs.Descriptors.{numbered}
use Rattle.occ_table.specs.Used.{placed}
use Rattle.occ_table.specs.declared.resources.DoneAttempt.{DoneAttempt}
use Rattle.occ_table.specs.declared.resources.Entry.{Entry}
use Rattle.occ_table.specs.declared.resources.Key.{Key}
use Rattle.occ_table.specs.declared.rows.OccRow.{OccRow}
use Rattle.occ_table.specs.declared.used.Used.{Used}

-- the key of a definition of an instance (own format)
abbrev pub key_of : ℕ → Def → Key
key_of i x = record { instance = i; kind = kind_number x.kind; item = x.item; vdu = x.vdu; serial = x.serial }

-- two keys are the same (own rule)
abbrev pub same_key : Key → Key → Bool
same_key a b = (a.instance == b.instance) && ((a.kind == b.kind)
    && ((a.item == b.item) && ((a.vdu == b.vdu) && (a.serial == b.serial))))

-- what is kept by a key (own rule)
abbrev pub kept_by : List (Key × Entry) → Key → Option Entry
kept_by es q = lookup (same_key q) es

-- what is kept of a definition of an instance (own rule)
abbrev pub kept_of : List (Key × Entry) → ℕ → Def → Option Entry
kept_of es i x = kept_by es (key_of i x)

-- the resource with its place, of what is kept (own rule)
abbrev pub used_of : Option Entry → Option Used
used_of e = option_map (λ e. e.used) e

-- what is kept of resources: what each key has, for how many more keys there is room, and how many bytes for names (own
-- rule)
pub record KeptResources : Type 0 where
  pub entries : List (Key × Entry)
  pub spare : ℕ
  pub room : ℕ

-- the effect of an attempt at a change of a row, that was done with this name (own rule)
abbrev pub effect_by : Tag → List ℕ → OccRow → Change → Effect
effect_by t name r c = record {
  tag = t;
  instance = r.instance;
  def = c.def;
  verb = verb_done t.way c.verb;
  resource =
      name;
}

-- the place that the row's grant gave to a change (SOL 003 9.5.2.3)
abbrev pub place_by : ℕ → OccRow → Option Place
place_by c r = option_and_then (λ g. place_at g.places g.spots c) r.grant

-- what an attempt did that was done with this name, by its row (own rule)
abbrev pub deed_by : Tag → List ℕ → OccRow → Option DoneAttempt
deed_by t name r = option_map (λ c. record { effect = effect_by t name r c; place = place_by t.change r })
    (slice_get r.changes t.change)

-- what an attempt did that ended so, by the rows (own rule)
abbrev pub deed_of : Tag → Outcome → List OccRow → Option DoneAttempt
deed_of t (Done name) rs = option_and_then (deed_by t name) (numbered t.occ rs)
deed_of t _ rs = None

-- what an event says that an attempt did, by the rows (own rule)
abbrev pub deed_in : EventKind → List OccRow → Option DoneAttempt
deed_in (Settled t outcome) rs = deed_of t outcome rs
deed_in _ rs = None

-- what is known of a definition once it is made: an undo puts it where it was (own rule)
abbrev pub remade : DoneAttempt → Option Used → Option Used
remade d old = placed (Some d.effect.resource) (if same_way d.effect.tag.way Forward then d.place
    else option_map (λ u. u.place) old)

-- what is kept of a definition that stands (own rule)
abbrev pub standing : Option Used → Option Entry
standing used = option_map (λ u. record { used = u; stands = true }) used

-- an entry of a definition that stands from now on, or doesn't (own rule)
abbrev pub left : Bool → Entry → Entry
left stands e = record e { stands = stands }

-- what is kept of a definition once something was done to it: what was made anew, or what was kept, and whether that
-- leaves it standing (own rule)
abbrev pub touched : DoneAttempt → Option Entry → Option Entry
touched d old = if is_creation d.effect then standing (remade d (used_of old))
    else option_map (left (leaves_it d.effect.verb)) old

-- what is kept of definitions after an attempt did something, or nothing (own rule)
abbrev pub learned : Option DoneAttempt → (ℕ → Def → Option Entry) → ℕ → Def → Option Entry
learned None f i x = f i x
learned (Some d) f i x = if is_effect_on i x d.effect then touched d (f i x) else f i x

-- what the change of an attempt used that did something, or nothing (own rule)
abbrev pub used_after : Option DoneAttempt → (ℕ → Def → Option Entry) → Option Used
used_after None f = None
used_after (Some d) f = if same_way d.effect.tag.way Forward
    then used_of (learned (Some d) f d.effect.instance d.effect.def) else None

-- a change of the row is of this definition of the instance (own rule)
abbrev pub is_of_row : ℕ → Def → OccRow → Bool
is_of_row i x r = (r.instance == i) && list_any (λ c. same_def c.def x) r.changes

-- an entry, where its definition stands (own rule)
abbrev pub where_it_stands : Entry → Option Entry
where_it_stands e = if e.stands then Some e else None

-- what is kept of definitions once the occurrence of a row is over: of those of its changes what stands (own rule)
abbrev pub outlasting : Option OccRow → (ℕ → Def → Option Entry) → ℕ → Def → Option Entry
outlasting None f i x = f i x
outlasting (Some r) f i x = if is_of_row i x r then option_and_then where_it_stands (f i x) else f i x

-- what is kept of definitions after the occurrence of a row has moved to this state (own rule)
abbrev pub kept_moved : OpState → Option OccRow → (ℕ → Def → Option Entry) → ℕ → Def → Option Entry
kept_moved to r f i x = if is_final to then outlasting r f i x else f i x

-- what is kept of definitions after an event, by the rows before it (own rule)
abbrev pub kept_after : List OccRow → EventKind → (ℕ → Def → Option Entry) → ℕ → Def → Option Entry
kept_after rs (Settled t outcome) f i x = learned (deed_of t outcome rs) f i x
kept_after rs (Moved o to) f i x = kept_moved to (numbered o rs) f i x
kept_after rs _ f i x = f i x
