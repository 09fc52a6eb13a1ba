-- An orchestrator in memory that grants whatever it is asked for (SOL 003 9.5.2.2, GrantRequest; 9.5.2.3, Grant; RFC
-- 8259).
use Rattle.std.specs.Fmt.{decimal}
use Rattle.std.specs.Prelude.{Bool, IsUtf8, List, [], ℕ, Option, None, Some, ◌≡◌, ◌+◌, ◌∷◌, ◌++◌, codes, drop, false}
use Rattle.std.specs.Prelude.{length, map, nat_le, option_and_then, option_map, take, true, if◌then◌else◌}
use Rattle.std.specs.Str.{is_utf8}
use Rattle.serde_json.specs.Data.{Data, Items, array, item, member, no_items, no_members, object, string}
use Rattle.serde_json.specs.Find.{as_array, as_object, as_str, get}
use Rattle.serde_json.specs.Read.{read}
use Rattle.serde_json.specs.View.{items_of}
use Rattle.serde_json.specs.Written.{compact_text}
use Rattle.lcm_events.specs.declared.asks.Ask.{Ask}
use Rattle.lcm_events.specs.declared.changes.Change.{Change}
use Rattle.lcm_events.specs.declared.descriptor.Vnfd.{Vnfd}
use Rattle.lcm_events.specs.declared.held.Holding.{Holding}
use Rattle.lcm_model.specs.Grants.{ids_of}
use Rattle.site_traits.specs.Answer.{Answer}
use Rattle.site_traits.specs.Counts.{CallCounts, Rose}
use Rattle.site_traits.specs.Log.{HasRoom, Recorded, empty, with_call}
use Rattle.site_traits.specs.Peers.{OrchestratorState}
use Rattle.site_traits.specs.declared.orchestrator.Call.{Call}
use Rattle.site_traits.specs.declared.orchestrator.Call.TheVariants as call
use Rattle.grant_desk.specs.Parts.{asks}
use Rattle.grant_desk.specs.Requests.{request}
use Rattle.grant_desk.specs.declared.grant_all.GrantAll.{GrantAll}
use Rattle.grant_desk.specs.declared.parts.Part.{Part}
use Rattle.grant_desk.specs.declared.parts.Part.TheVariants as part
use Rattle.grant_desk.specs.declared.requests.GrantAsker.{GrantAsker}

-- what is granted for the identifier of an entry: that it stands at the connection `vim1`, in no zone (SOL 003 9.5.3.3,
-- GrantInfo)
abbrev pub row : List ℕ → Data
row id = object (member (codes "resourceDefinitionId") (string id)
    (member (codes "vimConnectionId") (string (codes "vim1")) no_members))

-- what is granted for an entry, where its identifier is a text (SOL 003 9.5.3.2, ResourceDefinition)
abbrev pub row_for : Data → Option Data
row_for d = option_map row (option_and_then as_str (get (codes "id") d))

-- what is granted for the entries of a list, in their order, where each can be read (SOL 003 9.5.2.2)
abbrev pub rows_for : Items → Option (List Data)
rows_for no_items = Some []
rows_for (item d ds) = option_and_then (λ r. option_map (λ rs. r ∷ rs) (rows_for ds)) (row_for d)

-- what is granted for a list that may be absent, nothing where it is (SOL 003 9.5.2.2)
abbrev pub rows_where : Option Data → Option (List Data)
rows_where None = Some []
rows_where (Some d) = option_and_then rows_for (as_array d)

-- the identifier of the grant that is given behind so many: `g1`, `g2` and on (own rule)
abbrev pub grant_id : ℕ → List ℕ
grant_id n = codes "g" ++ decimal (n + 1)

-- the grant behind so many that has these rows; members stand in byte order of their names (SOL 003 9.5.2.3)
abbrev pub grant : ℕ → List Data → List Data → List Data → Data
grant n add remove update =
    object
    (member (codes "addResources") (array (items_of add))
    (member (codes "id") (string (grant_id n))
    (member (codes "removeResources") (array (items_of remove))
    (member (codes "updateResources") (array (items_of update))
    no_members))))

-- the grant behind so many for a request, where it is an object whose three lists can be read (SOL 003 9.5.2.2)
abbrev pub grant_for : ℕ → Data → Option Data
grant_for n d =
    option_and_then (λ _.
    option_and_then (λ add.
    option_and_then (λ remove.
    option_map (grant n add remove)
    (rows_where (get (codes "updateResources") d)))
    (rows_where (get (codes "removeResources") d)))
    (rows_where (get (codes "addResources") d)))
    (as_object d)

-- the text of the grant behind so many for the bytes of a request, where they can be read (RFC 8259)
abbrev pub grant_text : ℕ → List ℕ → Option (List ℕ)
grant_text n body = if is_utf8 body then option_map compact_text (option_and_then (grant_for n) (read body)) else None

-- the answer with this text; one with a longer text than is heard fails (own rule)
abbrev pub answer_with : List ℕ → Option Answer
answer_with text = if nat_le (length text) 1048576 then Some (record { status = 201; location = None; body = text })
    else None

-- the answer to the request behind so many, where there is one (SOL 003 9.4.2)
abbrev pub answer_to : ℕ → List ℕ → Option Answer
answer_to n body = option_and_then answer_with (grant_text n body)

-- the body asked and the answer of a call on record: the one stands in front of the other (own rule)
abbrev pub asked_in : ℕ × List ℕ → List ℕ
asked_in c = take c.0 c.1

abbrev pub answer_in : ℕ × List ℕ → Answer
answer_in c = record { status = 201; location = None; body = drop c.0 c.1 }

-- what it tells: what it was asked, and what it answered (SOL 003 9.4.2)
abbrev pub state_of : GrantAll → OrchestratorState
state_of g = record { answers = map answer_in g.served.calls; asked = map asked_in g.served.calls; polled = [] }

-- how often it was called, and how often that failed
abbrev pub counts_of : GrantAll → CallCounts
counts_of g = record { calls = g.calls; faults = g.faults }

-- it was never called, and has room for 1,048,576 requests and 64 MiB of them and their answers (own rule)
pub record IsNew (g : GrantAll) : Type 0 where
  pub served : g.served ≡ empty 1048576 67108864
  pub calls : g.calls ≡ 0
  pub faults : g.faults ≡ 0
  pub starved : g.starved ≡ 0

-- The request with this body, to which this answer is given, where one is, got this answer: both are on record, in room
-- that was there for them (own rule).
pub record IsServed (given : Option Answer) (body : List ℕ) (answer : Answer) (old new : Recorded ℕ) : Type 0 where
  pub answer_is : given ≡ Some answer
  pub room : HasRoom (length body + length answer.body) old
  pub put : new ≡ with_call (length body) (body ++ answer.body) old

-- The request with this body, to which this answer is given, where one is, got none: none is given, or there was no
-- room for both. The record stays (own rule).
pub record IsPassed (given : Option Answer) (body : List ℕ) (old new : Recorded ℕ) : Type 0 where
  pub why : (answer : Answer) → given ≡ Some answer → ¬ HasRoom (length body + length answer.body) old
  pub kept : new ≡ old

-- what becomes of a request, by whether it is served (own rule)
abbrev pub Serves : Option Answer → List ℕ → Bool → Answer → Recorded ℕ → Recorded ℕ → Type 0
Serves given body true answer old new = IsServed given body answer old new
Serves given body false answer old new = IsPassed given body old new

-- A request is served where an answer is given to it and there is room for both. It isn't where none is given, where
-- there is no room, or where memory is wanted, which is counted (own rule).
pub record RunsAsk (body : List ℕ) (answer : Answer) (result : Call) (old new : GrantAll) : Type 0 where
  pub came : result ≡ call.Came → IsServed (answer_to (length old.served.calls) body) body answer old.served new.served
  pub failed : result ≡ call.Failed → ¬ Rose old.starved new.starved
      → IsPassed (answer_to (length old.served.calls) body) body old.served new.served
  pub starved : result ≡ call.Came → new.starved ≡ old.starved

-- what is granted for the changes of a plan that are asked for in a part, in the order of the plan (SOL 003 9.5.2.3)
abbrev pub part_rows : Part → List Change → List Data
part_rows p xs = map row (ids_of (asks p) xs)

-- the grant behind so many of all that a plan asks for (SOL 003 9.5.2.3)
abbrev pub plan_grant : ℕ → List Change → Data
plan_grant n xs = grant n (part_rows part.Add xs) (part_rows part.Remove xs) (part_rows part.Update xs)

-- each request for a plan can be read, and is granted whole: its changes in their order, and nothing else (SOL 003
-- 9.5.2.3)
abbrev pub RequestsAreGranted : Type 0
RequestsAreGranted =
    (n : ℕ) (d : Vnfd) (h : Holding) (who : GrantAsker) (ask : Ask) (xs : List Change) (body : List ℕ) → IsUtf8 body
    → read body ≡ Some (request d h who ask xs)
    → grant_text n body ≡ Some (compact_text (plan_grant n xs))
