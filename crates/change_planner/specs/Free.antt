-- Which changes of a plan may be attempted, by their nets and by which of them have an open attempt (own rule).
use Rattle.std.specs.List.{enumerate_from, list_all}
use Rattle.std.specs.List.Sorted.{IsNonDecreasingBy}
use Rattle.std.specs.Prelude.{Bool, List, Some, false, filter, length, map, not, slice_get, slice_index, slice_index_or}
use Rattle.std.specs.Prelude.{ℕ, ◌&&◌, ◌==◌, ◌||◌, ◌≡◌, ◌<◌}
use Rattle.lcm_events.specs.declared.attempts.Way.{Way}
use Rattle.lcm_events.specs.declared.changes.Change.{Change}
use Rattle.lcm_events.specs.declared.events.Event.{Event}
use Rattle.lcm_model.specs.Attempts.{net, open_attempts}
use Rattle.lcm_model.specs.Next.{is_none_open}
use Rattle.lcm_model.specs.Operations.{changes}
use Rattle.lcm_model.specs.Work.{goes_before, net_after, net_before}

-- a change of this number waits for an attempt in this way, by these nets, and isn't busy, by these flags (own rule)
unfoldable pub waits : Way → List ℕ → List Bool → ℕ → Bool
waits way ns bs c = (slice_index ns c == net_before way) && not (slice_index_or bs c false)

-- a change, with its number, is through by these nets, where it goes before those of this phase (own rule)
unfoldable pub is_through_by : Way → List ℕ → ℕ → ℕ × Change → Bool
is_through_by way ns phase x = not (goes_before way phase x.1) || (slice_index ns x.0 == net_after way)

-- every change that goes before this phase is through, by these nets (own rule)
abbrev pub all_through_by : Way → List Change → List ℕ → ℕ → Bool
all_through_by way xs ns phase = list_all (is_through_by way ns phase) (enumerate_from 0 xs)

-- a change, with its number, may be attempted in this way: it waits, it isn't busy, and every change that goes before
-- it is through (own rule)
unfoldable pub is_free_by : Way → List Change → List ℕ → List Bool → ℕ × Change → Bool
is_free_by way xs ns bs x = waits way ns bs x.0 && all_through_by way xs ns x.1.phase

-- the numbers of the changes that may be attempted in this way, by their nets and by which are busy, rising (own rule)
abbrev pub free_by : Way → List Change → List ℕ → List Bool → List ℕ
free_by way xs ns bs = map (λ x. x.0) (filter (is_free_by way xs ns bs) (enumerate_from 0 xs))

-- the changes are of rising phases, as those of a plan are, with a net and a flag for each (own rule)
pub record IsPlanWith (xs : List Change) (ns : List ℕ) (bs : List Bool) : Type 0 where
  pub phases : IsNonDecreasingBy (λ x. x.phase) xs
  pub nets : length ns ≡ length xs
  pub flags : length bs ≡ length xs

-- these are the changes of an occurrence, their nets, and which of them have an open attempt (own rule)
pub record AreOfOccurrence (H : List Event) (o : ℕ) (xs : List Change) (ns : List ℕ) (bs : List Bool) : Type 0 where
  pub changes : xs ≡ changes H o
  pub nets : (c : ℕ) → c < length xs → slice_get ns c ≡ Some (net H o c)
  pub flags : (c : ℕ) → c < length xs → slice_get bs c ≡ Some (not (is_none_open (open_attempts H o c)))
