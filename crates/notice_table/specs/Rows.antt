-- How what waits is kept: the place of each notice stands once, and each subscription has a mark for each of the last
-- places, which tells whether the notice waits for it (own format).
use Rattle.std.specs.Prelude.{Bool, List, drop, false, if◌then◌else◌, length, max, nat_le, true, ℕ, [], ◌+◌, ◌++◌, ◌-◌}
use Rattle.std.specs.Prelude.{◌==◌, ◌||◌, ◌∷◌, ◌≡◌, ◌≤◌}
use Rattle.lcm_events.specs.declared.events.PostOutcome.{PostOutcome}
use Rattle.lcm_events.specs.declared.filters.Filter.{Filter}
use Rattle.lcm_model.specs.Notices.{is_delivered, matches}
use Rattle.lcm_model.specs.Notices as model
use Rattle.notice_table.specs.Marks.{from_set}
use Rattle.notice_table.specs.Queues.{Queue}
use Rattle.notice_table.specs.declared.queues.QueueRow.{QueueRow}

-- a subscription's row but for its room: which it is, what it asks to be told, how often the first notice that waits
-- was posted and not taken, whether it hears the notice at hand, and the marks of the last places, the oldest first
pub record Row : Type 0 where
  pub number : ℕ
  pub filter : Filter
  pub tries : ℕ
  pub hears : Bool
  pub marks : List Bool

-- a row without its room
abbrev pub row : QueueRow → Row
row r = record { number = r.number; filter = r.filter; tries = r.tries; hears = r.hears; marks = r.marks.marks }

-- for how many more words of marks a row has room
abbrev pub room : QueueRow → ℕ
room r = r.marks.room

-- the last n places
abbrev pub last_of : ℕ → List ℕ → List ℕ
last_of n places = drop (length places - n) places

-- the places whose marks are set
abbrev pub marked : List Bool → List ℕ → List ℕ
marked [] places = []
marked (mark ∷ marks) [] = []
marked (mark ∷ marks) (place ∷ places) = if mark then place ∷ marked marks places else marked marks places

-- what waits for a row's subscription: its marks stand for the last places
abbrev pub plain : List ℕ → Row → Queue
plain places r = record {
  number = r.number;
  filter = r.filter;
  tries = r.tries;
  waiting =
      marked r.marks (last_of (length r.marks) places);
}

-- the oldest mark is set: nothing is kept in front of the first notice that waits
abbrev pub StartsSet : List Bool → Type 0
StartsSet [] = Unit {0}
StartsSet (mark ∷ marks) = mark ≡ true

-- a row has no more marks than there are places, and the oldest is set
pub record IsWithin (count : ℕ) (r : Row) : Type 0 where
  pub length : length r.marks ≤ count
  pub set : StartsSet r.marks

-- the row of a subscription when it is made
abbrev pub first_row : ℕ → Filter → Row
first_row s f = record { number = s; filter = f; tries = 0; hears = false; marks = [] }

-- a row of manager m that was asked whether its filter lets the notice through that tells this
abbrev pub asked : ℕ → model.NoticeFacts → QueueRow → QueueRow
asked m n r = record r { hears = matches m r.filter n }

-- marks with that of the next place: where nothing waits, none for a place that isn't waited for
abbrev pub with_mark : Bool → List Bool → List Bool
with_mark mark [] = if mark then true ∷ [] else []
with_mark mark (oldest ∷ marks) = (oldest ∷ marks) ++ mark ∷ []

-- a row after the place of the notice at hand was put
abbrev pub with_place : Row → Row
with_place r = record r { marks = with_mark r.hears r.marks }

-- the most marks that a row has
abbrev pub longest : List Row → ℕ
longest [] = 0
longest (r ∷ rows) = max (length r.marks) (longest rows)

-- a row after its first notice was posted: it is passed where it was taken, or not taken for the fifth time
abbrev pub after_row_post : PostOutcome → Row → Row
after_row_post outcome r = if is_delivered outcome || nat_le 4 r.tries
    then record r { marks = from_set (drop 1 r.marks); tries = 0 } else record r { tries = r.tries + 1 }

-- a row after the first notice of the subscription of this number was posted
abbrev pub row_posted : ℕ → PostOutcome → Row → Row
row_posted s outcome r = if r.number == s then after_row_post outcome r else r
