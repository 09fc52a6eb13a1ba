-- What is always so of a trial's site (own rules).
use Rattle.std.specs.Prelude.{◌≡◌, ◌≤◌, ℕ, [], length, reverse}
use Rattle.std.specs.Coded.{Coded-set, coded_ℕ, coded_list, le_prop, Π_prop}
use Rattle.lcm_events.specs.contracts.attempts.Tag as tag_row
use Rattle.site_traits.specs.MemSite.{state_of}
use Rattle.site_traits.specs.declared.mem_site.MemSite.{MemSite}
use Rattle.trial_outside.specs.Planned.{AreDone, AreDone-prop, ArePlaced, ArePlaced-prop, ArePlanned, ArePlanned-prop}
use Rattle.trial_outside.specs.Taken.{AreTaken, AreTaken-prop, IsWork, IsWork-prop}

-- So many begins were answered, each as it is planned, and each job goes on or did its work. As long as no call on jobs
-- failed, the next plan is that of the next begin to be answered.
pub record GoesAsPlanned (m : MemSite) (begins faults : ℕ) : Type 0 where
  pub planned : ArePlanned (state_of m).answers.begins
  pub done : AreDone (state_of m).answers.looks
  pub aborted : (state_of m).answers.aborted ≡ []
  pub placed : ArePlaced (state_of m).jobs
  pub counted : begins ≡ length (state_of m).answers.begins
  pub within : begins ≤ 65536
  pub work : IsWork m.book.work.items
  pub most : m.book.past.most ≡ 65536
  pub next : faults ≡ 0 → m.book.begins ≡ begins
  pub taken : AreTaken (reverse m.book.past.kept.items)
  pub few : length m.book.past.kept.items ≤ begins

-- it has one proof at most
pub GoesAsPlanned-prop : (m : MemSite) (begins faults : ℕ) → IsProp (GoesAsPlanned m begins faults)
GoesAsPlanned-prop m begins faults a b i = record {
  planned = ArePlanned-prop (state_of m).answers.begins a.planned b.planned i;
  done = AreDone-prop (state_of m).answers.looks a.done b.done i;
  aborted = Coded-set (coded_list tag_row.the_row.coded) (state_of m).answers.aborted [] a.aborted b.aborted i;
  placed = ArePlaced-prop (state_of m).jobs a.placed b.placed i;
  counted = Coded-set coded_ℕ begins (length (state_of m).answers.begins) a.counted b.counted i;
  within = le_prop a.within b.within i;
  work = IsWork-prop m.book.work.items a.work b.work i;
  most = Coded-set coded_ℕ m.book.past.most 65536 a.most b.most i;
  next = (Π_prop (λ none. Coded-set coded_ℕ m.book.begins begins)) a.next b.next i;
  taken = AreTaken-prop (reverse m.book.past.kept.items) a.taken b.taken i;
  few = le_prop a.few b.few i;
}
