-- What a turn does: one act for each occurrence that is active when it begins, in the order of their numbers (own rule
-- over SOL 003 5.6.2).
use Rattle.std.specs.Prelude.{List, [], filter, map, nat_lt, reverse, ℕ, ◌++◌, ◌∷◌, ◌≡◌, Result, Ok, Err}
use Rattle.executor.specs.Managed.{Managed}
use Rattle.executor.specs.Work.{Work, WorksWithJobs, went}
use Rattle.executor.specs.declared.manager.WorkFault.{WorkFault}
use Rattle.lcm_events.specs.declared.events.Event.{Event}
use Rattle.occ_table.specs.Going.{active}
use Rattle.occ_work.specs.Acting.{TellsRoomFor, recording}
use Rattle.occ_work.specs.Around.{Around, Exchanged, Reach, ReachTells, around}
use Rattle.occ_work.specs.Counting.{CountsEndings}
use Rattle.occ_work.specs.Deeds.{Deed, IsDeed, IsTried, answered, ending, kinds_of, once_done, Point}
use Rattle.occ_work.specs.declared.ends.Acted.{Acted}
use Rattle.occ_work.specs.declared.ends.Turn.{Turn}

-- the numbers above one
abbrev pub above : ℕ → List ℕ → List ℕ
above n ns = filter (λ k. nat_lt n k) ns

-- the history once these deeds were done, the latest first, each behind those before it
abbrev pub once_all_done : ℕ → List Event → List Deed → List Event
once_all_done now H [] = H
once_all_done now H (d ∷ before) = once_done now (once_all_done now H before) d

-- the deeds were done with the orchestrator and the infrastructure, the latest first, each over the history that those
-- before it left, and from where they ended
abbrev pub DeedsDo : ReachTells → ℕ → ℕ → List Event → List Deed → Around → Around → Type 0
DeedsDo t m now H [] a b = b ≡ a
DeedsDo t m now H (d ∷ before) a c =
    (b : Around) × DeedsDo t m now H before a b × IsDeed m (once_all_done now H before) d × Exchanged t d.exchange b c

-- how the acts of these deeds ended, the latest first
abbrev pub endings : ℕ → List Event → List Deed → List Acted
endings now H [] = []
endings now H (d ∷ before) = ending d.action (answered (once_all_done now H before) d) ∷ endings now H before

-- How a turn ended: it went through; or the act of this deed ended in this fault.
pub data TurnEnd : Type 0 where
  through : TurnEnd
  stopped : Deed → WorkFault → TurnEnd

-- the work of the end of a turn behind history H
abbrev pub end_work : ℕ → List Event → TurnEnd → Work
end_work now H through = went H
end_work now H (stopped d why) = recording now (kinds_of H d) H (Err why)

-- the work of a turn behind history H
abbrev pub turn_work : ℕ → List Event → List Deed → TurnEnd → Work
turn_work now H deeds end = end_work now (once_all_done now H deeds) end

-- what the end of a turn does with the orchestrator and the infrastructure, and tells of the room in the journal
abbrev pub EndDoes : ReachTells → ℕ → ℕ → ℕ → List Event → TurnEnd → Around → Around → Type 0
EndDoes t m saved now H through a b = b ≡ a
EndDoes t m saved now H (stopped d why) a b = IsTried m H d (Err why) × Exchanged t d.exchange a b
    × TellsRoomFor saved now (kinds_of H d) H (Err why)

-- these are the numbers of occurrences for which acts were made, the least first
abbrev pub numbers_tried : List Deed → TurnEnd → List ℕ
numbers_tried deeds through = reverse (map (λ d. d.occ) deeds)
numbers_tried deeds (stopped last why) = reverse (map (λ d. d.occ) (last ∷ deeds))

-- acts were made for these, in order: all of them where the turn went through, and else a front
abbrev pub IsFor : List ℕ → List Deed → TurnEnd → Type 0
IsFor numbers deeds through = numbers_tried deeds through ≡ numbers
IsFor numbers deeds end = (rest : List ℕ) × (numbers_tried deeds end ++ rest ≡ numbers)

-- the end is that of the answer
abbrev pub EndsTurn : Result Turn WorkFault → List Acted → TurnEnd → Type 0
EndsTurn (Ok turn) ends through = CountsEndings turn ends
EndsTurn (Err why) ends (stopped d cause) = why ≡ cause
EndsTurn _ ends _ = ⊥

-- These deeds were done from this point of a manager on, which is now n, the latest first, and the turn ended so: for
-- the occurrences that are active there, in order, each behind what those before it left. Its journal saves as much as
-- before.
pub record Turns (t : ReachTells) (p : Point) (deeds : List Deed) (end : TurnEnd) (n : Managed)
    (w v : Reach) : Type 0 where
  pub works : WorksWithJobs t.site p.manager p.history (turn_work p.moment p.history deeds end) n w.site v.site
  pub saved : n.ledger.saved ≡ p.saved
  pub between : Around
  pub deeds_do : DeedsDo t p.manager p.moment p.history deeds (around w) between
  pub end_does : EndDoes t p.manager p.saved p.moment (once_all_done p.moment p.history deeds) end between (around v)
  pub order : IsFor (active p.history) deeds end
