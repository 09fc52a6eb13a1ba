-- What an act does to the journal, and with the orchestrator and the infrastructure.
use Rattle.std.specs.Prelude.{List, [], ℕ, ◌∷◌, ◌≡◌, Result, Ok, Err, IfOk}
use Rattle.executor.specs.Managed.{Managed}
use Rattle.executor.specs.Room.{TellsRoom}
use Rattle.executor.specs.Work.{Work, WorksWithJobs, broke, went}
use Rattle.executor.specs.declared.manager.WorkFault.{WorkFault}
use Rattle.executor.specs.declared.manager.WorkFault.TheVariants as fault
use Rattle.journal_records.specs.declared.limits.TheConstants.{MAX_FILE}
use Rattle.lcm_events.specs.declared.events.Event.{Event}
use Rattle.lcm_events.specs.declared.events.EventKind.{EventKind}
use Rattle.lcm_laws.specs.Acting.{with_events}
use Rattle.site_traits.specs.Site.{SiteState}
use Rattle.occ_work.specs.Around.{Exchanged, Reach, ReachTells, around}
use Rattle.occ_work.specs.Deeds.{Deed, IsTried, answered, ending, kinds_of, Point}
use Rattle.occ_work.specs.declared.ends.Acted.{Acted}

-- The work of events of these kinds at this moment behind history H, the latest first, by how the act ended: all are
-- recorded; or the earlier ones are, and the disk failed on the way to the latest; or the earlier ones are, and nothing
-- more was done.
abbrev pub recording : ℕ → List EventKind → List Event → Result Acted WorkFault → Work
recording now kinds H (Ok done) = went (with_events now kinds H)
recording now [] H (Err why) = went H
recording now (kind ∷ earlier) H (Err fault.Disk) = broke (with_events now earlier H)
    (with_events now (kind ∷ earlier) H)
recording now (kind ∷ earlier) H (Err other) = went (with_events now earlier H)

-- an act's answer as that of recording its event
abbrev pub as_recorded : Result Acted WorkFault → Result (Unit {0}) WorkFault
as_recorded (Ok done) = Ok tt
as_recorded (Err why) = Err why

-- What the answer tells of the room for the latest of the events of these kinds behind history H and the earlier ones,
-- in a journal that saves so many bytes and may fill its file. An act whose answer appends nothing ends in no fault but
-- want of memory.
abbrev pub TellsRoomFor : ℕ → ℕ → List EventKind → List Event → Result Acted WorkFault → Type 0
TellsRoomFor saved now kinds H (Err fault.Memory) = Unit {0}
TellsRoomFor saved now [] H (Ok done) = Unit {0}
TellsRoomFor saved now [] H (Err other) = ⊥
TellsRoomFor saved now (kind ∷ earlier) H result =
    TellsRoom MAX_FILE saved (with_events now earlier H) (record { moment = now; kind = kind }) (as_recorded result)

-- Events of these kinds were to be recorded at this point of a manager, which is now n, and that ended so. Its journal
-- saves as much as before.
pub record Records (tells : Type 0) (p : Point) (kinds : List EventKind) (result : Result Acted WorkFault) (n : Managed)
    (a b : SiteState) : Type 0 where
  pub works : WorksWithJobs tells p.manager p.history (recording p.moment kinds p.history result) n a b
  pub saved : n.ledger.saved ≡ p.saved
  pub room : TellsRoomFor p.saved p.moment kinds p.history result

-- The deed was tried at this point of a manager, which is now n: its exchange was made and no other, what that appends
-- was recorded, and the answer says so.
pub record Acts (t : ReachTells) (p : Point) (d : Deed) (result : Result Acted WorkFault) (n : Managed)
    (w v : Reach) : Type 0 where
  pub tried : IsTried p.manager p.history d result
  pub exchanged : Exchanged t d.exchange (around w) (around v)
  pub records : Records t.site p (kinds_of p.history d) result n w.site v.site
  pub ended : IfOk result (λ done. done ≡ ending d.action (answered p.history d))
