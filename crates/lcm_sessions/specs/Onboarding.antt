-- What comes of onboarding: what was heard, the work that was done, and the answer (own rule, docs/FORMATS.md).
use Rattle.std.specs.Prelude.{ℕ, Bool, true, false, List, ◌++◌, length, Result, Ok, Err}
use Rattle.executor.specs.Work.{Work, went, broke}
use Rattle.executor.specs.declared.manager.WorkFault.{WorkFault}
use Rattle.executor.specs.declared.manager.WorkFault.TheVariants as work
use Rattle.lcm_events.specs.declared.descriptor.Vnfd.{Vnfd}
use Rattle.lcm_events.specs.declared.events.Event.{Event}
use Rattle.lcm_sessions.specs.Verdict.{Verdict, refused, full, accepted, verdict, onboarded}
use Rattle.lcm_sessions.specs.declared.answer.DescriptorRefusal.TheVariants.{TooLong, Unread}
use Rattle.lcm_sessions.specs.declared.answer.Onboarded.{Onboarded}
use Rattle.lcm_sessions.specs.declared.answer.OnboardFault.{OnboardFault}
use Rattle.lcm_sessions.specs.declared.answer.OnboardFault.TheVariants as fault
use Rattle.vnfd_document.specs.declared.fault.VnfdFault.TheVariants.{NotJson}

-- how the work on the journal ended: it was done, there was no memory, or the disk failed
pub data Ended : Type 0 where
  done starving breaking : Ended

-- What came of onboarding: there was no memory to read into, waiting for a connection failed, a read failed behind
-- these bytes, or these bytes were heard and judged at this moment, and the work on the journal ended so.
pub data Onboarding : Type 0 where
  unready unheard : Onboarding
  cut_off : List ℕ → Onboarding
  heard : List ℕ → ℕ → Ended → Onboarding

-- work that was to record these events behind history H
abbrev pub worked : List Event → List Event → Ended → Work
worked H events done = went (events ++ H)
worked H events starving = went H
worked H events breaking = broke H (events ++ H)

-- the work of onboarding behind history H, in a journal that saves so many bytes
abbrev pub onboarding_work : ℕ → List Event → Onboarding → Work
onboarding_work saved H unready = went H
onboarding_work saved H unheard = went H
onboarding_work saved H (cut_off bytes) = went H
onboarding_work saved H (heard bytes now ended) = worked H (onboarded now (verdict saved H now bytes)) ended

-- what is said of a descriptor: its identifier, and how many VDUs, aspects and levels it has
abbrev pub said_of : Vnfd → Onboarded
said_of vnfd = record {
  id = vnfd.descriptor_id;
  vdus = length vnfd.vdus;
  aspects = length vnfd.aspects;
  levels =
      length vnfd.levels;
}

-- what is answered of a descriptor that was judged so
abbrev pub verdict_answer : Verdict → Result Onboarded OnboardFault
verdict_answer (refused why) = Err (fault.Refused why)
verdict_answer (full end more) = Err (fault.Full end more)
verdict_answer (accepted vnfd) = Ok (said_of vnfd)

-- the same, unless there was no memory or the disk failed
abbrev pub judged_answer : Verdict → Ended → Result Onboarded OnboardFault
judged_answer v done = verdict_answer v
judged_answer v starving = Err fault.Memory
judged_answer v breaking = Err fault.Disk

-- what is answered behind history H, where the journal saves so many bytes
abbrev pub answer_of : ℕ → List Event → Onboarding → Result Onboarded OnboardFault
answer_of saved H unready = Err fault.Memory
answer_of saved H unheard = Err fault.Door
answer_of saved H (cut_off bytes) = Err fault.Door
answer_of saved H (heard bytes now ended) = judged_answer (verdict saved H now bytes) ended

-- the bytes were refused as no JSON object
abbrev pub is_no_object : Result Onboarded OnboardFault → Bool
is_no_object (Err (fault.Refused (Unread NotJson))) = true
is_no_object other = false

-- how the work on the journal ended, by the answer
abbrev pub ended_by : Result Onboarded OnboardFault → Ended
ended_by (Err fault.Memory) = starving
ended_by (Err fault.Disk) = breaking
ended_by other = done

-- which fault of onboarding a fault of recording is
abbrev pub work_fault : WorkFault → OnboardFault
work_fault (work.TooLong n) = fault.Refused (TooLong n)
work_fault (work.Full end more) = fault.Full end more
work_fault work.Memory = fault.Memory
work_fault work.Disk = fault.Disk
