-- The jobs of an infrastructure and how they go on (own rules). A list of jobs or of answers has the latest first, as
-- histories have.
use Rattle.std.specs.Prelude.{◌≡◌, ◌⊎◌, ℕ, List, [], ◌∷◌, Option, Some, None, option_map, find}
use Rattle.lcm_events.specs.Same.{same_tag}
use Rattle.lcm_events.specs.declared.acts.Act.{Act}
use Rattle.lcm_events.specs.declared.attempts.Tag.{Tag}
use Rattle.site_traits.specs.declared.jobs.Phase.{Phase}
use Rattle.site_traits.specs.declared.jobs.Phase.TheVariants.{Running, Done, Broken, Aborted}
use Rattle.site_traits.specs.declared.jobs.BeginAnswer.{BeginAnswer}
use Rattle.site_traits.specs.declared.jobs.BeginAnswer.TheVariants as begin
use Rattle.site_traits.specs.declared.jobs.LookAnswer.{LookAnswer}
use Rattle.site_traits.specs.declared.jobs.LookAnswer.TheVariants as look
use Rattle.site_traits.specs.declared.jobs.AbortAnswer.{AbortAnswer}
use Rattle.site_traits.specs.declared.jobs.AbortAnswer.TheVariants as abort

-- a job: the attempt that it is for, its work, and how it stands
pub record Job : Type 0 where
  pub tag : Tag
  pub act : Act
  pub phase : Phase

-- how the latest job with this tag stands, where there is one
abbrev pub phase_of : Tag → List Job → Option Phase
phase_of t jobs = option_map (λ j. j.phase) (find (λ j. same_tag t j.tag) jobs)

-- a running job may end, and one that has ended stays as it ended
abbrev pub GoesOn : Phase → Phase → Type 0
GoesOn Running after = Unit {0}
GoesOn before after = after ≡ before

-- the same job, which may have ended if it was running
pub record JobGoesOn (before after : Job) : Type 0 where
  pub tag : after.tag ≡ before.tag
  pub act : after.act ≡ before.act
  pub phase : GoesOn before.phase after.phase

-- the same jobs, of which some running ones have ended
abbrev pub Advances : List Job → List Job → Type 0
Advances [] [] = Unit {0}
Advances (a ∷ before) (b ∷ after) = JobGoesOn a b × Advances before after
Advances before after = ⊥

-- a job with this tag and this work was put last, and stands so
pub record Arrives (tag : Tag) (act : Act) (phase : Phase) (before after : List Job) : Type 0 where
  pub earlier : List Job
  pub advances : Advances before earlier
  pub is : after ≡ (record { tag = tag; act = act; phase = phase }) ∷ earlier

-- no job was put, or one with this tag and this work was put last
abbrev pub MayArrive : Tag → Act → List Job → List Job → Type 0
MayArrive tag act before after = Advances before after ⊎ ((phase : Phase) × Arrives tag act phase before after)

-- What a begin does to the jobs, by its answer. Begun: the one job was put last. Refused: no job was put, or a broken
-- one. Failed: the one job was put or none.
abbrev pub BeginsAs : Tag → Act → BeginAnswer → List Job → List Job → Type 0
BeginsAs tag act begin.Begun before after = (phase : Phase) × Arrives tag act phase before after
BeginsAs tag act (begin.Refused code) before after = Advances before after
    ⊎ ((other : ℕ) × Arrives tag act (Broken other) before after)
BeginsAs tag act begin.Failed before after = MayArrive tag act before after

-- what a look tells of the jobs: a running one was running when it was asked for, and all else is as it is once
-- answered
abbrev pub LooksAs : Tag → LookAnswer → List Job → List Job → Type 0
LooksAs tag look.Absent before after = phase_of tag after ≡ None
LooksAs tag look.Running before after = phase_of tag before ≡ Some Running
LooksAs tag (look.Done name) before after = phase_of tag after ≡ Some (Done name)
LooksAs tag (look.Broken code) before after = phase_of tag after ≡ Some (Broken code)
LooksAs tag look.Aborted before after = phase_of tag after ≡ Some Aborted
LooksAs tag look.Failed before after = Unit {0}

-- What the calls on jobs answered: the begins that were taken or refused, with the codes of the latter, the tags of
-- which an abort was asked, and the looks that were answered, each the latest first.
pub record Answered : Type 0 where
  pub begins : List BeginAnswer
  pub aborted : List Tag
  pub looks : List (Tag × LookAnswer)

-- no call on jobs was answered
abbrev pub unanswered : Answered
unanswered = record { begins = []; aborted = []; looks = [] }

-- the answers with that to a begin
abbrev pub begin_answered : BeginAnswer → Answered → Answered
begin_answered begin.Failed l = l
begin_answered answer l = record l { begins = answer ∷ l.begins }

-- the answers with that to a look at the job of this tag
abbrev pub look_answered : Tag → LookAnswer → Answered → Answered
look_answered tag look.Failed l = l
look_answered tag answer l = record l { looks = (tag, answer) ∷ l.looks }

-- the answers with that to an abort of the job of this tag
abbrev pub abort_answered : Tag → AbortAnswer → Answered → Answered
abort_answered tag abort.Asked l = record l { aborted = tag ∷ l.aborted }
abort_answered tag abort.Failed l = l
