-- What was asked of an infrastructure's jobs, and what it answered (own rule, docs/VIM.md).
use Rattle.std.specs.Prelude.{Bool}
use Rattle.lcm_events.specs.declared.acts.Act.{Act}
use Rattle.lcm_events.specs.declared.attempts.Tag.{Tag}
use Rattle.site_traits.specs.declared.jobs.BeginAnswer.{BeginAnswer}
use Rattle.site_traits.specs.declared.jobs.LookAnswer.{LookAnswer}
use Rattle.site_traits.specs.declared.jobs.AbortAnswer.{AbortAnswer}

-- one call, with its answer: a connection is to be open, a job is to begin for an attempt with this work, it is looked
-- at, or it is to end
pub data JobCall : Type 0 where
  connecting : Bool → JobCall
  beginning : Tag → Act → BeginAnswer → JobCall
  looking : Tag → LookAnswer → JobCall
  aborting : Tag → AbortAnswer → JobCall
