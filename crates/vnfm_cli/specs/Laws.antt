-- What holds of every run, by what it does and how it ends.
use Rattle.std.specs.Prelude.{◌≡◌, ◌<◌, ◌⊎◌, ℕ, List, [], ◌++◌, Option, Some, None}
use Rattle.executor.specs.Work.{Extends}
use Rattle.journal_core.specs.Create.{IsMade}
use Rattle.lcm_replies.specs.Response.{text}
use Rattle.lcm_sessions.specs.Session.{Closing, Talk, life, once_answered, replies, reply_last, said}
use Rattle.lcm_mouth.specs.World as session
use Rattle.lcm_mouth.specs.World.{Peers}
use Rattle.lcm_replies.specs.declared.reply.Reply.{Reply}
use Rattle.lcm_events.specs.declared.events.Event.{Event}
use Rattle.lcm_events.specs.declared.states.Role.{Role}
use Rattle.occ_work.specs.Around.{DiskFails}
use Rattle.site_traits.specs.Counts.{Rose, SiteCounts, one_more}
use Rattle.site_traits.specs.Site.{Pair, SiteState}
use Rattle.vnfm_commands.specs.Course.{Course, IsOfWords, ending_of}
use Rattle.vnfm_cli.specs.Deliveries.{PostsInOrder, TellOfWhatStands}
use Rattle.vnfm_cli.specs.DoorFaults.{CountsFaults}
use Rattle.vnfm_commands.specs.Ending.{Ending, Ends, Output}
use Rattle.vnfm_commands.specs.Outside.{Beside, Tells, posting_tells}
use Rattle.vnfm_cli.specs.Headline.{IsFresh, IsFreshPair, IsLeftWith, IsSoundBeginning, IsSoundPair}
use Rattle.vnfm_commands.specs.Rounds.{Receives}
use Rattle.vnfm_commands.specs.Runs.{AtFile, CourseDoes, IsLegalCourse}
use Rattle.vnfm_commands.specs.Words.{AreInit}

-- where the count of disk faults is greater behind a run, its status is 3
abbrev pub DiskFaultsAreTold : Type 0
DiskFaultsAreTold = (status : ℕ) (a b : SiteCounts) → DiskFails (status ≡ 3) a b → a.disk < b.disk → status ≡ 3

-- a run counts each call of the door that failed in it as one fault, and nothing else
abbrev pub DoorFaultsAreCounted : Tells → Type 0
DoorFaultsAreCounted t = (course : Course) (a b : Beside) → CourseDoes t course a b
    → CountsFaults course a.mouth.wire.intake.counts b.mouth.wire.intake.counts

-- a run posts the notices of each subscription in their order (SOL 003 5.4.20)
abbrev pub DeliveriesGoInOrder : Tells → Type 0
DeliveriesGoInOrder t = (course : Course) (a b : Beside) → CourseDoes t course a b → IsLegalCourse course
    → PostsInOrder (posting_tells t) course a.courier b.courier

-- a run posts notices of what stands in the history with which the deliveries of its round began alone, and so in each
-- that goes on from there (own rule)
abbrev pub NoticesTellOfWhatStands : Tells → Type 0
NoticesTellOfWhatStands t = (course : Course) (a b : Beside) → CourseDoes t course a b → TellOfWhatStands course

-- a run puts one line
abbrev pub OneLineIsPut : Type 0 → Type 0
OneLineIsPut tells = (ending : Ending) (status : ℕ) (a b : Output) → Ends tells ending status a b
    → b.counts.calls ≡ one_more a.counts.calls

-- where `init` ends with 0 or 7, the file is a made one of its manager, and nothing is pending
abbrev pub InitMakes : {S : Type 0} → Type 0 → Type 0 → (S → SiteState) → Type 0
InitMakes {S} tells sink state = (words : List (List ℕ)) (course : Course) (status m : ℕ) (a b : S) (c d : Output)
    → IsOfWords words course → (tells → AtFile course (state a) (state b)) → Ends sink (ending_of course) status c d
    → tells → AreInit m words → (status ≡ 0) ⊎ (status ≡ 7) → IsMade m (state b)

-- the bytes of a reply, where there is one
abbrev pub optional_text : Option Reply → List ℕ
optional_text None = []
optional_text (Some reply) = text reply

-- what is told at the end of a session
abbrev pub text_last : ℕ → ℕ → List Event → Option Closing → List ℕ
text_last m saved H None = []
text_last m saved H (Some closing) = optional_text (reply_last m saved H closing.last)

-- Where no call of the door failed, the bytes out of a connection that came are the replies to its requests, and what
-- is told at its end.
pub record HasWholeAnswer (m saved : ℕ) (H : List Event) (talk : Talk) (b : Peers) : Type 0 where
  pub out : b.mouth.wire.intake.door.conn.out ≡ said (replies m saved H talk.asks)
      ++ text_last m saved (life (once_answered m saved) H talk.asks) talk.end

abbrev pub AnswersAreWhole : session.WorldTells → Type 0
AnswersAreWhole t = (m saved : ℕ) (H : List Event) (came : Role) (talk : Talk) (a b : Peers)
    → Receives t m saved H came talk a b → t.door
    → ¬ (Rose a.mouth.wire.intake.counts.faults b.mouth.wire.intake.counts.faults) → HasWholeAnswer m saved H talk b

-- Whatever a stop leaves of a run that began soundly with history H, the next run begins soundly, with a history from H
-- on. So what holds of one run from a sound beginning holds of any number of them (own rule).
abbrev pub LivesGoOn : {S : Type 0} → (S → SiteState) → Type 0
LivesGoOn {S} state = (m : ℕ) (H : List Event) (p : Pair) (s : S) → IsSoundPair m H p → IsLeftWith p (state s)
    → (K : List Event) × Extends H K × IsSoundBeginning m K (state s)

-- Whatever a stopped `init` leaves, the next `init` begins freshly, or the journal is made: then the next run begins
-- soundly, with no event (own rule).
abbrev pub InitsGoOn : {S : Type 0} → (S → SiteState) → Type 0
InitsGoOn {S} state = (m : ℕ) (p : Pair) (s : S) → m < 4294967296 → IsFreshPair m p → IsLeftWith p (state s)
    → IsFresh m (state s) ⊎ IsSoundBeginning m [] (state s)

-- a site whose journal was just made, without a job, is a sound beginning, with no event (own rule)
abbrev pub MadeJournalsBeginSoundly : {S : Type 0} → (S → SiteState) → Type 0
MadeJournalsBeginSoundly {S} state = (m : ℕ) (s : S) → m < 4294967296 → IsMade m (state s) → (state s).jobs ≡ []
    → IsSoundBeginning m [] (state s)
