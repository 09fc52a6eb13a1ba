-- Where no call of the door failed, a connection got all that was to be told.
use Rattle.std.proofs.Common.{◌≡◌, ◌∙◌, ℕ, List, [], ◌++◌, ◌&&◌, Bool, true, false, arith, Option, Some, None, Result, Ok, Err, ap, refl}
use Rattle.std.specs.Prelude.{is_some}
use Rattle.std.specs.Result.{is_err}
use Rattle.lcm_replies.specs.Failing.{counts_by}
use Rattle.lcm_sessions.specs.Session.{Closing, Last, over, unheard, untold, starving, breaking, counts_behind, has_reply, is_cut, is_lost}
use Rattle.lcm_sessions.specs.Session.{life, once_answered, replies, reply_last, said}
use Rattle.lcm_mouth.specs.World.{WorldTells}
use Rattle.lcm_sessions.specs.Talking.{IsSaid, SaysLast}
use Rattle.lcm_replies.specs.declared.door.DoorFailed.{DoorFailed}
use Rattle.lcm_replies.specs.declared.reply.Reply.{Reply}
use Rattle.lcm_events.specs.declared.events.Event.{Event}
use Rattle.site_traits.specs.Counts.{Rose}
use Rattle.site_traits.specs.Door.{DoorCounts}
use Rattle.vnfm_cli.specs.Laws.{AnswersAreWhole, optional_text, text_last}
use Rattle.vnfm_cli.proofs.AnswerLemmas.{fresh_out, out_is}

said_whole : (reply : Option Reply) (told : Result (Unit {0}) DoorFailed) (bytes : List ℕ) → IsSaid reply told bytes
    → ((is_some reply && is_err told) ≡ true → ⊥) → bytes ≡ optional_text reply
said_whole (Some reply) (Ok done) bytes is fine = is
said_whole None (Ok done) bytes is fine = is
said_whole (Some reply) (Err failed) bytes is fine = absurd (fine refl)
said_whole None (Err failed) bytes is fine = absurd is

-- something is told at an end exactly where it has a reply
replied : (m saved : ℕ) (H : List Event) (last : Last) → has_reply last ≡ is_some (reply_last m saved H last)
replied m saved H over = refl
replied m saved H (unheard cause reply) = refl
replied m saved H (untold x) = refl
replied m saved H (starving x) = refl
replied m saved H (breaking x) = refl

-- what was lost is counted
lost_rose : (cut lost : Bool) (a b : DoorCounts) → b ≡ counts_by lost (counts_by cut a) → lost ≡ true → Rose a.faults b.faults
lost_rose cut false a b is lost = absurd (cc lost)
lost_rose true true a b is lost = rw is (omega arith)
lost_rose false true a b is lost = rw is (omega arith)

last_whole : (m saved : ℕ) (H : List Event) (closing : Option Closing) (a b : DoorCounts) (bytes : List ℕ) → SaysLast m saved H closing bytes
    → b ≡ counts_behind closing a → (Rose a.faults b.faults → ⊥)
    → bytes ≡ text_last m saved H closing
last_whole m saved H None a b bytes is counts fine = is
last_whole m saved H (Some closing) a b bytes is counts fine =
    said_whole (reply_last m saved H closing.last) closing.told bytes is
    (λ lost. fine (lost_rose (is_cut closing.last) (is_lost closing) a b counts (rw (replied m saved H closing.last) lost)))

pub whole_answer : (t : WorldTells) → AnswersAreWhole t
whole_answer t m saved H came talk a b receives told fine =
    let attends = receives.attends in
    let speaks = attends.holds.speaks told in
    let fresh : receives.between.wire.intake.door.conn.out ≡ [] = fresh_out came _ _ (receives.comes told) in
    let before : receives.between.wire.intake.counts.faults ≡ a.mouth.wire.intake.counts.faults =
    ap (λ (k : DoorCounts). k.faults) receives.counts in
    let behind : b.mouth.wire.intake.counts.faults ≡ attends.between.wire.intake.counts.faults =
    ap (λ (k : DoorCounts). k.faults) attends.counts in
    let final = last_whole m saved (life (once_answered m saved) H talk.asks) talk.end receives.between.wire.intake.counts
    attends.between.wire.intake.counts speaks.final speaks.final_is attends.holds.faults
    (λ rose. fine (rw (← before, behind) rose)) in
    record {
      out = out_is _ attends.between.wire.intake.door b.mouth.wire.intake.door (attends.gone told) ∙ speaks.door.out
          ∙ ap (λ (t : List ℕ). t ++ (said (replies m saved H talk.asks) ++ speaks.final)) fresh
          ∙ ap (λ (t : List ℕ). said (replies m saved H talk.asks) ++ t) final;
    }
