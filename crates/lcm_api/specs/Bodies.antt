-- What is answered where a request's body wasn't read (RFC 9110 15.5.1; the texts are an own rule).
use Rattle.std.specs.Prelude.{◌≡◌, ◌++◌, Bool, codes}
use Rattle.json_bodies.specs.declared.body.BodyFault.{BodyFault}
use Rattle.json_bodies.specs.declared.body.BodyFault.TheVariants.{Malformed, Lacks, Wrong, Memory}
use Rattle.lcm_replies.specs.Replies.{refusal, starved}
use Rattle.lcm_replies.specs.declared.reply.Reply.{Reply}

-- the answer to a request whose body wasn't read for this
abbrev pub unread : BodyFault → Bool → Reply
unread Malformed last = refusal 400 (codes "malformed JSON") last
unread (Lacks name) last = refusal 400 (codes "missing " ++ name) last
unread (Wrong name) last = refusal 400 (codes "bad " ++ name) last
unread Memory last = starved

-- the reply is that answer, and not for want of memory
abbrev pub IsRefusedBody : BodyFault → Bool → Reply → Type 0
IsRefusedBody Memory last reply = ⊥
IsRefusedBody fault last reply = reply ≡ unread fault last
