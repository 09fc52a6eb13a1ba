-- A reply, and the replies that no route has for its own (RFC 9110 15, Status Codes; RFC 9457 3).
use Rattle.std.specs.Prelude.{ℕ, List, [], codes, Bool, true, false, None}
use Rattle.json_members.specs.Problem.{problem_text}
use Rattle.lcm_replies.specs.declared.reply.Reply.{Reply}

-- a refusal with this status and this detail, and whether the connection ends with it (RFC 9457 3)
unfoldable pub refusal : ℕ → List ℕ → Bool → Reply
refusal status detail last = record {
  status = status;
  location = None;
  allow = None;
  problem = true;
  body =
      problem_text status detail;
  last = last;
}

-- what was asked for is shown (RFC 9110 15.3.1)
unfoldable pub shown : List ℕ → Bool → Reply
shown body last = record { status = 200; location = None; allow = None; problem = false; body = body; last = last }

-- the refusal of bytes that are no request, after which the connection ends (RFC 9110 15.5.1)
abbrev pub malformed : Reply
malformed = refusal 400 (codes "malformed request") true

-- the refusal of bytes that pass a limit, after which the connection ends (RFC 9110 15.5.14)
abbrev pub too_large : Reply
too_large = refusal 413 (codes "request too large") true

-- a reply that is told without memory: its body is fixed by its status
abbrev pub bare : ℕ → Reply
bare status = record { status = status; location = None; allow = None; problem = true; body = []; last = true }

-- the journal failed (RFC 9110 15.6.1)
abbrev pub faulted : Reply
faulted = bare 500

-- there is no memory (RFC 9110 15.6.4)
abbrev pub starved : Reply
starved = bare 503
