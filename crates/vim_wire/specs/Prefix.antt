-- No line begins another (own format, docs/VIM.md).
use Rattle.std.specs.Prelude.{ℕ, ◌≡◌, List, ◌++◌}
use Rattle.vim_wire.specs.declared.lines.VimCall.{VimCall}
use Rattle.vim_wire.specs.declared.lines.VimReply.{VimReply}
use Rattle.vim_wire.specs.Lines.{IsCall, IsReply, call_line, reply_line}

-- a line of either side
pub data Either : Type 0 where
  called : VimCall → Either
  replied : VimReply → Either

-- its bytes
abbrev pub spelling : Either → List ℕ
spelling (called call) = call_line call
spelling (replied reply) = reply_line reply

-- it has a line
abbrev pub HasLine : Either → Type 0
HasLine (called call) = IsCall call
HasLine (replied reply) = IsReply reply

-- bytes that begin with two lines begin with one (own format)
abbrev pub NoLineBeginsAnother : Type 0
NoLineBeginsAnother =
    (a b : Either) (rest behind : List ℕ) → HasLine a → HasLine b → spelling a ++ rest ≡ spelling b ++ behind
    → (a ≡ b) × (rest ≡ behind)
