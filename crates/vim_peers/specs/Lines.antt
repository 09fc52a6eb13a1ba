-- A reply's line, as a kind of reply (docs/VIM.md).
use Rattle.std.specs.Prelude.{◌≡◌, ℕ, List, Option, Some}
use Rattle.vim_wire.specs.Lines.{IsReply, reply_line}
use Rattle.vim_wire.specs.declared.lines.VimReply.{VimReply}
use Rattle.peer_exchange.specs.declared.replies.Judged.{Judged}
use Rattle.peer_exchange.specs.declared.replies.Judged.TheVariants as judged

-- the bytes are the line of this reply
pub record IsLineOf (bytes : List ℕ) (reply : VimReply) : Type 0 where
  pub sound : IsReply reply
  pub line : bytes ≡ reply_line reply

-- the bytes are no reply's line
abbrev pub IsNoLine : List ℕ → Type 0
IsNoLine bytes = (reply : VimReply) → IsLineOf bytes reply → ⊥

-- what is said of the bytes, where this reply was read: a whole one is the line of that, and neither a part of one nor
-- what never becomes one is a line
abbrev pub LineIs : List ℕ → Option VimReply → Judged → Type 0
LineIs bytes found judged.Whole = (reply : VimReply) × (found ≡ Some reply) × IsLineOf bytes reply
LineIs bytes found judged.Part = IsNoLine bytes
LineIs bytes found judged.Never = IsNoLine bytes
LineIs bytes found judged.Unknown = ⊥
