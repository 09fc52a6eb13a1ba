-- What a reply says, by its line alone.
use Rattle.std.proofs.Common.{◌≡◌, ℕ, List, [], ◌∷◌, ◌++◌, length, refl, sym, ap, ◌∙◌, arith}
use Rattle.std.proofs.lemmas.List.{length-append}
use Rattle.vim_wire.specs.Lines.{reply_fields}
use Rattle.vim_wire.specs.Parts.{joined}
use Rattle.vim_wire.specs.Prefix.{Either, called, replied}
use Rattle.vim_wire.specs.declared.lines.VimReply.{VimReply}
use Rattle.vim_wire.proofs.SameLaws.{first_line}
use Rattle.vim_peers.specs.Lines.{IsLineOf, IsNoLine}
use Rattle.vim_peers.specs.Links.{IsSaid}

-- one line is that of one reply
pub one_reply : (came : List ℕ) (a b : VimReply) → IsLineOf came a → IsLineOf came b → a ≡ b
one_reply came a b x y = ap reply_in (first_line (replied a) (replied b) [] [] x.sound y.sound (ap (λ l. l ++ []) (sym x.line ∙ y.line))).0
  where
    reply_in : Either → VimReply
    reply_in (called call) = a
    reply_in (replied reply) = reply

-- nothing is no reply's line
pub nothing_is_no_line : (came : List ℕ) → came ≡ [] → IsNoLine came
nothing_is_no_line came nothing reply line =
    absurd (omega (arith, ap length (sym nothing ∙ line.line), length-append (joined 32 (reply_fields reply)) (10 ∷ [])))

-- the answer is what the reply says that came
pub said_by : {A : Type 0} (by : VimReply → A) (failed : A) (came : List ℕ) (reply : VimReply) (answer : A) → IsLineOf came reply
    → answer ≡ by reply → IsSaid by failed came answer
said_by by failed came reply answer line is = record {
  said = λ other there. is ∙ ap by (one_reply came reply other line there);
  unsaid = λ none. absurd (none reply line);
}

-- the call failed, where no reply's line came
pub unsaid_by : {A : Type 0} (by : VimReply → A) (failed : A) (came : List ℕ) → IsNoLine came → IsSaid by failed came failed
unsaid_by by failed came none = record { said = λ reply line. absurd (none reply line); unsaid = λ is_none. refl }
