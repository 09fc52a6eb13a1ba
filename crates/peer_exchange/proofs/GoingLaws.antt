-- A reply that is read on.
use Rattle.std.proofs.Common.{◌≡◌, ◌≤◌, ℕ, List, [], ◌++◌, length, take, drop, sym, ap, ◌∙◌, arith}
use Rattle.std.proofs.lemmas.List.{append-nil, append_assoc, take-append-drop}
use Rattle.std.proofs.lemmas.Grind.{common_steps}
use Rattle.host_calls.specs.Streams.{Got, Incoming}
use Rattle.peer_exchange.specs.Exchanges.{HasJudgedFront}
use Rattle.peer_exchange.specs.GoingOn.{ReadsOn}

-- a front that is as long as a piece is that of the piece's front
front_of_piece : (n : ℕ) (left rest piece : List ℕ) → n ≤ length left → piece ≡ take n left ++ rest → take n piece ≡ take n left
front_of_piece n left rest piece within is = grind (arith, common_steps)

-- what is read next comes behind what was read before
pub reads_more : (n : ℕ) (before at after old_piece new_piece : List ℕ) (i j k : Incoming) → ReadsOn before at i j
    → Got old_piece new_piece n j k → after ≡ at ++ take n new_piece → ReadsOn before after i k
reads_more n before at after old_piece new_piece i j k x got is =
    let front = front_of_piece n j.left (drop n old_piece) new_piece got.within got.piece in
    record {
      some = x.some ++ take n j.left;
      behind = is ∙ ap (λ p. at ++ p) front ∙ ap (λ a. a ++ take n j.left) x.behind ∙ append_assoc before x.some (take n j.left);
      read = record {
        left = x.read.left ∙ ap (λ l. x.some ++ l) (sym (take-append-drop n j.left) ∙ ap (λ l. take n j.left ++ l) (sym got.left))
            ∙ sym (append_assoc x.some (take n j.left) k.left);
        bytes = got.bytes ∙ x.read.bytes;
      };
    }

-- what was judged is a front of itself
pub judged_all : (judged : List ℕ → Type 0) (some bytes : List ℕ) → some ≡ bytes → judged some → HasJudgedFront judged bytes
judged_all judged some bytes is was = record { front = some; more = []; is = sym is ∙ sym (append-nil some); was = was }
