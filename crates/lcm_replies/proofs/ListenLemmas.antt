-- Bytes that come in one piece after another.
use Rattle.std.proofs.Common.{◌≡◌, ◌≤◌, ◌+◌, ◌-◌, ℕ, List, [], ◌++◌, take, drop, length, ap, ◌∙◌, sym, arith, false}
use Rattle.std.proofs.Math.Seq.{take-add, take-append-add}
use Rattle.std.proofs.lemmas.List.{drop-drop, length-append, length-drop, length-take-le, take-append-le, take-take, take_all}
use Rattle.site_traits.specs.Door.{Conn, DoorState, ConnIs, Gets, has_read}
use Rattle.lcm_replies.specs.Hearing.{Hears}

-- the first n bytes of the room are the next ones of the connection as it was at first
pub record HeardSoFar (n : ℕ) (room : List ℕ) (a b : DoorState) : Type 0 where
  pub conn : ConnIs (has_read n a.conn) a b
  pub front : take n room ≡ take n a.conn.left
  pub within : n ≤ length a.conn.left

-- what follows the next bytes of a connection follows them in all
read_on : (n k : ℕ) (c : Conn) → has_read k (has_read n c) ≡ has_read (n + k) c
read_on n k c = ap (λ left. record c { left = left }) (drop-drop k n c.left)

-- one piece more was read, behind the first n bytes of the room
pub heard_more : (n k : ℕ) (room before into room2 : List ℕ) (a b c : DoorState) → n ≤ length room
    → take (n + length into) room2 ≡ take n room ++ into
    → HeardSoFar n room a b → Gets k before into b c → HeardSoFar (n + k) room2 a c
heard_more n k room before into room2 a b c within put so_far got =
    let left : b.conn.left ≡ drop n a.conn.left = ap (λ (x : Conn). x.left) so_far.conn.conn in
    let fits : k ≤ length (drop n a.conn.left) = rw left at got.within in
    let rest : length (drop n a.conn.left) ≡ length a.conn.left - n = length-drop n a.conn.left in
    let piece : length (take k b.conn.left) ≡ k = length-take-le k b.conn.left got.within in
    let long : length into ≡ length (take k b.conn.left) + length (drop k before) =
    ap length got.piece ∙ length-append (take k b.conn.left) (drop k before) in
    let front : take k into ≡ take k (drop n a.conn.left) =
    ap (take k) got.piece ∙ take-append-le k (take k b.conn.left) (drop k before) (omega (arith, piece))
    ∙ take_all k (take k b.conn.left) (omega (arith, piece)) ∙ ap (take k) left in
    let size : length (take n room) ≡ n = length-take-le n room within in
    let joined : take (n + k) (take n room ++ into) ≡ take n room ++ take k into =
    ap (λ m. take (m + k) (take n room ++ into)) (sym size) ∙ take-append-add (take n room) into k in
    let shorter : take (n + k) (take (n + length into) room2) ≡ take (n + k) room2 =
    take-take (n + k) (n + length into) room2 (omega (arith, long, piece)) in
    record {
      conn = record {
        answers = got.conn.answers ∙ so_far.conn.answers;
        conn = got.conn.conn ∙ ap (has_read k) so_far.conn.conn ∙ read_on n k a.conn;
        past = got.conn.past ∙ so_far.conn.past;
      };
      front = sym shorter ∙ ap (take (n + k)) put ∙ joined ∙ ap (λ x. x ++ take k into) so_far.front
          ∙ ap (λ x. take n a.conn.left ++ x) front ∙ sym (take-add n k a.conn.left);
      within = omega (arith, fits, rest, so_far.within);
    }

hears_front : (most n : ℕ) (room : List ℕ) (a b : DoorState) → n ≤ most → length room ≡ most → HeardSoFar n room a b
    → take n a.conn.left ≡ take most a.conn.left → Hears most (take n room) false a b
hears_front most n room a b within long so_far all =
    let count : length (take n room) ≡ n = length-take-le n room (omega arith) in
    record {
      conn = rw count so_far.conn;
      front = rw count so_far.front;
      whole = λ _. so_far.front ∙ all;
    }

-- nothing is left
pub heard_all : (most n : ℕ) (room : List ℕ) (a b c : DoorState) → n ≤ most → length room ≡ most → HeardSoFar n room a b → b.conn.left ≡ []
    → c ≡ b
    → Hears most (take n room) false a c
heard_all most n room a b c within long so_far none same =
    let left : drop n a.conn.left ≡ [] = ap (λ (k : Conn). k.left) (sym so_far.conn.conn) ∙ none in
    let size : length a.conn.left - n ≡ 0 = sym (length-drop n a.conn.left) ∙ ap length left in
    let all : take n a.conn.left ≡ take most a.conn.left =
    take_all n a.conn.left (omega arith) ∙ sym (take_all most a.conn.left (omega (arith, so_far.within))) in
    rw same (hears_front most n room a b within long so_far all)

-- the room is full
pub heard_full : (most n : ℕ) (room : List ℕ) (a b : DoorState) → n ≤ most → length room ≡ most → length room ≤ n → HeardSoFar n room a b
    → Hears most (take n room) false a b
heard_full most n room a b within long full so_far =
    let n_is : n ≡ most = omega arith in
    hears_front most n room a b within long so_far (ap (λ k. take k a.conn.left) n_is)
