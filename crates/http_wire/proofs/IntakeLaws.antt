-- Laws on reading.
use Rattle.std.proofs.Common.{◌≡◌, ℕ, ◌≤◌, List, [], ◌++◌, length, take, drop, refl, sym, ap, ◌∙◌, subst, arith, append_assoc, append-nil}
use Rattle.std.proofs.Common.{length-append}
use Rattle.std.proofs.lemmas.List.{take_at, take-append-drop, length-take-le}
use Rattle.site_traits.specs.Counts.{Rose, one_more}
use Rattle.site_traits.specs.Door.{DoorState, DoorCounts, Gets}
use Rattle.http_wire.specs.declared.request.WireFault.{WireFault}
use Rattle.http_wire.specs.Wire.{FaultCounts}
use Rattle.http_wire.specs.Intake.{IntakeState, OnlyReads, TakesIn}

-- what a read brought was read
pub got_reads : (n : ℕ) (before after : List ℕ) (a b : DoorState) → Gets n before after a b → OnlyReads (take n after) a b
got_reads n before after a b gets =
    let front : take n after ≡ take n a.conn.left =
    ap (take n) gets.piece ∙ take_at (take n a.conn.left) (drop n before) n (length-take-le n a.conn.left gets.within) in
    record {
      answers = gets.conn.answers;
      past = gets.conn.past;
      bytes = ap (λ x. x.bytes) gets.conn.conn;
      left = sym (take-append-drop n a.conn.left) ∙ ap (λ x. x ++ drop n a.conn.left) (sym front)
          ∙ ap (λ x. take n after ++ x) (sym (ap (λ x. x.left) gets.conn.conn));
      out = ap (λ x. x.out) gets.conn.conn;
      write_failed = ap (λ x. x.write_failed) gets.conn.conn;
      hung_up = ap (λ x. x.hung_up) gets.conn.conn;
    }

pub reads_none : (a : DoorState) → OnlyReads [] a a
reads_none a = record { answers = refl; past = refl; bytes = refl; left = refl; out = refl; write_failed = refl; hung_up = refl }

pub reads_on : (x y : List ℕ) (a b c : DoorState) → OnlyReads x a b → OnlyReads y b c → OnlyReads (x ++ y) a c
reads_on x y a b c f s = record {
  answers = s.answers ∙ f.answers;
  past = s.past ∙ f.past;
  bytes = s.bytes ∙ f.bytes;
  left = f.left ∙ ap (λ z. x ++ z) s.left ∙ sym (append_assoc x y c.conn.left);
  out = s.out ∙ f.out;
  write_failed = s.write_failed ∙ f.write_failed;
  hung_up = s.hung_up ∙ f.hung_up;
}

-- nothing was read
pub takes_none : (tells : Type 0) (a : IntakeState) → TakesIn tells a a
takes_none tells a = record {
  more = [];
  held = sym (append-nil a.held);
  door = λ t. reads_none a.door;
  counts =
      record { faults = omega arith; next = refl; up = refl };
  writes = refl;
}

-- one reading behind the other
pub takes_on : (tells : Type 0) (a b c : IntakeState) → TakesIn tells a b → TakesIn tells b c → TakesIn tells a c
takes_on tells a b c f s = record {
  more = f.more ++ s.more;
  held = s.held ∙ ap (λ x. x ++ s.more) f.held ∙ append_assoc a.held f.more s.more;
  door = λ t. reads_on f.more s.more a.door b.door c.door (f.door t) (s.door t);
  counts = record {
    faults = omega (arith, f.counts.faults, s.counts.faults);
    next = s.counts.next ∙ f.counts.next;
    up =
        s.counts.up ∙ f.counts.up;
  };
  writes = s.writes ∙ f.writes;
}

-- no byte that is held goes
pub takes_length : (tells : Type 0) (a b : IntakeState) → TakesIn tells a b → length a.held ≤ length b.held
takes_length tells a b t = omega (arith, ap length t.held, length-append a.held t.more)

-- a count that one more was added to later rose
pub rose_since : (x y z : ℕ) → x ≤ y → z ≡ one_more y → Rose x z
rose_since x y z le rose = omega arith

-- what a fault leaves of the counts, where nothing failed before it
pub counts_since : (f : WireFault) (a b c : DoorCounts) → b ≡ a → FaultCounts f b c → FaultCounts f a c
counts_since f a b c same counts = subst (λ (x : DoorCounts). FaultCounts f x c) same counts
