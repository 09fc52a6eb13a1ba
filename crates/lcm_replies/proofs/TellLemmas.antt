-- Bytes that go out one piece after another.
use Rattle.std.proofs.Common.{◌≡◌, ◌≤◌, ◌<◌, ◌⊎◌, inl, inr, ◌+◌, ◌-◌, ℕ, zero, suc, List, [], ◌∷◌, ◌++◌, take, drop, length, ap, ◌∙◌, sym}
use Rattle.std.proofs.Common.{subst, arith, append_assoc, refl, length-drop, Result, Ok, Err, if◌then◌else◌}
use Rattle.std.proofs.Math.Seq.{take-add, take-append-add}
use Rattle.std.proofs.lemmas.Bool.{cases_lt, le-ltb, lt-ltb}
use Rattle.std.proofs.lemmas.List.{take_all}
use Rattle.site_traits.specs.Counts.{one_more}
use Rattle.site_traits.specs.Door.{Conn, DoorState, ConnIs, WriteCounts, asked_for, has_written, write_broke}
use Rattle.site_traits.specs.declared.door.WriteAnswer.TheVariants as write
use Rattle.lcm_replies.specs.Telling.{AsksWrites, WorldTells, Writes, many_more, one_piece}
use Rattle.lcm_replies.specs.declared.door.DoorFailed.{DoorFailed}

-- what was taken of the rest makes the front longer
pub front_more : (bytes : List ℕ) (at n : ℕ) → at + n ≤ length bytes
    → take at bytes ++ take n (take (length bytes - at) (drop at bytes)) ≡ take (at + n) bytes
front_more bytes at n within =
    ap (λ rest. take at bytes ++ take n rest) (take_all (length bytes - at) (drop at bytes) (omega (arith, length-drop at bytes)))
    ∙ sym (take-add at n bytes)

-- two pieces after one another
pub written-twice : (x y : List ℕ) (c : Conn) → has_written y (has_written x c) ≡ has_written (x ++ y) c
written-twice x y c = ap (λ out. record c { out = out }) (append_assoc c.out x y)

pub tells_more : (x y : List ℕ) (a b c : DoorState) → ConnIs (has_written x a.conn) a b → ConnIs (has_written y b.conn) b c
    → ConnIs (has_written (x ++ y) a.conn) a c
tells_more x y a b c first second = record {
  answers = second.answers ∙ first.answers;
  conn = second.conn ∙ ap (has_written y) first.conn ∙ written-twice x y a.conn;
  past = second.past ∙ first.past;
}

-- a front of the first piece is one of both
front_of_both : (n : ℕ) (x y : List ℕ) → (k : ℕ) × (take k (x ++ y) ≡ take n x)
front_of_both zero x y = (0, refl)
front_of_both (suc n) [] y = (0, refl)
front_of_both (suc n) (a ∷ x) y = let rest = front_of_both n x y in (suc rest.0, ap (λ l. a ∷ l) rest.1)

-- where the first piece breaks off, so do both
pub broken_first : (x y : List ℕ) (failed : DoorFailed) (a b : DoorState) → WorldTells x (Err failed) a b
    → WorldTells (x ++ y) (Err failed) a b
broken_first x y failed a b tells =
    let front = front_of_both tells.0 x y in
    (front.0, subst (λ out. ConnIs (write_broke (has_written out a.conn)) a b) (sym front.1) tells.1)

-- the second piece breaks off behind the whole first
broken_second : (x y : List ℕ) (n : ℕ) (a b c : DoorState) → ConnIs (has_written x a.conn) a b
    → ConnIs (write_broke (has_written (take n y) b.conn)) b c
    → ConnIs (write_broke (has_written (take (length x + n) (x ++ y)) a.conn)) a c
broken_second x y n a b c first second = record {
  answers = second.answers ∙ first.answers;
  conn = second.conn ∙ ap (λ conn. write_broke (has_written (take n y) conn)) first.conn
      ∙ ap write_broke (written-twice x (take n y) a.conn)
      ∙ ap (λ out. write_broke (has_written out a.conn)) (sym (take-append-add x y n));
  past = second.past ∙ first.past;
}

-- one piece after the other
pub tells_both : (x y : List ℕ) (result : Result (Unit {0}) DoorFailed) (a b c : DoorState) → ConnIs (has_written x a.conn) a b
    → WorldTells y result b c → WorldTells (x ++ y) result a c
tells_both x y (Ok done) a b c first second = tells_more x y a b c first second
tells_both x y (Err failed) a b c first second = (length x + second.0, broken_second x y second.0 a b c first second.1)

zero_plus : (k : ℕ) → 0 + k ≡ k
zero_plus k = omega arith

-- so many more, and then so many
more_again : (j k n : ℕ) → many_more j (many_more k n) ≡ many_more (j + k) n
unfolding many_more
more_again zero k n = ap (λ m. many_more m n) (sym (zero_plus k))
more_again (suc j) k n =
    let next : suc (j + k) ≡ suc j + k = omega arith in
    ap one_more (more_again j k n) ∙ ap (λ m. many_more m n) next

-- writes behind others
pub writes_on : (whole short more_whole more_short : ℕ) (a b c : WriteCounts) → Writes whole short a b → Writes more_whole more_short b c
    → Writes (whole + more_whole) (short + more_short) a c
writes_on whole short more_whole more_short a b c first second = record {
  made = second.made ∙ ap (many_more (more_whole + more_short)) first.made ∙ more_again (more_whole + more_short) (whole + short) a.made
      ∙ ap (λ k. many_more k a.made) (omega arith);
  shorts = second.shorts ∙ ap (many_more more_short) first.shorts ∙ more_again more_short short a.short
      ∙ ap (λ k. many_more k a.short) (omega arith);
}

-- one piece after the other
pub asks_both : (first rest : ℕ) (done : Unit {0}) (result : Result (Unit {0}) DoorFailed) (a b c : WriteCounts)
    → AsksWrites {E = DoorFailed} first (Ok done) a b → AsksWrites rest result b c → AsksWrites (first + rest) result a c
asks_both first rest done (Ok end) a b c one two = record {
  whole = one.whole + two.whole;
  short = one.short + two.short;
  writes = writes_on one.whole one.short two.whole two.short a b c one.writes two.writes;
  most = omega (arith, one.most, two.most);
  all = omega (arith, one.all, two.all);
}
asks_both first rest done (Err failed) a b c one two = record {
  whole = one.whole + two.whole;
  short = one.short + two.short;
  writes = writes_on one.whole one.short two.whole two.short a b c one.writes two.writes;
  most = omega (arith, one.most, two.most);
  all = tt;
}

-- The writes of a piece so far, where so many of its bytes went out: all took less than they were offered, but for the one that took the
-- last.
pub record SoFar (at size : ℕ) (a b : WriteCounts) : Type 0 where
  pub whole : ℕ
  pub short : ℕ
  pub writes : Writes whole short a b
  pub before : at < size → whole ≡ 0
  pub behind : size ≤ at → whole ≡ one_piece size

-- none was asked for
pub none_so_far : (size : ℕ) (a : WriteCounts) → SoFar 0 size a a
unfolding many_more
none_so_far size a = record {
  whole = 0;
  short = 0;
  writes = record { made = refl; shorts = refl };
  before = λ left. refl;
  behind =
      λ none. omega (arith, none);
}

-- all writes before the last byte went out were short
short_alone : {at size : ℕ} {a b : WriteCounts} → at < size → (far : SoFar at size a b) → b.made ≡ many_more far.short a.made
short_alone {a = a} left far = far.writes.made ∙ ap (λ k. many_more (k + far.short) a.made) (far.before left)
    ∙ ap (λ k. many_more k a.made) (zero_plus far.short)

next : (k : ℕ) → suc k ≡ 1 + k
next k = omega arith

-- one write more, which took some of what was left
pub more_so_far : (at n size : ℕ) (a b c : WriteCounts) → at < size → at + n ≤ size → SoFar at size a b
    → c ≡ asked_for (size - at) (write.Took n) b
    → SoFar (at + n) size a c
unfolding many_more
more_so_far at n size a b c left within far asked = by (cases_lt n (size - at)) where
  made : c.made ≡ many_more (suc far.short) a.made
  made = ap (λ (w : WriteCounts). w.made) asked ∙ ap one_more (short_alone left far)

  by : (n < size - at) ⊎ (size - at ≤ n) → SoFar (at + n) size a c
  by (inl less) = record {
    whole = 0;
    short = suc far.short;
    writes = record {
      made = made ∙ ap (λ k. many_more k a.made) (sym (zero_plus (suc far.short)));
      shorts = ap (λ (w : WriteCounts). w.short) asked ∙ ap (λ is. if is then one_more b.short else b.short) (lt-ltb n (size - at) less)
          ∙ ap one_more far.writes.shorts;
    };
    before = λ more. refl;
    behind = λ none. absurd (omega (arith, none, less));
  }
  by (inr all) = record {
    whole = 1;
    short = far.short;
    writes = record {
      made = made ∙ ap (λ k. many_more k a.made) (next far.short);
      shorts = ap (λ (w : WriteCounts). w.short) asked ∙ ap (λ is. if is then one_more b.short else b.short) (le-ltb n (size - at) all)
          ∙ far.writes.shorts;
    };
    before = λ more. absurd (omega (arith, more, all));
    behind = λ none. omega (arith, left);
  }

-- the piece is told
pub told_whole : (at size : ℕ) (done : Unit {0}) (a b : WriteCounts) → size ≤ at → SoFar at size a b
    → AsksWrites {E = DoorFailed} (one_piece size) (Ok done) a b
told_whole at size done a b all far = record {
  whole = far.whole;
  short = far.short;
  writes = far.writes;
  most =
      omega (arith, far.behind all);
  all = far.behind all;
}

-- a write of the rest failed
pub told_in_part : (at size : ℕ) (failed : DoorFailed) (a b c : WriteCounts) → at < size → SoFar at size a b
    → c ≡ asked_for (size - at) write.Failed b
    → AsksWrites {T = Unit {0}} (one_piece size) (Err failed) a c
unfolding many_more
told_in_part at size failed a b c left far asked = record {
  whole = 1;
  short = far.short;
  writes = record {
    made = ap (λ (w : WriteCounts). w.made) asked ∙ ap one_more (short_alone left far) ∙ ap (λ k. many_more k a.made) (next far.short);
    shorts = ap (λ (w : WriteCounts). w.short) asked ∙ far.writes.shorts;
  };
  most = omega (arith, left);
  all = tt;
}
