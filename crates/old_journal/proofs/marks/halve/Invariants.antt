use Rattle.std.proofs.Common.{◌≡◌, ◌≤◌, ◌<◌, ◌*◌, ℕ, List, All, length, get_or, vec_capacity}
use Rattle.old_journal.specs.declared.marks.Mark.{Mark}
use Rattle.old_journal.specs.Marks.{IsMark}
use Rattle.old_journal.proofs.marks.halve.Given as goal

-- the places so far are every second one, and those behind are as they were
abbrev pub invariant-loop-k : goal.invariant-loop-k
invariant-loop-k l = record {
  marks : (rs : List (List ℕ)) → All (IsMark rs) l.fn.kept.items → All (IsMark rs) l.kept.items;
  len : length l.kept.items ≡ length l.fn.kept.items;
  done : (j : ℕ) (d : Mark) → j < l.k → get_or l.kept.items j d ≡ get_or l.fn.kept.items (j * 2) d;
  rest : (j : ℕ) (d : Mark) → l.k ≤ j → get_or l.kept.items j d ≡ get_or l.fn.kept.items j d;
  capacity : vec_capacity l.kept ≡ vec_capacity l.fn.kept;
}
