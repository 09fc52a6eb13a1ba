-- The places that a journal keeps, where records are added.
use Rattle.std.proofs.Common.{◌≡◌, ◌∙◌, sym, ap, ℕ, List, [], ◌∷◌, ◌++◌, length, All, length-append, refl, arith}
use Rattle.std.proofs.lemmas.List.{take_at, take-append-le}
use Rattle.std.proofs.lemmas.List.Elements.{All-weaker}
use Rattle.old_journal.specs.declared.marks.Mark.{Mark}
use Rattle.old_journal.specs.File.{size}
use Rattle.old_journal.specs.Marks.{IsMark, first_mark}

-- the place of the first gate is one, whatever the records
pub mark_first : (rs : List (List ℕ)) → IsMark rs first_mark
mark_first rs = record { within = omega arith; place = refl }

-- a place of some records is one of these and more
pub mark_more : (rs : List (List ℕ)) (bytes : List ℕ) (m : Mark) → IsMark rs m → IsMark (rs ++ bytes ∷ []) m
mark_more rs bytes m mark = record {
  within = (let w = mark.within in omega (arith, length-append rs (bytes ∷ [])));
  place = mark.place ∙ ap size (sym (take-append-le m.before rs (bytes ∷ []) mark.within));
}

pub marks_more : (rs : List (List ℕ)) (bytes : List ℕ) (marks : List Mark) → All (IsMark rs) marks
    → All (IsMark (rs ++ bytes ∷ [])) marks
marks_more rs bytes marks all = All-weaker (IsMark rs) (IsMark (rs ++ bytes ∷ [])) (mark_more rs bytes) marks all

-- the place behind all records is one of these and one more
pub mark_end : (rs : List (List ℕ)) (bytes : List ℕ) (m : Mark) → m.before ≡ length rs → m.place ≡ size rs
    → IsMark (rs ++ bytes ∷ []) m
mark_end rs bytes m before place = record {
  within = omega (arith, length-append rs (bytes ∷ []));
  place = place ∙ ap size (sym (take_at rs (bytes ∷ []) m.before (sym before)));
}
