-- How far a file was read: at a gate, behind one record more, and behind the head of a batch.
use Rattle.std.proofs.Common.{◌≡◌, ◌∙◌, sym, ap, ap₂, subst, ℕ, ◌+◌, ◌-◌, ◌≤◌, zero, suc, List, [], ◌∷◌, ◌++◌, length, take, drop, All, append_assoc}
use Rattle.std.proofs.Common.{length-append, length-drop, refl, arith}
use Rattle.std.proofs.lemmas.List.{take-append-drop, take_at, drop_at, append-nil, take_all}
use Rattle.std.proofs.lemmas.List.Elements.{All-nil}
use Rattle.std.proofs.Math.Seq.{take-add}
use Rattle.journal_records.specs.File.{blocks, content, held, framed, gate_place, records_of_all, IsRecord, IsBatch, HasBatches}
use Rattle.journal_records.specs.Reading.{Reading, standing_at, AreAhead, Gives, StandsBehind, part}
use Rattle.journal_records.proofs.ContentLemmas.{held_length, first_held, each_first, each_rest}
use Rattle.journal_records.proofs.HeadLemmas.{ahead_passed}
use Rattle.journal_core.specs.declared.marks.Mark.{Mark}
use Rattle.journal_core.specs.Marks.{IsMark}
use Rattle.journal_core.specs.Journal.{IsReadUpTo}
use Rattle.journal_core.proofs.Records.{gate_push, records_push, has_length}

-- the gate behind the first of some batches stands before or at the gate behind all
pub gate_le : (k : ℕ) (bs : List (List (List ℕ))) → gate_place (take k bs) ≤ gate_place bs
gate_le zero bs = omega arith
gate_le (suc k) [] = omega arith
gate_le (suc k) (b ∷ bs) =
    omega (arith, gate_le k bs, length-append (framed b) (blocks (take k bs)), length-append (framed b) (blocks bs))

-- a reader that stands at the gate behind the first of the batches, and holds nothing
pub stands_at_gate : (m k place end : ℕ) (bs : List (List (List ℕ))) (image : List ℕ) → HasBatches m bs image → end ≡ gate_place bs
    → place ≡ gate_place (take k bs)
    → IsReadUpTo bs (length (records_of_all (take k bs))) (standing_at place) end image
stands_at_gate m k place end bs image has gate at = record {
  before = take k bs;
  behind = drop k bs;
  records = records_of_all (take k bs);
  splits = sym (take-append-drop k bs);
  many = refl;
  reading = record {
    waiting = [];
    records = sym (append-nil (records_of_all (take k bs)));
    each = All-nil IsRecord;
    bytes = refl;
    left = refl;
    place = omega (arith, at);
    ahead = record {
      long = omega (arith, gate, has_length m bs image has);
      is = refl;
      within = omega (arith, at, gate, gate_le k bs);
    };
  };
}

-- it may be the first gate, or a place that the journal keeps
pub stands_first : (m : ℕ) (bs : List (List (List ℕ))) (end : ℕ) (image : List ℕ) → HasBatches m bs image → end ≡ gate_place bs
    → IsReadUpTo bs 0 (standing_at 32) end image
stands_first m bs end image has gate = stands_at_gate m 0 32 end bs image has gate refl

pub stands_at_mark : (m end : ℕ) (bs : List (List (List ℕ))) (image : List ℕ) (mark : Mark) → HasBatches m bs image → end ≡ gate_place bs
    → IsMark bs mark → IsReadUpTo bs mark.before (standing_at mark.place) end image
stands_at_mark m end bs image mark has gate is =
    let P : ℕ → Type 0 = λ v. IsReadUpTo bs v (standing_at mark.place) end image in
    subst P (sym is.before) (stands_at_gate m is.passed mark.place end bs image has gate is.place)

-- where bytes are left, records are waiting
pub waiting_some : (ws : List (List ℕ)) → 1 ≤ length (content ws) → (w : List ℕ) × (rest : List (List ℕ)) × (ws ≡ w ∷ rest)
waiting_some [] some = absurd (omega arith)
waiting_some (w ∷ rest) some = (w, rest, refl)

-- where none are left, none is
pub waiting_none : (ws : List (List ℕ)) → length (content ws) ≡ 0 → ws ≡ []
waiting_none [] none = refl
waiting_none (w ∷ rest) none = absurd (omega (arith, length-append (held w) (content rest), held_length w))

-- a record in front of bytes, and the first of these
take_part : (q : List ℕ) (k : ℕ) (xs : List ℕ) → take (4 + length q + k) (held q ++ xs) ≡ held q ++ take k xs
take_part q k xs =
    let h = held_length q in
    ap (λ v. take (v + k) (held q ++ xs)) (sym h) ∙ take-add (length (held q)) k (held q ++ xs)
    ∙ ap₂ (λ v w. v ++ take k w) (take_at (held q) xs (length (held q)) refl) (drop_at (held q) xs (length (held q)) refl)

-- one record more is given
pub stands_given : (bs : List (List (List ℕ))) (given : List (List ℕ)) (r n : Reading) (end : ℕ) (image : List ℕ)
    → StandsBehind bs given r end image → Gives r n → StandsBehind bs (given ++ n.record_bytes ∷ []) n end image
stands_given bs given r n end image stands gives =
    let q = n.record_bytes in
    let left = gives.left in
    let some = waiting_some stands.waiting (let l = stands.left in omega arith) in
    let p = some.0 in
    let ws = some.1 in
    let is : stands.waiting ≡ p ∷ ws = some.2 in
    let E : List (List ℕ) → Type 0 = λ v. All IsRecord v in
    let each : All IsRecord (p ∷ ws) = subst E is stands.each in
    let h = held_length q in
    let front : take r.left r.ahead ≡ held q ++ take n.left n.ahead =
    ap₂ (λ k xs. take k xs) left gives.ahead ∙ take_part q n.left n.ahead in
    let both : held q ++ take n.left n.ahead ≡ held p ++ content ws = sym front ∙ stands.bytes ∙ ap content is in
    let first = first_held q p (take n.left n.ahead) (content ws) gives.one (each_first p ws each) both in
    let long : length (content stands.waiting) ≡ 4 + length q + length (content ws) =
    (let e = ap (λ v. length (content v)) is in let a = length-append (held p) (content ws) in let l = held_length p in
    let s = ap length first.0 in omega arith) in
    let passed : drop (4 + length q) r.ahead ≡ n.ahead = ap (drop (4 + length q)) gives.ahead ∙ drop_at (held q) n.ahead (4 + length q) h in
    let there : 4 + length q ≤ length r.ahead =
    (let e = ap length gives.ahead in let a = length-append (held q) n.ahead in omega arith) in
    let A : List ℕ → Type 0 = λ v. AreAhead (r.place + (4 + length q)) v end image in
    let B : ℕ → Type 0 = λ v. AreAhead v n.ahead end image in
    record {
      waiting = ws;
      records = stands.records ∙ ap (λ v. given ++ v) (is ∙ ap (λ v. v ∷ ws) (sym first.0)) ∙ sym (append_assoc given (q ∷ []) ws);
      each = each_rest p ws each;
      bytes = first.1;
      left = (let l = stands.left in omega arith);
      place = (let l = stands.place in let g = gives.place in omega arith);
      ahead = subst B (sym gives.place) (subst A passed (ahead_passed r.place end (4 + length q) r.ahead image stands.ahead there));
    }

-- the head of a batch was passed, where the one before it was read to its end
pub stands_entered : (bs : List (List (List ℕ))) (given : List (List ℕ)) (r n : Reading) (end : ℕ) (image : List ℕ) (b : List (List ℕ))
    → StandsBehind bs given r end image → r.left ≡ 0 → IsBatch b → take n.left n.ahead ≡ content b → n.left ≡ length (content b)
    → n.place ≡ r.place + 5 → AreAhead n.place n.ahead end image
    → StandsBehind (bs ++ b ∷ []) given n end image
stands_entered bs given r n end image b stands none one bytes left place ahead =
    let nothing : stands.waiting ≡ [] = waiting_none stands.waiting (sym stands.left ∙ none) in
    let all : records_of_all bs ≡ given = stands.records ∙ ap (λ v. given ++ v) nothing ∙ append-nil given in
    record {
      waiting = b;
      records = records_push bs b ∙ ap (λ v. v ++ b) all;
      each = one.each;
      bytes = bytes;
      left = left;
      place = (let p = stands.place in let g = gate_push bs b in omega arith);
      ahead = ahead;
    }

-- all records of the batches were given where nothing is left of the last
pub all_given : (bs : List (List (List ℕ))) (given : List (List ℕ)) (r : Reading) (end : ℕ) (image : List ℕ)
    → StandsBehind bs given r end image → r.left ≡ 0 → records_of_all bs ≡ given
all_given bs given r end image stands none =
    stands.records ∙ ap (λ v. given ++ v) (waiting_none stands.waiting (sym stands.left ∙ none)) ∙ append-nil given

-- the bytes from a place on up to the end of a file are all from there on
pub part_all : (place end : ℕ) (image : List ℕ) → end ≡ length image → part place end image ≡ drop place image
part_all place end image is = take_all (end - place) (drop place image) (let d = length-drop place image in omega arith)
