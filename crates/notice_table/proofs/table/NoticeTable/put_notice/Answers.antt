use Rattle.std.proofs.Common.{◌∙◌, ◌+◌, ◌++◌, ◌<◌, ◌^◌, ◌≡◌, ℕ, [], ◌∷◌, List, ap, arith, drop, false, length, length-append, map, subst}
use Rattle.std.proofs.Common.{sym, take}
use Rattle.std.specs.List.{All, list_any}
use Rattle.std.proofs.lemmas.List.Elements.{All-same}
use Rattle.lcm_model.specs.Notices.{matches}
use Rattle.subscription_filter.specs.Facts.{facts_in}
use Rattle.notice_table.specs.Rows.{IsWithin, Row, asked, longest, plain, room, row, with_place}
use Rattle.notice_table.specs.Steps.{heard}
use Rattle.notice_table.specs.Table.{HasPlaces, Shown}
use Rattle.notice_table.specs.declared.queues.QueueRow.{QueueRow}
use Rattle.notice_table.proofs.Lists.{all_of_map, front}
use Rattle.notice_table.proofs.RowLaws.{all_asked, all_longest, all_placed, asked_too, heard_rows, kept_rows, last_length, longest_placed}
use Rattle.notice_table.proofs.RowLaws.{none_hears}
use Rattle.notice_table.proofs.table.NoticeTable.put_notice.Goals as goal

pub put_place-requires-clause-room : goal.put_place-requires-clause-room
put_place-requires-clause-room c =
    let rows : List QueueRow = c.self.inside.queues.items in
    let had = subst (λ (s : Shown). HasPlaces s) (sym c.self.view_is) c.requires.room in
    asked_too c.args.notice.now.manager (facts_in c.args.notice.now) (λ r. 0 < room r)
    (λ r h. h) rows c.as_mut_slice-queues.result.now c.ask_all.new.queues c.as_mut_slice-queues.ensures.value c.ask_all.ensures.rows
    (all_of_map (λ (n : ℕ). 0 < n) room rows had.marks)

pub put_place-requires-clause-bound : goal.put_place-requires-clause-bound
put_place-requires-clause-bound c =
    let t = c.self.inside in
    let rows : List QueueRow = t.queues.items in
    let within = all_of_map (IsWithin (length t.places.items)) row rows c.self.invariant.rows in
    asked_too c.args.notice.now.manager (facts_in c.args.notice.now) (λ r. length r.marks.marks < 2 ^ 63)
    (λ r h. h) rows c.as_mut_slice-queues.result.now c.ask_all.new.queues c.as_mut_slice-queues.ensures.value c.ask_all.ensures.rows
    (λ k d h. let low = (within k d h).length in omega (arith, low, t.places.ok.0, t.places.small))

pub invariant_of-self : goal.invariant_of-self
invariant_of-self c =
    let t = c.self.inside in
    let m = c.args.notice.now.manager in
    let f = facts_in c.args.notice.now in
    let n = length t.places.items in
    let k = longest (map row c.put_place.new.queues) in
    let same : map row c.put_place.new.queues ≡ map with_place (map row (map (asked m f) t.queues.items)) =
    c.put_place.ensures.rows ∙ ap (λ (rs : List QueueRow). map with_place (map row rs))
    (c.ask_all.ensures.rows ∙ ap (map (asked m f)) c.as_mut_slice-queues.ensures.value) in
    let is : k ≡ longest (map with_place (map row (map (asked m f) t.queues.items))) = ap longest same in
    let most = longest_placed m f n t.queues.items c.self.invariant.rows in
    let behind : length (t.places.items ++ c.args.place ∷ []) ≡ n + 1 = length-append t.places.items (c.args.place ∷ []) in
    let left : length c.put_place.new.places.items ≡ k =
    ap length c.put_place.ensures.places ∙ last_length k (t.places.items ++ c.args.place ∷ []) (omega (arith, is, most, behind)) in
    let rows : List QueueRow = c.put_place.new.queues in
    let written : List QueueRow = take t.queues.len (rows ++ drop (length rows) t.queues.items) in
    let whole : written ≡ rows = front t.queues.len rows (drop (length rows) t.queues.items)
    (omega (arith, c.as_mut_slice-queues.ensures.len, c.ask_all.auto.queues, c.put_place.auto.queues)) in
    let all = all_placed m f n k t.queues.items c.self.invariant.rows (omega (arith, is)) in
    record {
      rows = subst (λ (j : ℕ). All (IsWithin j) (map row written)) (sym left)
          (All-same (IsWithin k) (map row written) (map with_place (map row (map (asked m f) t.queues.items)))
          (ap (map row) whole ∙ same) all);
      next = c.self.invariant.next;
    }

pub returns-then-ask_all-clause-queues : goal.returns-then-ask_all-clause-queues
returns-then-ask_all-clause-queues c =
    let t = c.self.inside in
    let m = c.args.notice.now.manager in
    let f = facts_in c.args.notice.now in
    let ps : List ℕ = t.places.items ++ c.args.place ∷ [] in
    let rows : List Row = map row c.put_place.new.queues in
    let same : rows ≡ map with_place (map row (map (asked m f) t.queues.items)) =
    c.put_place.ensures.rows ∙ ap (λ (rs : List QueueRow). map with_place (map row rs))
    (c.ask_all.ensures.rows ∙ ap (map (asked m f)) c.as_mut_slice-queues.ensures.value) in
    ap (λ (rs : List QueueRow). map (plain c.put_place.new.places.items) (map row rs))
    (front t.queues.len c.put_place.new.queues _ (omega (
      arith,
      c.as_mut_slice-queues.ensures.len,
      c.ask_all.auto.queues,
      c.put_place.auto.queues,
    )))
    ∙ (ap (λ (qs : List ℕ). map (plain qs) rows) c.put_place.ensures.places
    ∙ (kept_rows (longest rows) ps rows (all_longest (longest rows) rows (omega arith))
    ∙ (ap (map (plain ps)) same
    ∙ (heard_rows m f c.args.place t.places.items t.queues.items c.self.invariant.rows
    ∙ ap (λ (s : Shown). map (heard m c.args.place f) s.queues) c.self.view_is))))

pub invariant_of-self-else-ask_all : goal.invariant_of-self-else-ask_all
invariant_of-self-else-ask_all c =
    let t = c.self.inside in
    let m = c.args.notice.now.manager in
    let f = facts_in c.args.notice.now in
    let n = length t.places.items in
    record {
      rows = All-same (IsWithin n) _ _ (ap (map row) (front t.queues.len c.ask_all.new.queues _
          (omega (arith, c.as_mut_slice-queues.ensures.len, c.ask_all.auto.queues))
          ∙ (c.ask_all.ensures.rows ∙ ap (map (asked m f)) c.as_mut_slice-queues.ensures.value)))
          (all_asked m f n t.queues.items c.self.invariant.rows);
      next = c.self.invariant.next;
    }

pub returns-else-ask_all-clause-queues : goal.returns-else-ask_all-clause-queues
returns-else-ask_all-clause-queues c =
    let t = c.self.inside in
    let m = c.args.notice.now.manager in
    let f = facts_in c.args.notice.now in
    let none : list_any (λ q. matches m q.filter f) t.queues.items ≡ false =
    ap (list_any (λ (q : QueueRow). matches m q.filter f)) (sym c.as_mut_slice-queues.ensures.value)
    ∙ (sym c.ask_all.ensures.answer ∙ c.if-ask_all.false) in
    ap (λ (rs : List QueueRow). map (plain t.places.items) (map row rs))
    (front t.queues.len c.ask_all.new.queues _ (omega (arith, c.as_mut_slice-queues.ensures.len, c.ask_all.auto.queues))
    ∙ (c.ask_all.ensures.rows ∙ ap (map (asked m f)) c.as_mut_slice-queues.ensures.value))
    ∙ (none_hears m f c.args.place t.places.items t.queues.items none
    ∙ ap (λ (s : Shown). map (heard m c.args.place f) s.queues) c.self.view_is)
