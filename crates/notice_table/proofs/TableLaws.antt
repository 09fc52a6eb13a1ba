-- What is seen of the table's rows, and what is reserved beside them.
use Rattle.std.proofs.Common.{Err, Ok, OnOk, Result, ◌≡◌, ◌≤◌, ◌<◌, ◌==◌, ◌∙◌, ◌↔◌, ℕ, List, [], ◌∷◌, false, Option, None, Some, refl, ap}
use Rattle.std.proofs.Common.{sym, subst, map, find, option_map, arith, eqb-true, eq-eqb}
use Rattle.std.specs.List.{All}
use Rattle.std.specs.Prelude.{IsTrue, option_and_then}
use Rattle.std.proofs.lemmas.List.Elements.{All-map}
use Rattle.lcm_events.specs.declared.events.EventKind.{EventKind}
use Rattle.lcm_events.specs.declared.events.EventKind.TheVariants.{Subscribed}
use Rattle.lcm_model.specs.Words.{first}
use Rattle.instance_table.specs.Steps.{Over, Rises}
use Rattle.instance_table.proofs.LiveLaws.{find-map}
use Rattle.subscription_filter.specs.declared.facts.NoticeFacts.{NoticeFacts}
use Rattle.notice_table.specs.Queues.{Queue}
use Rattle.notice_table.specs.Rows.{plain, room, row}
use Rattle.notice_table.specs.Table.{HasRoomForNotice, HasRoomForQueue, IsKept, Shown}
use Rattle.notice_table.specs.declared.queues.QueueRow.{QueueRow}
use Rattle.notice_table.proofs.Lists.{all_of_map, map_twice, rises_of_map, some_same}

-- what a contract sees of these rows
abbrev pub shown : List ℕ → ℕ → List QueueRow → ℕ → Option QueueRow → Shown
shown places ahead rows spare next = record {
  queues = map (plain places) (map row rows);
  ahead = ahead;
  rooms = map room rows;
  spare =
      spare;
  next = option_map (λ r. plain [] (row r)) next;
}

-- what was reserved stays, where the rows have at least as much room
pub kept : (now : Shown) (places : List ℕ) (ahead : ℕ) (rows after : List QueueRow) (spare more : ℕ) (next : Option QueueRow)
    → shown places ahead rows spare next ≡ now → spare ≤ more
    → (All (λ r. 0 < room r) rows → All (λ r. 0 < room r) after) → IsKept now (shown places ahead after more next)
kept now places ahead rows after spare more next e h f =
    subst (λ (s : Shown). IsKept s (shown places ahead after more next)) e (record {
      next = refl;
      spare = h;
      places = λ had. record {
        place = had.place;
        marks = All-map (λ (n : ℕ). 0 < n) room after
            (f (all_of_map (λ (n : ℕ). 0 < n) room rows had.marks));
      };
    })

-- rows whose queues rise do so
pub rises_rows : (places : List ℕ) (rows : List QueueRow) (qs : List Queue) → map (plain places) (map row rows) ≡ qs
    → Rises (λ q. q.number) qs → Rises (λ r. r.number) rows
rises_rows places rows qs seen rises =
    rises_of_map (λ (q : Queue). q.number) (λ r. plain places (row r)) rows
    (subst (λ (zs : List Queue). Rises (λ q. q.number) zs) (sym (map_twice row (plain places) rows ∙ seen)) rises)

-- a queue's first notice, by the row that is found
pub first_seen : (places : List ℕ) (rows ys : List QueueRow) (qs : List Queue) (n : ℕ) (x : Option QueueRow) → ys ≡ rows
    → map (plain places) (map row rows) ≡ qs
    → (Rises (λ r. r.number) ys → x ≡ find (λ r. r.number == n) ys) → Rises (λ q. q.number) qs
    → option_and_then (λ q. first q.waiting) (option_map (λ r. plain places (row r)) x)
    ≡ option_and_then (λ q. first q.waiting) (find (λ q. q.number == n) qs)
first_seen places rows ys qs n x is seen found rises =
    let g : QueueRow → Queue = λ r. plain places (row r) in
    let f : Queue → ℕ = λ q. q.number in
    let here : map (plain places) (map row ys) ≡ qs = ap (λ (zs : List QueueRow). map (plain places) (map row zs)) is ∙ seen in
    let rise : Rises (λ (r : QueueRow). r.number) ys = rises_rows places ys qs here rises in
    ap (λ (y : Option QueueRow). option_and_then (λ (q : Queue). first q.waiting) (option_map g y)) (found rise)
    ∙ ap (λ (y : Option Queue). option_and_then (λ (q : Queue). first q.waiting) y)
    (sym (find-map f g n ys) ∙ ap (λ (zs : List Queue). find (λ (q : Queue). q.number == n) zs) (map_twice row (plain places) ys ∙ here))

pub same_place : (a b : ℕ) → IsTrue (a == b) ↔ (Some a ≡ Some b)
same_place a b = (λ yes. let is : a ≡ b = eqb-true a b yes in ap Some is, λ e. eq-eqb a b (some_same e))

pub no_place : (b : ℕ) → IsTrue false ↔ (None ≡ Some b)
no_place b = (λ yes. cc, λ e. cc)

pub queue_room_same : (k : EventKind) (old new : Shown) → new.next ≡ old.next → new.spare ≡ old.spare → HasRoomForQueue k old
    → HasRoomForQueue k new
queue_room_same (Subscribed s role callback f) old new e h room = let more = room.1 in (e ∙ room.0, omega (arith, h, more))
queue_room_same _ old new e h room = room

pub notice_room_same : (n : Option NoticeFacts) (old new : Shown) → new.ahead ≡ old.ahead → new.rooms ≡ old.rooms → HasRoomForNotice n old
    → HasRoomForNotice n new
notice_room_same None old new a e room = room
notice_room_same (Some n) old new a e room = record {
  place = subst (λ (k : ℕ). 0 < k) (sym a) room.place;
  marks =
      subst (λ (ns : List ℕ). All (λ k. 0 < k) ns) (sym e) room.marks;
}

over_seen : (n : ℕ) (rows : List QueueRow) → Over (λ r. r.number) n rows → Over (λ q. q.number) n (map row rows)
over_seen n [] o = tt
over_seen n (r ∷ rs) o = (o.0, over_seen n rs o.1)

-- rows that rise do so as they are seen
pub rises_seen : (rows : List QueueRow) → Rises (λ r. r.number) rows → Rises (λ q. q.number) (map row rows)
rises_seen [] rise = tt
rises_seen (r ∷ rs) rise = (over_seen r.number rs rise.0, rises_seen rs rise.1)

pub on_ok : {A B : Type 0} → (P Q : Type 0) (r : Result A B) → (P → Q) → OnOk r P → OnOk r Q
on_ok P Q (Ok x) f p = f p
on_ok P Q (Err x) f p = p
