-- In which order a run posts notices, and that the events of which they tell were there.
use Rattle.std.proofs.Common.{◌≡◌, ◌∙◌, ℕ, List, [], ◌∷◌, Some, ap, refl, subst, sym}
use Rattle.std.specs.List.{AllByRecursion}
use Rattle.executor.proofs.WorkLemmas.{extends_refl, extends_trans}
use Rattle.executor.specs.Work.{Extends, aimed}
use Rattle.lcm_events.specs.declared.events.Event.{Event}
use Rattle.lcm_laws.proofs.Histories.{legal_before}
use Rattle.lcm_model.specs.Allowed.{IsLegal}
use Rattle.lcm_model.specs.Work.{window}
use Rattle.lcm_sessions.specs.Session.{life}
use Rattle.notice_table.specs.Queues.{first_waiting}
use Rattle.notify_outbox.specs.Delivering.{held, idle, sent}
use Rattle.notify_outbox.specs.Dispatches.{Dispatch, once_dispatched, outcome_of, posted_event}
use Rattle.notify_outbox.specs.Laws.{NoneIsPostedTooOften, NoneIsSkipped, NoticesGoInOrder, RoundsTellOfTheirBeginning}
use Rattle.notify_outbox.specs.Lent.{Carrier, LentTell}
use Rattle.notify_outbox.specs.Rounds as outbox
use Rattle.notify_outbox.specs.Rounds.{DispatchesDo, RoundEnd, once_all_dispatched}
use Rattle.vnfm_cli.specs.Deliveries.{ArePosted, ComesAfter, IsNext, NeverFalls, PostsInOrder, Sending, TellOfWhatStands}
use Rattle.vnfm_cli.specs.Deliveries.{TellsOfWhatStands, sent_at_close, sent_behind, sent_by, sent_in_rounds, sent_last}
use Rattle.vnfm_commands.proofs.ToldLemmas.{acted_extends, close_aims, posts_aim, posts_extend}
use Rattle.vnfm_commands.specs.Course.{Close, Course, Opening, Round, Service, close_work, finished, halted, making, migrating, trying, misused, moment_of}
use Rattle.vnfm_commands.specs.Course.{Turning, Visit, onboarding, once_acted, once_made, once_posted, opened, serving, starved, stopped}
use Rattle.vnfm_commands.specs.Course.{counting, undelivered, unopened, unreached}
use Rattle.vnfm_commands.specs.Outside.{Beside, Tells, posting_tells}
use Rattle.vnfm_commands.specs.Rounds.{CloseDoes, RoundGoes, RoundsDo}
use Rattle.vnfm_commands.specs.Runs.{CourseDoes, IsLegalCourse}

-- what holds of all of a list by something that does
all_by : {A : Type 0} → (P Q : A → Type 0) (xs : List A) → ((x : A) → P x → Q x) → AllByRecursion P xs → AllByRecursion Q xs
all_by P Q [] on all = tt
all_by P Q (x ∷ xs) on all = (on x all.0, all_by P Q xs on all.1)

-- a dispatch of the first notice that waits, before history K, over that with which its round began and some dispatches of it
record IsSent (m : ℕ) (K : List Event) (x : Sending) : Type 0 where
  first : first_waiting m x.history x.dispatch.subscription ≡ Some x.dispatch.place
  now : ℕ
  before : List Dispatch
  upon : x.history ≡ once_all_dispatched now x.beginning before
  until : Extends x.history K

-- each was made over a history that goes on from those of the earlier ones
abbrev IsChain : List Sending → Type 0
IsChain [] = Unit {0}
IsChain (x ∷ earlier) = AllByRecursion (λ y. Extends y.history x.history) earlier × IsChain earlier

record AreSent (m : ℕ) (K : List Event) (xs : List Sending) : Type 0 where
  all : AllByRecursion (IsSent m K) xs
  chain : IsChain xs

-- the same of a later history
sent_more : (m : ℕ) (K L : List Event) (xs : List Sending) → Extends K L → AreSent m K xs → AreSent m L xs
sent_more m K L xs extends are = record {
  all = all_by (IsSent m K) (IsSent m L) xs (λ x is. record {
    first = is.first;
    now = is.now;
    before = is.before;
    upon = is.upon;
    until = extends_trans x.history K L is.until extends;
  }) are.all;
  chain = are.chain;
}

-- one dispatch more, behind which this history is reached
one_sent : (m now : ℕ) (H K : List Event) (before : List Dispatch) (p : Dispatch) (xs : List Sending)
    → first_waiting m (once_all_dispatched now H before) p.subscription ≡ Some p.place → Extends (once_all_dispatched now H before) K
    → AreSent m (once_all_dispatched now H before) xs
    → AreSent m K (record { beginning = H; history = once_all_dispatched now H before; dispatch = p } ∷ xs)
one_sent m now H K before p xs first until are =
    let G : List Event = once_all_dispatched now H before in
    record {
      all = (
        record { first = first; now = now; before = before; upon = refl; until = until },
        (sent_more m G K xs until are).all,
      );
      chain = (all_by (IsSent m G) (λ y. Extends y.history G) xs (λ y is. is.until) are.all, are.chain);
    }

-- the dispatches of a round
round_sent : (t : LentTell) (m now : ℕ) (H : List Event) (ps : List Dispatch) (xs : List Sending) (a b : Carrier)
    → DispatchesDo t m now H ps a b → AreSent m H xs → AreSent m (once_all_dispatched now H ps) (sent_behind now H ps xs)
round_sent t m now H [] xs a b did are = are
round_sent t m now H (p ∷ before) xs a b did are =
    let G : List Event = once_all_dispatched now H before in
    one_sent m now H (once_dispatched now G p) before p (sent_behind now H before xs) did.2.next
    (record { more = posted_event now p.subscription p.place (outcome_of p.answer) ∷ []; is = refl })
    (round_sent t m now H before xs a did.0 did.1 are)

-- and the one that wasn't recorded
last_sent : (t : LentTell) (m saved now : ℕ) (H : List Event) (ps : List Dispatch) (end : RoundEnd) (xs : List Sending) (a b : Carrier)
    → outbox.EndDoes t m saved now (once_all_dispatched now H ps) end a b → AreSent m (once_all_dispatched now H ps) xs
    → AreSent m (once_all_dispatched now H ps) (sent_last now H ps end xs)
last_sent t m saved now H ps outbox.through xs a b does are = are
last_sent t m saved now H ps (outbox.stopped s idle why) xs a b does are = are
last_sent t m saved now H ps (outbox.stopped s (held place) why) xs a b does are = are
last_sent t m saved now H ps (outbox.stopped s (sent p) why) xs a b does are =
    one_sent m now H (once_all_dispatched now H ps) ps p xs does.1.next (extends_refl (once_all_dispatched now H ps)) are

-- those of rounds
rounds_sent : (t : Tells) (m saved : ℕ) (H : List Event) (rounds : List Round) (a b : Beside) → RoundsDo t m saved H rounds a b
    → AreSent m (life (once_made m saved) H rounds) (sent_in_rounds m saved H rounds)
rounds_sent t m saved H [] a b did = record { all = tt; chain = tt }
rounds_sent t m saved H (r ∷ before) a b did =
    let G : List Event = life (once_made m saved) H before in
    let K : List Event = once_acted m saved G r.visit r.turn in
    let posts = did.2.posts in
    round_sent (posting_tells t) m (moment_of r.turn) K r.dispatches (sent_in_rounds m saved H before) did.2.turned.courier posts.between
    posts.posts
    (sent_more m G K (sent_in_rounds m saved H before) (acted_extends m saved G r.visit r.turn) (rounds_sent t m saved H before a did.0 did.1))

-- these were sent on the way to a history
record HasSent (m : ℕ) (L : List Event) (xs : List Sending) : Type 0 where
  reached : List Event
  until : Extends reached L
  sent : AreSent m reached xs

-- those at the end of rounds, and before
close_sent : (t : Tells) (m saved : ℕ) (H : List Event) (close : Close) (xs : List Sending) (a b : Beside) → CloseDoes t m saved H close a b
    → AreSent m H xs → HasSent m (aimed (close_work m saved H close)) (sent_at_close m saved H close xs)
close_sent t m saved H finished xs a b does are = record { reached = H; until = close_aims m saved H finished; sent = are }
close_sent t m saved H unreached xs a b does are = record { reached = H; until = close_aims m saved H unreached; sent = are }
close_sent t m saved H (stopped came talk) xs a b does are = record { reached = H; until = close_aims m saved H (stopped came talk); sent = are }
close_sent t m saved H (halted visit turn end why) xs a b does are = record {
  reached = H;
  until = close_aims m saved H (halted visit turn end why);
  sent = are;
}
close_sent t m saved H (undelivered visit turn ps end why) xs a b does are =
    let K : List Event = once_acted m saved H visit turn in
    let L : List Event = once_posted turn K ps in
    let posts = does.0.posts in
    let behind = round_sent (posting_tells t) m (moment_of turn) K ps xs does.0.turned.courier posts.between posts.posts
    (sent_more m H K xs (acted_extends m saved H visit turn) are) in
    record {
      reached = L;
      until = posts_aim (moment_of turn) L end;
      sent = last_sent (posting_tells t) m saved (moment_of turn) K ps end (sent_behind (moment_of turn) K ps xs) posts.between b.courier
          posts.end_does behind;
    }

-- all that a service sent
service_sent : (t : Tells) (start : Opening) (service : Service) (a b : Beside) → CourseDoes t (opened start (serving service)) a b
    → HasSent start.number
    (aimed (close_work start.number start.saved (life (once_made start.number start.saved) start.history service.rounds) service.close))
    (sent_by start service)
service_sent t start service a b does =
    let serves = does.2 in
    let m : ℕ = start.number in
    let saved : ℕ = start.saved in
    close_sent t m saved (life (once_made m saved) start.history service.rounds) service.close
    (sent_in_rounds m saved start.history service.rounds) serves.between b serves.close (rounds_sent t m saved start.history service.rounds does.0 serves.between serves.rounds)

-- the courier's posts are those of the dispatches of a round, behind the earlier ones
posted_behind : (t : LentTell) (m now : ℕ) (H : List Event) (ps : List Dispatch) (xs : List Sending) (a b c : Carrier)
    → ArePosted t m xs a b → DispatchesDo t m now H ps b c → ArePosted t m (sent_behind now H ps xs) a c
posted_behind t m now H [] xs a b c before did = subst (λ (x : Carrier). ArePosted t m xs a x) (sym did) before
posted_behind t m now H (p ∷ earlier) xs a b c before did = (
  did.0,
  posted_behind t m now H earlier xs a b did.0 before did.1,
  did.2,
)

posted_last : (t : LentTell) (m saved now : ℕ) (H : List Event) (ps : List Dispatch) (end : RoundEnd) (xs : List Sending) (a b c : Carrier)
    → ArePosted t m xs a b → outbox.EndDoes t m saved now (once_all_dispatched now H ps) end b c
    → ArePosted t m (sent_last now H ps end xs) a c
posted_last t m saved now H ps outbox.through xs a b c before does = subst (λ (x : Carrier). ArePosted t m xs a x) (sym does) before
posted_last t m saved now H ps (outbox.stopped s idle why) xs a b c before does =
    subst (λ (x : Carrier). ArePosted t m xs a x) (sym does.1) before
posted_last t m saved now H ps (outbox.stopped s (held place) why) xs a b c before does =
    subst (λ (x : Carrier). ArePosted t m xs a x) (sym does.1) before
posted_last t m saved now H ps (outbox.stopped s (sent p) why) xs a b c before does = (b, before, does.1)

-- those of a round, and of the one that wasn't recorded
round_posts : (t : Tells) (m saved : ℕ) (H : List Event) (visit : Visit) (turn : Turning) (ps : List Dispatch) (end : RoundEnd)
    (xs : List Sending) (a b c : Beside) → RoundGoes t m saved H visit turn ps end b c → ArePosted (posting_tells t) m xs a.courier b.courier
    → ArePosted (posting_tells t) m (sent_last (moment_of turn) (once_acted m saved H visit turn) ps end
    (sent_behind (moment_of turn) (once_acted m saved H visit turn) ps xs)) a.courier c.courier
round_posts t m saved H visit turn ps end xs a b c goes before =
    let K : List Event = once_acted m saved H visit turn in
    let now : ℕ = moment_of turn in
    let turned = subst (λ (x : Carrier). ArePosted (posting_tells t) m xs a.courier x)
    (sym (goes.turns.courier ∙ goes.visits.asks.courier)) before in
    posted_last (posting_tells t) m saved now K ps end (sent_behind now K ps xs) a.courier goes.posts.between c.courier
    (posted_behind (posting_tells t) m now K ps xs a.courier goes.turned.courier goes.posts.between turned goes.posts.posts)
    goes.posts.end_does

rounds_post : (t : Tells) (m saved : ℕ) (H : List Event) (rounds : List Round) (a b : Beside) → RoundsDo t m saved H rounds a b
    → ArePosted (posting_tells t) m (sent_in_rounds m saved H rounds) a.courier b.courier
rounds_post t m saved H [] a b did = ap (λ (x : Beside). x.courier) did
rounds_post t m saved H (r ∷ before) a b did =
    round_posts t m saved (life (once_made m saved) H before) r.visit r.turn r.dispatches outbox.through (sent_in_rounds m saved H before) a did.0 b did.2
    (rounds_post t m saved H before a did.0 did.1)

close_posts : (t : Tells) (m saved : ℕ) (H : List Event) (close : Close) (xs : List Sending) (a b c : Beside) → CloseDoes t m saved H close b c
    → ArePosted (posting_tells t) m xs a.courier b.courier
    → ArePosted (posting_tells t) m (sent_at_close m saved H close xs) a.courier c.courier
close_posts t m saved H close xs a b c does before = by close does
  where
    same : c.courier ≡ b.courier → ArePosted (posting_tells t) m xs a.courier c.courier
    same is = subst (λ (x : Carrier). ArePosted (posting_tells t) m xs a.courier x) (sym is) before

    by : (k : Close) → CloseDoes t m saved H k b c → ArePosted (posting_tells t) m (sent_at_close m saved H k xs) a.courier c.courier
    by finished done = same (ap (λ (x : Beside). x.courier) done)
    by unreached done = same done.2
    by (stopped came talk) done = same done.1.courier
    by (halted visit turn end why) done = same (done.2.courier ∙ done.1.asks.courier)
    by (undelivered visit turn ps end why) done = round_posts t m saved H visit turn ps end xs a b c done.0 before

service_posts : (t : Tells) (start : Opening) (service : Service) (a b : Beside) → CourseDoes t (opened start (serving service)) a b
    → ArePosted (posting_tells t) start.number (sent_by start service) a.courier b.courier
service_posts t start service a b does =
    let serves = does.2 in
    let m : ℕ = start.number in
    let saved : ℕ = start.saved in
    subst (λ (x : Carrier). ArePosted (posting_tells t) m (sent_by start service) x b.courier) does.1.asks.courier
    (close_posts t m saved (life (once_made m saved) start.history service.rounds) service.close
    (sent_in_rounds m saved start.history service.rounds) does.0 serves.between b serves.close (rounds_post t m saved start.history service.rounds does.0 serves.between serves.rounds))

-- a history is legal before a legal one
legal_until : (m : ℕ) (G H : List Event) → Extends G H → IsLegal m H → IsLegal m G
legal_until m G H extends legal = legal_before window m G extends.more (subst (IsLegal m) extends.is legal)

-- what is known of notices
module _ (order : NoticesGoInOrder) (again : NoneIsPostedTooOften) (skipped : NoneIsSkipped) where
  all_next : (m : ℕ) (K L : List Event) (xs : List Sending) → Extends K L → IsLegal m L → AllByRecursion (IsSent m K) xs
      → AllByRecursion (IsNext m) xs
  all_next m K L xs until legal all = all_by (IsSent m K) (IsNext m) xs (λ x is. record {
    first = is.first;
    again = again m x.history x.dispatch.subscription x.dispatch.place is.first;
    skipped = λ earlier there before. skipped m x.history x.dispatch.subscription x.dispatch.place earlier
        (legal_until m x.history L (extends_trans x.history K L is.until until) legal) is.first there before;
  }) all

  one_after : (m : ℕ) (K : List Event) (x : Sending) (ys : List Sending) → IsSent m K x
      → AllByRecursion (λ y. Extends y.history x.history) ys → AllByRecursion (IsSent m K) ys → AllByRecursion (ComesAfter x) ys
  one_after m K x [] is chain all = tt
  one_after m K x (y ∷ ys) is chain all = (
    λ same. order m y.history x.history x.dispatch.subscription y.dispatch.place x.dispatch.place chain.0
        (subst (λ (s : ℕ). first_waiting m y.history s ≡ Some y.dispatch.place) same all.0.first) is.first,
    one_after m K x ys is chain.1 all.1,
  )

  never_falls : (m : ℕ) (K : List Event) (xs : List Sending) → AllByRecursion (IsSent m K) xs → IsChain xs → NeverFalls xs
  never_falls m K [] all chain = tt
  never_falls m K (x ∷ xs) all chain = (one_after m K x xs all.0 chain.0 all.1, never_falls m K xs all.1 chain.1)

  pub goes_in_order : (t : Tells) (course : Course) (a b : Beside) → CourseDoes t course a b → IsLegalCourse course
      → PostsInOrder (posting_tells t) course a.courier b.courier
  goes_in_order t misused a b does legal = ap (λ (x : Beside). x.courier) does
  goes_in_order t starved a b does legal = ap (λ (x : Beside). x.courier) does
  goes_in_order t (making number result) a b does legal = does.asks.courier
  goes_in_order t (migrating result) a b does legal = does.asks.courier
  goes_in_order t (trying result) a b does legal = ap (λ (x : Beside). x.courier) does
  goes_in_order t (unopened why) a b does legal = does.asks.courier
  goes_in_order t (opened start (onboarding o)) a b does legal = does.2.1.courier ∙ does.1.asks.courier
  goes_in_order t (opened start counting) a b does legal = ap (λ (x : Beside). x.courier) does.2 ∙ does.1.asks.courier
  goes_in_order t (opened start (serving service)) a b does legal =
      let it = service_sent t start service a b does in
      record {
        posted = service_posts t start service a b does;
        next = all_next start.number it.reached
            (aimed (close_work start.number start.saved (life (once_made start.number start.saved) start.history service.rounds) service.close))
            (sent_by start service) it.until legal.grows.legal it.sent.all;
        rises = never_falls start.number it.reached (sent_by start service) it.sent.all it.sent.chain;
      }

-- what is known of the events of notices
module _ (beginning : RoundsTellOfTheirBeginning) where
  tell_all : (m : ℕ) (K : List Event) (xs : List Sending) → AllByRecursion (IsSent m K) xs → AllByRecursion TellsOfWhatStands xs
  tell_all m K xs all = all_by (IsSent m K) TellsOfWhatStands xs (λ x is. record {
    upon = subst (Extends x.beginning) (sym is.upon) (posts_extend is.now x.beginning is.before);
    event = beginning m is.now x.beginning is.before x.dispatch.subscription x.dispatch.place
        (subst (λ (G : List Event). first_waiting m G x.dispatch.subscription ≡ Some x.dispatch.place) is.upon is.first);
  }) all

  pub tells_of_what_stands : (t : Tells) (course : Course) (a b : Beside) → CourseDoes t course a b → TellOfWhatStands course
  tells_of_what_stands t misused a b does = tt
  tells_of_what_stands t starved a b does = tt
  tells_of_what_stands t (making number result) a b does = tt
  tells_of_what_stands t (migrating result) a b does = tt
  tells_of_what_stands t (trying result) a b does = tt
  tells_of_what_stands t (unopened why) a b does = tt
  tells_of_what_stands t (opened start (onboarding o)) a b does = tt
  tells_of_what_stands t (opened start counting) a b does = tt
  tells_of_what_stands t (opened start (serving service)) a b does =
      let it = service_sent t start service a b does in
      tell_all start.number it.reached (sent_by start service) it.sent.all
