-- Events are read as they are spelled, and nothing else is read.
use Rattle.std.proofs.Common.{◌≡◌, ℕ, suc, ◌<◌, ◌==◌, List, [], ◌∷◌, ◌++◌, Some, None, Result, Ok, Err, IfOk, true, length, nat_le}
use Rattle.std.proofs.Common.{if◌then◌else◌, refl, sym, ◌∙◌, ap, subst, append-nil, arith}
use Rattle.std.proofs.lemmas.Bool.{leb-true, le-leb, eqb-true}
use Rattle.vnfm_base.specs.Text.{IsName, IsLine}
use Rattle.vnfm_base.specs.Moment.{IsMoment}
use Rattle.lcm_events.specs.declared.events.Event.{Event}
use Rattle.lcm_events.specs.declared.events.EventKind.{EventKind}
use Rattle.lcm_events.specs.declared.events.EventKind.TheVariants as events
use Rattle.event_codec.specs.Combinators.{pair, u8_at}
use Rattle.event_codec.specs.Gives.{GivesWhole}
use Rattle.event_codec.specs.declared.fault.DecodeFault.{DecodeFault}
use Rattle.event_codec.specs.declared.fault.DecodeFault.TheVariants.{NotEvent}
use Rattle.event_codec.specs.Readers.{u64_at, name_at, line_at, onboarded_at, created_at, deleted_at, asked_at, grant_tried_at, granted_at}
use Rattle.event_codec.specs.Readers.{denied_at, intent_at, call_failed_at, settled_at, moved_kind_at, cancel_asked_at, subscribed_at}
use Rattle.event_codec.specs.Readers.{unsubscribed_at, posted_at, kind_cases, kind_at, moment_at, event_at, whole_event}
use Rattle.event_codec.specs.Spell as spell
use Rattle.event_codec.specs.Spell.{spelling, kind_number, fields}
use Rattle.event_codec.specs.Valid.{IsU8, IsU64, IsKind, IsEvent}
use Rattle.event_codec.proofs.CombinatorLaws.{IsBytes, Reads, Case, AllCases, cases-takes, bind-some, chosen, reads_pair_by, reads_only}
use Rattle.event_codec.proofs.CombinatorLaws.{reads_fits, pair_of, shape_of, case_by, again_of, reads_u8}
use Rattle.event_codec.proofs.NumberLaws.{reads_u64}
use Rattle.event_codec.proofs.TextLaws.{reads_name, reads_line, reads_optional}
use Rattle.event_codec.proofs.WordLaws.{reads_role, reads_cancel_mode, reads_moved, reads_post_outcome}
use Rattle.event_codec.proofs.PartLaws.{reads_tag, reads_operation, reads_grant_try, reads_placed, reads_outcome, reads_filter, reads_vnfd}

-- the bytes of a kind, its number first
abbrev pub spell_kind : EventKind → List ℕ
spell_kind k = kind_number k ∷ fields k

case_onboarded : Case spell_kind IsKind (1, onboarded_at)
unfolding onboarded_at
case_onboarded = case_by reads_vnfd 1 events.Onboarded spell_kind IsKind (λ x h. refl) (λ x h. h)

case_created : Case spell_kind IsKind (2, created_at)
unfolding created_at
case_created = case_by (pair_of reads_u64 (pair_of reads_name (pair_of (reads_optional spell.name IsName name_at reads_name)
    (reads_optional spell.line IsLine line_at reads_line)))) 2 (λ p. events.Created p.0 p.1.0 p.1.1.0 p.1.1.1) spell_kind IsKind
    (λ x h. refl) (λ x h. (h.0, h.1.0, h.1.1.0, h.1.1.1))

case_deleted : Case spell_kind IsKind (3, deleted_at)
unfolding deleted_at
case_deleted = case_by reads_u64 3 events.Deleted spell_kind IsKind (λ x h. refl) (λ x h. h)

case_asked : Case spell_kind IsKind (4, asked_at)
unfolding asked_at
case_asked = case_by reads_operation 4 events.Asked spell_kind IsKind (λ x h. refl) (λ x h. h)

case_grant_tried : Case spell_kind IsKind (5, grant_tried_at)
unfolding grant_tried_at
case_grant_tried = case_by (pair_of reads_u64 reads_grant_try) 5 (λ p. events.GrantTried p.0 p.1) spell_kind IsKind (λ x h. refl) (λ x h. h)

case_granted : Case spell_kind IsKind (6, granted_at)
unfolding granted_at
case_granted = case_by (pair_of reads_u64 (pair_of reads_name reads_placed)) 6
    (λ p. events.Granted p.0 p.1.0 p.1.1.0 p.1.1.1) spell_kind IsKind (λ x h. refl) (λ x h. (h.0, h.1.0, h.1.1))

case_denied : Case spell_kind IsKind (7, denied_at)
unfolding denied_at
case_denied = case_by reads_u64 7 events.Denied spell_kind IsKind (λ x h. refl) (λ x h. h)

case_intent : Case spell_kind IsKind (8, intent_at)
unfolding intent_at
case_intent = case_by reads_tag 8 events.Intent spell_kind IsKind (λ x h. refl) (λ x h. h)

case_call_failed : Case spell_kind IsKind (9, call_failed_at)
unfolding call_failed_at
case_call_failed = case_by reads_tag 9 events.CallFailed spell_kind IsKind (λ x h. refl) (λ x h. h)

case_settled : Case spell_kind IsKind (10, settled_at)
unfolding settled_at
case_settled = case_by (pair_of reads_tag reads_outcome) 10 (λ p. events.Settled p.0 p.1) spell_kind IsKind (λ x h. refl) (λ x h. h)

case_moved_kind : Case spell_kind IsKind (11, moved_kind_at)
unfolding moved_kind_at
case_moved_kind = case_by (pair_of reads_u64 reads_moved) 11 (λ p. events.Moved p.0 p.1) spell_kind IsKind (λ x h. refl) (λ x h. h)

case_cancel_asked : Case spell_kind IsKind (12, cancel_asked_at)
unfolding cancel_asked_at
case_cancel_asked = case_by (pair_of reads_u64 reads_cancel_mode) 12 (λ p. events.CancelAsked p.0 p.1) spell_kind IsKind (λ x h. refl)
    (λ x h. h.0)

case_subscribed : Case spell_kind IsKind (13, subscribed_at)
unfolding subscribed_at
case_subscribed = case_by (pair_of reads_u64 (pair_of reads_role (pair_of reads_line reads_filter))) 13
    (λ p. events.Subscribed p.0 p.1.0 p.1.1.0 p.1.1.1) spell_kind IsKind (λ x h. refl) (λ x h. (h.0, h.1.1.0, h.1.1.1))

case_unsubscribed : Case spell_kind IsKind (14, unsubscribed_at)
unfolding unsubscribed_at
case_unsubscribed = case_by reads_u64 14 events.Unsubscribed spell_kind IsKind (λ x h. refl) (λ x h. h)

case_posted : Case spell_kind IsKind (15, posted_at)
unfolding posted_at
case_posted = case_by (pair_of reads_u64 (pair_of reads_u64 reads_post_outcome)) 15 (λ p. events.Posted p.0 p.1.0 p.1.1) spell_kind IsKind
    (λ x h. refl) (λ x h. (h.0, h.1.0))

pub all_kinds : AllCases spell_kind IsKind kind_cases
all_kinds = (
  case_onboarded,
  (
    case_created,
    (
      case_deleted,
      (
        case_asked,
        (
          case_grant_tried,
          (
            case_granted,
            (
              case_denied,
              (
                case_intent,
                (
                  case_call_failed,
                  (case_settled, (case_moved_kind, (case_cancel_asked, (case_subscribed, (case_unsubscribed, (case_posted, tt)))))),
                ),
              ),
            ),
          ),
        ),
      ),
    ),
  ),
)

pub kind-again : (k : EventKind) (rest : List ℕ) → IsKind k → kind_at (kind_number k) (fields k ++ rest) ≡ Some (k, rest)
unfolding kind_at onboarded_at created_at deleted_at asked_at grant_tried_at granted_at denied_at intent_at call_failed_at settled_at
    moved_kind_at cancel_asked_at subscribed_at unsubscribed_at posted_at
kind-again (events.Onboarded v) rest h = again_of reads_vnfd events.Onboarded v rest h
kind-again (events.Created i v n t) rest h = again_of (pair_of reads_u64
    (pair_of reads_name (pair_of (reads_optional spell.name IsName name_at reads_name)
    (reads_optional spell.line IsLine line_at reads_line)))) (λ p. events.Created p.0 p.1.0 p.1.1.0 p.1.1.1) (i, (v, (n, t))) rest
    (h.0, (h.1, (h.2, h.3)))
kind-again (events.Deleted i) rest h = again_of reads_u64 events.Deleted i rest h
kind-again (events.Asked o) rest h = again_of reads_operation events.Asked o rest h
kind-again (events.GrantTried o a) rest h = again_of (pair_of reads_u64 reads_grant_try) (λ p. events.GrantTried p.0 p.1) (o, a) rest h
kind-again (events.Granted o g p s) rest h = again_of (pair_of reads_u64 (pair_of reads_name reads_placed))
    (λ p. events.Granted p.0 p.1.0 p.1.1.0 p.1.1.1) (o, (g, (p, s))) rest (h.0, (h.1, h.2))
kind-again (events.Denied o) rest h = again_of reads_u64 events.Denied o rest h
kind-again (events.Intent t) rest h = again_of reads_tag events.Intent t rest h
kind-again (events.CallFailed t) rest h = again_of reads_tag events.CallFailed t rest h
kind-again (events.Settled t o) rest h = again_of (pair_of reads_tag reads_outcome) (λ p. events.Settled p.0 p.1) (t, o) rest h
kind-again (events.Moved o to) rest h = again_of (pair_of reads_u64 reads_moved) (λ p. events.Moved p.0 p.1) (o, to) rest h
kind-again (events.CancelAsked o m) rest h = again_of (pair_of reads_u64 reads_cancel_mode) (λ p. events.CancelAsked p.0 p.1) (o, m) rest
    (h, tt)
kind-again (events.Subscribed s r c f) rest h = again_of (pair_of reads_u64 (pair_of reads_role (pair_of reads_line reads_filter)))
    (λ p. events.Subscribed p.0 p.1.0 p.1.1.0 p.1.1.1) (s, (r, (c, f))) rest (h.0, (tt, (h.1, h.2)))
kind-again (events.Unsubscribed s) rest h = again_of reads_u64 events.Unsubscribed s rest h
kind-again (events.Posted s p o) rest h = again_of (pair_of reads_u64 (pair_of reads_u64 reads_post_outcome))
    (λ p. events.Posted p.0 p.1.0 p.1.1) (s, (p, o)) rest (h.0, (h.1, tt))

pub reads_kind : (n : ℕ) → Reads fields (λ k. (n ≡ kind_number k) × IsKind k) (kind_at n)
unfolding kind_at
reads_kind n = record {
  takes = λ bytes x small h.
      let got = cases-takes spell_kind IsKind kind_cases all_kinds n bytes x small h in
      let e : n ∷ bytes ≡ kind_number x.0 ∷ (fields x.0 ++ x.1) = got.0 in
      let number_is : n ≡ kind_number x.0 = cc in
      let bytes_are : bytes ≡ fields x.0 ++ x.1 = cc in
      (bytes_are, (number_is, got.1));
  again = λ k rest h. (let P : ℕ → Type 0 = λ m. kind_at m (fields k ++ rest) ≡ Some (k, rest) in
      subst P (sym h.0) (kind-again k rest h.1));
}

reads_moment : Reads spell.u64 IsMoment moment_at
unfolding moment_at
reads_moment =
    reads_fits spell.u64 (λ m. IsU64 m × (nat_le m 253402300799999 ≡ true)) IsMoment moment_at
    (λ m h. leb-true m 253402300799999 h.1) (λ m h. (omega arith, le-leb m 253402300799999 h))
    (reads_only (λ m. nat_le m 253402300799999) spell.u64 IsU64 u64_at reads_u64)

kind_below : (k : EventKind) → kind_number k < 256
kind_below (events.Onboarded v) = omega arith
kind_below (events.Created i v n t) = omega arith
kind_below (events.Deleted i) = omega arith
kind_below (events.Asked o) = omega arith
kind_below (events.GrantTried o a) = omega arith
kind_below (events.Granted o g p s) = omega arith
kind_below (events.Denied o) = omega arith
kind_below (events.Intent t) = omega arith
kind_below (events.CallFailed t) = omega arith
kind_below (events.Settled t o) = omega arith
kind_below (events.Moved o to) = omega arith
kind_below (events.CancelAsked o m) = omega arith
kind_below (events.Subscribed s r c f) = omega arith
kind_below (events.Unsubscribed s) = omega arith
kind_below (events.Posted s p o) = omega arith

pub reads_event : Reads spelling IsEvent event_at
unfolding event_at spelling
reads_event =
    shape_of
    (reads_pair_by (λ n. n ∷ []) IsU8 u8_at (λ (q : ℕ × EventKind). spell.u64 q.0 ++ fields q.1)
    (λ n (q : ℕ × EventKind). IsMoment q.0 × ((n ≡ kind_number q.1) × IsKind q.1)) (λ n. pair moment_at (kind_at n)) reads_u8
    (λ n. pair_of reads_moment (reads_kind n)))
    (λ p. record { moment = p.1.0; kind = p.1.1 }) (λ e. (kind_number e.kind, (e.moment, e.kind))) spelling IsEvent
    (λ e h. refl) (λ p h. ap (λ n. n ∷ (spell.u64 p.1.0 ++ fields p.1.1)) (sym h.1.1.0))
    (λ p h. (h.1.0, h.1.1.1)) (λ e h. (kind_below e.kind, (h.0, (refl, h.1))))

same_event : (x y : Event) → Some x ≡ Some y → x ≡ y
same_event x y h = cc

same_pair : (x y : Event × List ℕ) → Some x ≡ Some y → x ≡ y
same_pair x y h = cc

-- no spelling begins another
pub spelling-first : (e f : Event) (rest behind : List ℕ) → IsEvent e → IsEvent f → spelling e ++ rest ≡ spelling f ++ behind → e ≡ f
spelling-first e f rest behind is_e is_f same =
    ap (λ (z : Event × List ℕ). z.0)
    (same_pair (e, rest) (f, behind) (sym (reads_event.again e rest is_e) ∙ ap event_at same ∙ reads_event.again f behind is_f))

no_bytes : (bytes : List ℕ) → length bytes ≡ 0 → bytes ≡ []
no_bytes [] h = refl
no_bytes (b ∷ bytes) h = absurd (let k : suc (length bytes) ≡ 0 = h in omega arith)

-- a whole list of bytes is one event's spelling just where it is read
pub whole-found : (bytes : List ℕ) (e : Event) → IsBytes bytes → whole_event bytes ≡ Some e → IsEvent e × (bytes ≡ spelling e)
unfolding whole_event
whole-found bytes e small h =
    let first = bind-some (event_at bytes) (λ (x : Event × List ℕ). if length x.1 == 0 then Some x.0 else None) e h in
    let x : Event × List ℕ = first.0 in
    let end = chosen (length x.1 == 0) x.0 e first.2 in
    let got = reads_event.takes bytes x small first.1 in
    let nothing = no_bytes x.1 (eqb-true (length x.1) 0 end.0) in
    let whole : bytes ≡ spelling x.0 = got.0 ∙ ap (λ r. spelling x.0 ++ r) nothing ∙ append-nil (spelling x.0) in
    let P : Event → Type 0 = λ y. IsEvent y × (bytes ≡ spelling y) in
    subst P end.1 (got.1, whole)

pub whole-again : (bytes : List ℕ) (e : Event) → IsEvent e → bytes ≡ spelling e → whole_event bytes ≡ Some e
unfolding whole_event
whole-again bytes e is same =
    let again : event_at bytes ≡ Some (e, []) = ap event_at (same ∙ sym (append-nil (spelling e))) ∙ reads_event.again e [] is in
    rw again refl

pub whole-none : (bytes : List ℕ) → whole_event bytes ≡ None → (e : Event) → IsEvent e → bytes ≡ spelling e → ⊥
whole-none bytes none e is same = let p : Some e ≡ None = sym (whole-again bytes e is same) ∙ none in absurd cc

-- the answer about the whole bytes says so in both directions
pub decode-found : (bytes : List ℕ) (r : Result Event DecodeFault) → IsBytes bytes → GivesWhole r (whole_event bytes)
    → IfOk r (λ e. IsEvent e × (bytes ≡ spelling e))
decode-found bytes (Ok e) small h = whole-found bytes e small h
decode-found bytes (Err fault) small h = tt

pub decode-none : (bytes : List ℕ) (r : Result Event DecodeFault) → GivesWhole r (whole_event bytes)
    → r ≡ Err NotEvent → (e : Event) → IsEvent e → bytes ≡ spelling e → ⊥
decode-none bytes r h is e is_e same =
    let P : Result Event DecodeFault → Type 0 = λ q. GivesWhole q (whole_event bytes) in
    whole-none bytes (subst P is h) e is_e same

pub decode-again : (bytes : List ℕ) (r : Result Event DecodeFault) → GivesWhole r (whole_event bytes)
    → (e : Event) → IsEvent e → bytes ≡ spelling e → IfOk r (λ f. f ≡ e)
decode-again bytes (Ok f) h e is_e same = same_event f e (sym h ∙ whole-again bytes e is_e same)
decode-again bytes (Err fault) h e is_e same = tt
