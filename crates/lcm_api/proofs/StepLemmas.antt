-- What a create request comes to, by the numbers of the history.
use Rattle.std.specs.Prelude.{is_some}
use Rattle.std.proofs.Common.{◌≡◌, ◌≤◌, ◌<◌, ◌+◌, ℕ, Bool, List, length, Option, Some, None, arith, refl, ap, ◌++◌}
use Rattle.executor.specs.Managed.{Managed}
use Rattle.std.proofs.lemmas.Bool.{lt-leb}
use Rattle.std.proofs.lemmas.List.{length-append}
use Rattle.event_codec.specs.Spell as spell
use Rattle.event_codec.specs.Spell.{spelling, u64, u16}
use Rattle.event_codec.specs.Valid.{IsEvent, Optionally}
use Rattle.vnfm_base.specs.Text.{IsName, IsLine}
use Rattle.json_bodies.specs.declared.body.CreateBody.{CreateBody}
use Rattle.lcm_events.specs.declared.events.Event.{Event}
use Rattle.lcm_events.specs.declared.events.EventKind.TheVariants.{Created}
use Rattle.lcm_events.specs.declared.descriptor.Vnfd.{Vnfd}
use Rattle.lcm_model.specs.Lives.{descriptor_named, instances_made, live_instances}
use Rattle.journal_records.specs.declared.limits.TheConstants.{MAX_RECORD}
use Rattle.lcm_api.specs.Creating.{create_outcome, creation, created}
use Rattle.lcm_api.specs.Recording.{IsPlanned}
use Rattle.lcm_model.specs.declared.limits.TheConstants.{MAX_INSTANCES}
use Rattle.lcm_replies.specs.declared.reply.Reply.{Reply}
use Rattle.lcm_api.specs.declared.record.Planned.TheVariants.{Records}

-- the creation of the instance of this number
abbrev pub created_as : ℕ → ℕ → CreateBody → Event
created_as n now body = record { moment = now; kind = Created n body.vnfd body.name body.text }

length-u64 : (n : ℕ) → length (u64 n) ≡ 8
unfolding u64
length-u64 n = refl

length-u16 : (n : ℕ) → length (u16 n) ≡ 2
unfolding u16
length-u16 n = refl

short_name : (o : Option (List ℕ)) → Optionally IsName o → length (spell.optional spell.name o) ≤ 257
short_name None h = omega arith
short_name (Some text) h = let k : length text ≤ 255 = h.short in omega arith

short_line : (o : Option (List ℕ)) → Optionally IsLine o → length (spell.optional spell.line o) ≤ 2051
short_line None h = omega arith
short_line (Some text) h = let k : length text ≤ 2048 = h.short in
    omega (arith, length-append (u16 (length text)) text, length-u16 (length text))

fields_short : (n : ℕ) (v : List ℕ) (o : Option (List ℕ)) (t : Option (List ℕ)) → length v ≤ 255
    → length (spell.optional spell.name o) ≤ 257
    → length (spell.optional spell.line t) ≤ 2051 → length (u64 n ++ (spell.name v
    ++ (spell.optional spell.name o ++ spell.optional spell.line t))) ≤ 2600
fields_short n v o t short name text =
    let a = length-append (u64 n) (spell.name v ++ (spell.optional spell.name o ++ spell.optional spell.line t)) in
    let b = length-append (spell.name v) (spell.optional spell.name o ++ spell.optional spell.line t) in
    let c = length-append (spell.optional spell.name o) (spell.optional spell.line t) in
    omega (arith, a, b, c, length-u64 n)

-- a creation's spelling fits a record
pub creation_fits : (n : ℕ) (now : ℕ) (body : CreateBody) → IsEvent (created_as n now body)
    → length (spelling (created_as n now body)) ≤ MAX_RECORD
unfolding spelling
creation_fits n now body is =
    let vnfd : length body.vnfd ≤ 255 = is.1.1.short in
    let short = fields_short n body.vnfd body.name body.text vnfd (short_name body.name is.1.2) (short_line body.text is.1.3) in
    let all = length-append (u64 now) (u64 n ++ (spell.name body.vnfd
    ++ (spell.optional spell.name body.name ++ spell.optional spell.line body.text))) in
    omega (arith, all, short, length-u64 now)

-- the instance is created, if there is room for it
pub step_creates : (m : Managed) (H : List Event) (now : ℕ) (body : CreateBody) (last : Bool) (vnfd : Vnfd) (reply : Reply) (event : Event)
    → descriptor_named H body.vnfd ≡ Some vnfd
    → length (live_instances H) < MAX_INSTANCES → event ≡ creation H now body
    → reply ≡ created m.ledger.manager (instances_made H + 1) body vnfd last
    → IsPlanned (create_outcome m.ledger.manager H now body last) m H (Records event reply)
step_creates m H now body last vnfd reply event known room event_is reply_is =
    rw (event_is, reply_is) (
      rw (known, lt-leb MAX_INSTANCES (length (live_instances H)) room) refl,
      record {
        may = record {
          rules = λ typed. typed;
          allowed = record { number = refl; onboarded = ap is_some known; room = room };
          unsettled =
              refl;
        };
        fits = creation_fits (instances_made H + 1) now body;
      },
    )
