use Rattle.std.proofs.Common.{◌≡◌, ◌∙◌, ap, length, map, ◌++◌, arith, length-append}
use Rattle.std.proofs.lemmas.List.{length-map}
use Rattle.site_traits.specs.Log.{entry_of, with_call}
use Rattle.site_traits.proofs.LogLemmas.{log_push, kept_push}
use Rattle.site_traits.proofs.log.Log.push.Goals as goal

pub returns-clause-put : goal.returns-clause-put
returns-clause-put g c = λ t.
    let more = c.args.first.now ++ c.args.second.now in
    let all = c.put_both.ensures.put c.if-not-put_both.false in
    let long = ap length all in
    let both = length-append c.self.inside.bytes.items more in
    ap (λ v. record { calls = v; most_calls = c.self.inside.most_calls; most_bytes = c.self.inside.most_bytes })
    (log_push c.self.inside.entries.items c.push_reserved.new.self.items c.self.inside.bytes.items more c.put_both.new.bytes.items
    c.args.what _ _
    c.self.invariant.0.within all c.push_reserved.ensures.items (omega arith) (omega arith))
    ∙ ap (with_call c.args.what more) c.self.view_is

pub invariant_of-self-2 : goal.invariant_of-self-2
invariant_of-self-2 g c =
    let more = c.args.first.now ++ c.args.second.now in
    let all = c.put_both.ensures.put c.if-not-put_both.false in
    let long = ap length all in
    let both = length-append c.self.inside.bytes.items more in
    let entries = c.push_reserved.ensures.capacity in
    let bytes = c.put_both.ensures.capacity in
    let was = c.self.invariant in (
      kept_push c.self.inside.entries.items c.push_reserved.new.self.items c.self.inside.bytes.items more c.put_both.new.bytes.items
          c.args.what _ _
          was.0 all c.push_reserved.ensures.items (omega arith) (omega arith),
      omega (arith, entries, was.1),
      omega (arith, bytes, was.2),
    )

pub overflow_sub-len : goal.overflow_sub-len
overflow_sub-len g c =
    let more = c.args.first.now ++ c.args.second.now in
    let long = ap length (c.put_both.ensures.put c.if-not-put_both.false) in
    let both = length-append c.self.inside.bytes.items more in
    omega arith

pub returns-then-len-self-clause-room : goal.returns-then-len-self-clause-room
returns-then-len-self-clause-room g c = (
  λ wrong. absurd (cc wrong),
  λ room.
      let i = c.self.inside in
      let entries : length (map (entry_of i.bytes.items) i.entries.items) ≡ length i.entries.items =
      length-map i.entries.items (entry_of i.bytes.items) in
      let calls : length (map (entry_of i.bytes.items) i.entries.items) ≡ length c.args.self.now.calls =
      ap (λ r. length r.calls) c.self.view_is in
      let most : i.most_calls ≡ c.args.self.now.most_calls = ap (λ r. r.most_calls) c.self.view_is in
      let less = room.call in
      absurd (omega arith),
)
