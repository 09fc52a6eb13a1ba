use Rattle.std.proofs.Common.{◌≡◌, ◌<◌, ◌≤◌, length, true, false, ap, ◌∙◌, arith, refl}
use Rattle.vnfm_base.specs.declared.limits.TheConstants.{MAX_RECORD}
use Rattle.event_codec.specs.Spell.{spelling}
use Rattle.event_codec.specs.Valid.{IsEvent}
use Rattle.event_codec.specs.Written.{Written, put}
use Rattle.event_codec.proofs.BoundLaws.{most_spelling, put-kept, put-long}
use Rattle.event_codec.proofs.writing.encode.Goals as goal

pub returns-then-len-clause-fits : goal.returns-then-len-clause-fits
returns-then-len-clause-fits c =
    let text = spelling c.args.event.now in
    let whole = c.put_event.ensures.spelled ∙ ap (λ (w : Written). put w text) c.clear.ensures in
    let is : IsEvent c.args.event.now = c.requires.rules c.put_event.ensures.typed in
    let long = (put-long c.put_event.new.out text whole (let h : c.put_len-len.result ≡ c.put_event.new.out.len = c.put_len-len.ensures in
    omega arith) (most_spelling c.args.event.now is)).1 in
    ((λ (h : false ≡ true). absurd cc), (λ (h : length text ≤ MAX_RECORD). absurd (let k : MAX_RECORD < length text = long in omega arith)))

pub returns-then-len-clause-too_long : goal.returns-then-len-clause-too_long
returns-then-len-clause-too_long c =
    let text = spelling c.args.event.now in
    let whole = c.put_event.ensures.spelled ∙ ap (λ (w : Written). put w text) c.clear.ensures in
    let is : IsEvent c.args.event.now = c.requires.rules c.put_event.ensures.typed in
    let long = (put-long c.put_event.new.out text whole (let h : c.put_len-len.result ≡ c.put_event.new.out.len = c.put_len-len.ensures in
    omega arith) (most_spelling c.args.event.now is)).0 in
    c.put_len-len.ensures ∙ long

pub returns-clause-ok : goal.returns-clause-ok
returns-clause-ok c =
    let text = spelling c.args.event.now in
    let whole = c.put_event.ensures.spelled ∙ ap (λ (w : Written). put w text) c.clear.ensures in
    (put-kept c.put_event.new.out text whole (let h : c.put_len-len.result ≡ c.put_event.new.out.len = c.put_len-len.ensures in
    omega arith)).0

pub returns-clause-fits : goal.returns-clause-fits
returns-clause-fits c =
    let text = spelling c.args.event.now in
    let whole = c.put_event.ensures.spelled ∙ ap (λ (w : Written). put w text) c.clear.ensures in
    let short = (put-kept c.put_event.new.out text whole (let h : c.put_len-len.result ≡ c.put_event.new.out.len = c.put_len-len.ensures in
    omega arith)).1 in
    ((λ (h : true ≡ true). short), (λ (h : length text ≤ MAX_RECORD). refl))
