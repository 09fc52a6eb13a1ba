use Rattle.std.proofs.Common.{◌≡◌, ◌∙◌, sym, ap, subst, ◌+◌, ◌-◌, ◌++◌, take, drop, length, length-take, length-drop, length-append, List, ℕ, arith}
use Rattle.journal_records.specs.File.{held, number, IsRecord}
use Rattle.journal_records.specs.Reading.{Reading, Seen, AreRecords}
use Rattle.journal_records.proofs.ContentLemmas.{front_record, front_number, last_passed, passed_rest, passed_is}
use Rattle.journal_records.proofs.reader.Reader.give.Goals as goal

pub number_of-size-requires : goal.number_of-size-requires
number_of-size-requires c =
    let w = c.self.inside.window.ahead in
    let left : c.self.inside.left ≡ c.args.self.now.left = ap (λ (r : Reading). r.left) c.self.view_is in
    let f = front_record w c.self.inside.left (omega (arith, c.requires)) c.self.invariant.0 c.self.invariant.3 in
    omega (arith, f.room, c.self.invariant.0, ap length c.as_slice.ensures)

pub invariant_of-self : goal.invariant_of-self
invariant_of-self c =
    let w = c.self.inside.window.ahead in
    let was = c.self.inside.left in
    let size = c.number_of-size.result in
    let left : was ≡ c.args.self.now.left = ap (λ (r : Reading). r.left) c.self.view_is in
    let f = front_record w was (omega (arith, c.requires)) c.self.invariant.0 c.self.invariant.3 in
    let n : size ≡ length f.r = front_number w was size f (c.number_of-size.ensures ∙ ap number c.as_slice.ensures) in
    let ahead : c.pass.new.self.ahead ≡ drop (4 + size) w = ap (λ (s : Seen). s.ahead) c.pass.ensures in
    let passed : c.pass.new.self.passed ≡ c.self.inside.window.passed ++ take (4 + size) w = ap (λ (s : Seen). s.passed) c.pass.ensures in
    let P : List ℕ → Type 0 = λ v. AreRecords (take (was - (4 + size)) v) in (
      omega (arith, c.self.invariant.0, f.room, n, ap length ahead, length-drop (4 + size) w),
      omega (
        arith,
        c.self.invariant.0,
        f.room,
        n,
        ap length passed,
        length-append c.self.inside.window.passed (take (4 + size) w),
        length-take (4 + size) w,
      ),
      omega (arith, c.self.invariant.2, f.room, n),
      subst P (sym ahead) (passed_rest w was size f n),
    )

pub returns-clause-given : goal.returns-clause-given
returns-clause-given c =
    let w = c.self.inside.window.ahead in
    let was = c.self.inside.left in
    let size = c.number_of-size.result in
    let left : was ≡ c.args.self.now.left = ap (λ (r : Reading). r.left) c.self.view_is in
    let place : c.self.inside.place ≡ c.args.self.now.place = ap (λ (r : Reading). r.place) c.self.view_is in
    let whole : w ≡ c.args.self.now.ahead = ap (λ (r : Reading). r.ahead) c.self.view_is in
    let f = front_record w was (omega (arith, c.requires)) c.self.invariant.0 c.self.invariant.3 in
    let n : size ≡ length f.r = front_number w was size f (c.number_of-size.ensures ∙ ap number c.as_slice.ensures) in
    let ahead : c.pass.new.self.ahead ≡ drop (4 + size) w = ap (λ (s : Seen). s.ahead) c.pass.ensures in
    let passed : c.pass.new.self.passed ≡ c.self.inside.window.passed ++ take (4 + size) w = ap (λ (s : Seen). s.passed) c.pass.ensures in
    let given : drop (length c.pass.new.self.passed - size) c.pass.new.self.passed ≡ f.r =
    ap (λ v. drop (length v - size) v) passed ∙ last_passed c.self.inside.window.passed w was size f n in
    let r = drop (length c.pass.new.self.passed - size) c.pass.new.self.passed in
    let long : length r ≡ length f.r = ap length given in
    let P : List ℕ → Type 0 = λ v. IsRecord v in
    record {
      one = subst P (sym given) f.one;
      ahead = sym whole ∙ passed_is w r was size f n given ∙ ap (λ v. held r ++ v) (sym ahead);
      left = omega (arith, long, n, f.room);
      place = omega (arith, long, n);
    }

pub returns-clause-size : goal.returns-clause-size
returns-clause-size c =
    let w = c.self.inside.window.ahead in
    let was = c.self.inside.left in
    let size = c.number_of-size.result in
    let left : was ≡ c.args.self.now.left = ap (λ (r : Reading). r.left) c.self.view_is in
    let f = front_record w was (omega (arith, c.requires)) c.self.invariant.0 c.self.invariant.3 in
    let n : size ≡ length f.r = front_number w was size f (c.number_of-size.ensures ∙ ap number c.as_slice.ensures) in
    let passed : c.pass.new.self.passed ≡ c.self.inside.window.passed ++ take (4 + size) w = ap (λ (s : Seen). s.passed) c.pass.ensures in
    n ∙ sym (ap length (ap (λ v. drop (length v - size) v) passed ∙ last_passed c.self.inside.window.passed w was size f n))

pub pass-requires : goal.pass-requires
pass-requires c =
    let w = c.self.inside.window.ahead in
    let was = c.self.inside.left in
    let left : was ≡ c.args.self.now.left = ap (λ (r : Reading). r.left) c.self.view_is in
    let f = front_record w was (omega (arith, c.requires)) c.self.invariant.0 c.self.invariant.3 in
    let n : c.number_of-size.result ≡ length f.r =
    front_number w was c.number_of-size.result f (c.number_of-size.ensures ∙ ap number c.as_slice.ensures) in
    omega (arith, f.room, n, c.self.invariant.0)

pub overflow_sub-self : goal.overflow_sub-self
overflow_sub-self c =
    let w = c.self.inside.window.ahead in
    let was = c.self.inside.left in
    let left : was ≡ c.args.self.now.left = ap (λ (r : Reading). r.left) c.self.view_is in
    let f = front_record w was (omega (arith, c.requires)) c.self.invariant.0 c.self.invariant.3 in
    let n : c.number_of-size.result ≡ length f.r =
    front_number w was c.number_of-size.result f (c.number_of-size.ensures ∙ ap number c.as_slice.ensures) in
    omega (arith, f.room, n)
