-- The reading ended, or the room is full.
use Rattle.std.proofs.Common.{◌≡◌, ◌≤◌, length, drop, ◌+◌, ◌-◌, arith, refl, rules}
use Rattle.std.proofs.lemmas.List.{length-drop, length-take-le}
use Rattle.std.proofs.lemmas.Slice.{take-put_mid, take-put_mid_below}
use Rattle.lcm_replies.proofs.ListenLemmas.{heard_all, heard_full, heard_more}
use Rattle.lcm_replies.proofs.listen.read_to_end.Goals as goal

pub returns-in-End-clause-told : goal.returns-in-End-clause-told
returns-in-End-clause-told g c = λ tells.
    let ended = c.in-End.ensures.told tells in
    let heard = heard_all _ c.loop-at.at c.loop-at.room _ _ _ c.loop-at.invariant.within c.loop-at.auto.room
    (c.loop-at.invariant.told tells) ended.0 ended.1 in
    let same = take-put_mid_below c.loop-at.at (length c.loop-at.room - c.loop-at.at) c.loop-at.room c.read.new.into c.loop-at.at
    (omega arith) (omega arith) in
    rw same heard

pub returns-clause-told : goal.returns-clause-told
returns-clause-told g c = λ tells.
    heard_full _ c.loop-at.at c.loop-at.room _ _ c.loop-at.invariant.within c.loop-at.auto.room c.loop-at-test.false
    (c.loop-at.invariant.told tells)

pub loop-at-preserved : goal.loop-at-preserved
loop-at-preserved g c =
    let room : length c.loop-at.room ≡ length c.args.room.now = c.loop-at.auto.room in
    let within : c.loop-at.at ≤ length c.args.room.now = c.loop-at.invariant.within in
    let left : length (drop c.loop-at.at c.loop-at.room) ≡ length c.loop-at.room - c.loop-at.at = length-drop c.loop-at.at c.loop-at.room in
    let piece = length-take-le (length c.loop-at.room - c.loop-at.at) (drop c.loop-at.at c.loop-at.room) (omega (arith, left)) in
    let amount = c.in-Got.ensures.amount in
    record {
      within = let most = amount.1 in omega (arith, most, piece, room, within);
      counts = search rules;
      writes = search rules;
      told = λ tells.
          heard_more c.loop-at.at c.in-Got.n c.loop-at.room _ c.read.new.into _ _ _ _ (omega (arith, room, within))
          (take-put_mid c.loop-at.at (length c.loop-at.room - c.loop-at.at) c.loop-at.room c.read.new.into
          (c.loop-at.at + length c.read.new.into) refl (omega (arith, room, within)))
          (c.loop-at.invariant.told tells) (c.in-Got.ensures.told tells);
    }
