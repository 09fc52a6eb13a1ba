-- The work is that of the rows.
use Rattle.std.proofs.Common.{sym, ◌∙◌}
use Rattle.occ_work.proofs.WorkLemmas.{begins_next, begun_change, begun_place, granted_by_row, never_none, of_attempt, undone_at}
use Rattle.occ_work.proofs.work.work_of.Goals as goal

pub row_of-row-requires : goal.row_of-row-requires
row_of-row-requires g c = let it = c.requires.begins in record { usable = c.requires.usable; active = (it.0, it.1, it.2) }

pub instance_of-instance-requires : goal.instance_of-instance-requires
instance_of-instance-requires g c =
    let it = c.requires.begins in
    record { usable = c.requires.usable; active = (it.0, _, it.1, it.2, c.row_of-row.ensures.row it.0 it.1 it.2) }

pub vnfd_of-vnfd-requires : goal.vnfd_of-vnfd-requires
vnfd_of-vnfd-requires g c =
    let it = c.requires.begins in
    record { lives = (it.0, _, it.1, c.instance_of-instance.ensures it.0 it.1 _ it.2 (c.row_of-row.ensures.row it.0 it.1 it.2)) }

pub unreachable-requires : goal.unreachable-requires
unreachable-requires g c =
    let it = c.requires.begins in
    let begins = begins_next c.next_actions_are_allowed.ensures c.attempts_stand_behind_grants.ensures _ it.0 c.args.tag.now it.1.kept.legal
    it.2 it.3 in
    begun_change _ it.0 c.args.tag.now _ begins (c.row_of-row.ensures.row it.0 it.1 it.2) (sym (rw c.in_default.is at c.change_at.ensures))

pub unreachable-requires-in_default-place_granted : goal.unreachable-requires-in_default-place_granted
unreachable-requires-in_default-place_granted g c =
    let it = c.requires.begins in
    let begins = begins_next c.next_actions_are_allowed.ensures c.attempts_stand_behind_grants.ensures _ it.0 c.args.tag.now it.1.kept.legal
    it.2 it.3 in
    let at = sym (rw c.in-Some.is at c.change_at.ensures) in
    begun_place c.granted_changes_have_places.ensures _ it.0 c.args.tag.now _ _ begins (c.row_of-row.ensures.row it.0 it.1 it.2) at
    (sym c.place_granted.ensures ∙ c.in_default-place_granted.is)

pub unreachable-requires-in_default-place_known : goal.unreachable-requires-in_default-place_known
unreachable-requires-in_default-place_known g c =
    let it = c.requires.begins in
    let begins = begins_next c.next_actions_are_allowed.ensures c.attempts_stand_behind_grants.ensures _ it.0 c.args.tag.now it.1.kept.legal
    it.2 it.3 in
    let found = c.row_of-row.ensures.row it.0 it.1 it.2 in
    let live = c.instance_of-instance.ensures it.0 it.1 _ it.2 found in
    let at = sym (rw c.in-Some.is at c.change_at.ensures) in
    let attempt = of_attempt c.rows_have_holdings.ensures _ it.0 c.args.tag.now _ _ _ _ begins found live
    (c.vnfd_of-vnfd.ensures it.0 it.1) at in
    let known =
    undone_at c.work_fits_what_stands.ensures c.work_is_on_what_is_needed.ensures c.what_stands_has_a_place.ensures
    c.items_follow_what_is_done.ensures c.other_events_leave_places.ensures _ it.0 c.args.tag.now _ _ _ _ _ begins
    c.in-Undo.is found attempt (c.place_known.ensures it.0 it.1) in
    never_none _ known.1 c.in_default-place_known.is

pub returns-in-Some-place_granted : goal.returns-in-Some-place_granted
returns-in-Some-place_granted g c = λ H keeps is next.
    let begins = begins_next c.next_actions_are_allowed.ensures c.attempts_stand_behind_grants.ensures _ H c.args.tag.now keeps.kept.legal
    is next in
    let found = c.row_of-row.ensures.row H keeps is in
    let live = c.instance_of-instance.ensures H keeps _ is found in
    let at = sym (rw c.in-Some.is at c.change_at.ensures) in
    let attempt = of_attempt c.rows_have_holdings.ensures _ H c.args.tag.now _ _ _ _ begins found live
    (c.vnfd_of-vnfd.ensures H keeps) at in
    let place = sym (granted_by_row H _ _ c.args.tag.now.change is found) ∙ (sym c.place_granted.ensures ∙ c.in-Some-place_granted.is) in
    c.forward_act.ensures.of_attempt H c.args.tag.now attempt c.in-Forward.is (λ creates. place)

pub returns-in-Some-place_known : goal.returns-in-Some-place_known
returns-in-Some-place_known g c = λ H keeps is next.
    let begins = begins_next c.next_actions_are_allowed.ensures c.attempts_stand_behind_grants.ensures _ H c.args.tag.now keeps.kept.legal
    is next in
    let found = c.row_of-row.ensures.row H keeps is in
    let live = c.instance_of-instance.ensures H keeps _ is found in
    let at = sym (rw c.in-Some.is at c.change_at.ensures) in
    let attempt = of_attempt c.rows_have_holdings.ensures _ H c.args.tag.now _ _ _ _ begins found live
    (c.vnfd_of-vnfd.ensures H keeps) at in
    let known =
    undone_at c.work_fits_what_stands.ensures c.work_is_on_what_is_needed.ensures c.what_stands_has_a_place.ensures
    c.items_follow_what_is_done.ensures c.other_events_leave_places.ensures _ H c.args.tag.now _ _ _ _ _ begins
    c.in-Undo.is found attempt (c.place_known.ensures H keeps) in
    c.undo_act.ensures.of_attempt H c.args.tag.now attempt c.in-Undo.is (sym known.0 ∙ c.in-Some-place_known.is)
