-- What is kept of a row until its occurrence is over.
use Rattle.std.proofs.Common.{◌≡◌, ◌∙◌, ℕ, List, [], Bool, true, false, cond, Option, None, Some, refl, ap, sym, set}
use Rattle.std.specs.Prelude.{option_map, slice_set}
use Rattle.lcm_events.specs.declared.attempts.Tag.{Tag}
use Rattle.lcm_events.specs.declared.events.Event.{Event}
use Rattle.lcm_events.specs.declared.states.OpState.{OpState}
use Rattle.lcm_events.specs.declared.states.OpState.TheVariants.{Starting}
use Rattle.lcm_model.specs.Grants.{GivenGrant}
use Rattle.lcm_model.specs.Moves.{is_final, state}
use Rattle.lcm_model.specs.Work.{works_in}
use Rattle.lcm_laws.proofs.SettledLaws.{works_on}
use Rattle.occ_table.specs.declared.rows.Grant.{Grant}
use Rattle.occ_table.specs.declared.rows.OccRow.{OccRow}
use Rattle.occ_table.specs.Ended.{is_over, kept, kept_grant, kept_where, stripped}
use Rattle.occ_table.specs.Steps.{after_begun, after_move, begun, forgotten}

-- all is kept until the occurrence is over
pub kept_all : {A : Type 0} → (over : Bool) (xs : List A) → over ≡ false → kept over xs ≡ xs
kept_all true xs e = cc
kept_all false xs e = refl

-- what there may be is kept until the occurrence is over
pub kept_there : {A : Type 0} → (over : Bool) (x : Option A) → over ≡ false → kept_where over x ≡ x
kept_there true x e = cc
kept_there false x e = refl

-- what is kept of a list with an entry set
pub kept_set : (over : Bool) (xs ys : List ℕ) (n v : ℕ) → over ≡ false → xs ≡ set ys n v → kept over xs ≡ slice_set (kept over ys) n v
kept_set true xs ys n v e is = cc
kept_set false xs ys n v e is = is

-- an occurrence that is worked on, or starts, isn't over
pub works_not_over : (H : List Event) (o : ℕ) (t : Tag) → state H o ≡ works_in t.way → is_over H o ≡ false
works_not_over H o t works = ap is_final works ∙ works_on t.way

pub starting_not_over : (H : List Event) (o : ℕ) → state H o ≡ Starting → is_over H o ≡ false
starting_not_over H o starts = ap is_final starts

stripped_kept : (over was : Bool) (g : Option GivenGrant) → was ≡ false
    → option_map (kept_grant over) g ≡ option_map (stripped over) (option_map (kept_grant was) g)
stripped_kept over true g e = cc
stripped_kept over false None e = refl
stripped_kept over false (Some g) e = refl

-- what follows a row whose occurrence isn't over
still : (over : Bool) (r s : OccRow) → over ≡ false → s ≡ cond over r s
still true r s e = cc
still false r s e = refl

-- an attempt begins in a row whose occurrence isn't over
pub begun_row : (r : OccRow) (t : Tag) → is_final r.state ≡ false
    → record r { pending = begun t r.pending; attempts = slice_set r.attempts t.change t.attempt } ≡ after_begun t r
begun_row r t e = still (is_final r.state) r _ e

-- no attempt begins in a row whose occurrence is over
pub begun_over : (r : OccRow) (t : Tag) → is_final r.state ≡ true → r ≡ after_begun t r
begun_over r t e = rw e refl

-- a row whose occurrence is over doesn't move
pub moved_over : (r : OccRow) (time : ℕ) (to : OpState) → is_final r.state ≡ true → r ≡ after_move time to r
moved_over r time to e = rw e refl

-- a row moves whose occurrence isn't over
pub moved_on : (r : OccRow) (time : ℕ) (to : OpState) → is_final r.state ≡ false
    → forgotten (is_final to) (record r { state = to; entered = time; cancel = None; trouble = false }) ≡ after_move time to r
moved_on r time to e = still (is_final r.state) r _ e

-- a row that was whole, after a move
pub moved_row : (r : OccRow) (time : ℕ) (to : OpState) (was : Bool) (xs : List ℕ) (at : Option (List ℕ)) (g : Option GivenGrant)
    → was ≡ false → is_final r.state ≡ false
    → record r {
      state = to;
      entered = time;
      cancel = None;
      trouble = false;
      attempts = kept (is_final to) xs;
      location =
          kept_where (is_final to) at;
      grant = option_map (kept_grant (is_final to)) g;
    }
    ≡ after_move time to (record r { attempts = kept was xs; location = kept_where was at; grant = option_map (kept_grant was) g })
moved_row r time to was xs at g e on =
    let base : OccRow = record r { state = to; entered = time; cancel = None; trouble = false } in
    ap (λ (ys : List ℕ). record base {
      attempts = kept (is_final to) ys;
      location = kept_where (is_final to) at;
      grant =
          option_map (kept_grant (is_final to)) g;
    }) (sym (kept_all was xs e))
    ∙ (ap (λ (x : Option (List ℕ)). record base {
      attempts = kept (is_final to) (kept was xs);
      location = kept_where (is_final to) x;
      grant = option_map (kept_grant (is_final to)) g;
    }) (sym (kept_there was at e))
    ∙ ap (λ (h : Option Grant). record base {
      attempts = kept (is_final to) (kept was xs);
      location =
          kept_where (is_final to) (kept_where was at);
      grant = h;
    }) (stripped_kept (is_final to) was g e)
    ∙ still (is_final r.state) (record r { attempts = kept was xs; location = kept_where was at; grant = option_map (kept_grant was) g }) _
    on)

stripped_none : (g : Option Grant) → g ≡ option_map (stripped false) g
stripped_none None = refl
stripped_none (Some g) = refl

-- nothing is forgotten where the occurrence isn't over
pub forgotten_none : (r : OccRow) (over : Bool) → over ≡ false → r ≡ forgotten over r
forgotten_none r true e = cc
forgotten_none r false e = ap (λ (g : Option Grant). record r { grant = g }) (stripped_none r.grant)

-- all that goes is forgotten where the occurrence is over
pub forgotten_all : (r : OccRow) (over : Bool) → over ≡ true → record r
    { attempts = []; location = None; grant = option_map (stripped true) r.grant } ≡ forgotten over r
forgotten_all r true e = refl
forgotten_all r false e = cc
