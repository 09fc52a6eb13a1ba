-- The connection comes.
use Rattle.std.proofs.Common.{◌≡◌, ℕ, Bool, true, false, List, [], ◌∷◌, replicate, ap, subst, sym, refl, arith}
use Rattle.lcm_events.specs.declared.states.Role.{Role}
use Rattle.site_traits.specs.Door.{Comes, fresh}
use Rattle.site_traits.specs.declared.door.NextAnswer.TheVariants.{Came, Ended}
use Rattle.host_calls.specs.Streams.{Incoming}
use Rattle.outside_edges.specs.Door.{IsDoor, conn_of, state_of}

-- a connection of which nothing was read, written or failed is a fresh one
is_fresh : (rf wf : Bool) (bytes left output : List ℕ) → left ≡ bytes → output ≡ [] → rf ≡ false → wf ≡ false
    → conn_of true true rf wf (record { bytes = bytes; left = left }) output ≡ fresh bytes
is_fresh rf wf bytes left output l o r w = grind arith

-- where none has come, one comes
pub comes : (I O : Type 0) (came up rf wf : Bool) (role : Role) (ends : ℕ) (input : Incoming) (output : List ℕ) → came ≡ false
    → IsDoor I O came up ends rf wf input output → I → O
    → Comes role (state_of came role ends up rf wf input output) (state_of true role ends true rf wf input output)
comes I O came up rf wf role ends input output e door i o =
    let P : Bool → Type 0 = λ b. Comes role (state_of b role ends up rf wf input output)
    (state_of true role ends true rf wf input output) in
    subst P (sym e) (record {
      answers = ap (λ n. Came role ∷ replicate n Ended) (door.not_ended e);
      bytes = input.bytes;
      conn = is_fresh rf wf input.bytes input.left output (door.unread e i) (door.unwritten e o) (door.no_read_failed e)
          (door.no_write_failed e);
      past = refl;
    })
