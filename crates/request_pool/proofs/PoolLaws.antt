-- Laws on the slots of clients.
use Rattle.std.proofs.Common.{◌≡◌, ◌∙◌, ℕ, List, Option, Some, None, ap, sym, subst, min, length, drop}
use Rattle.std.specs.Prelude.{slice_set}
use Rattle.std.proofs.lemmas.List.{set-set}
use Rattle.request_pool.specs.Clients.{ClientState, CameTo}
use Rattle.request_pool.specs.Pools.{client_at, Comes, ComesFrom, Goes, GoesTo}

-- a client was taken out of its slot and put back otherwise
pub put_again : (old mid new : List (Option ClientState)) (slot : ℕ) (after : ClientState) → mid ≡ slice_set old slot None
    → new ≡ slice_set mid slot (Some after) → new ≡ slice_set old slot (Some after)
put_again old mid new slot after em en = en ∙ ap (λ (x : List (Option ClientState)). slice_set x slot (Some after)) em ∙ set-set old slot None (Some after)

-- bytes came from a client that was taken out of its slot and put back
pub comes_to : (old mid new : List (Option ClientState)) (slot : ℕ) (bytes : List ℕ) (c after : ClientState) → client_at old slot ≡ Some c
    → CameTo bytes c after → mid ≡ slice_set old slot None → new ≡ slice_set mid slot (Some after) → Comes slot bytes old new
comes_to old mid new slot bytes c after is came em en =
    subst (λ (o : Option ClientState). ComesFrom o slot bytes old new) (sym is) (after, came, put_again old mid new slot after em en)

-- bytes went out to one
pub goes_to : (old mid new : List (Option ClientState)) (slot count : ℕ) (c after : ClientState) → client_at old slot ≡ Some c
    → after ≡ record c { out = drop (min count (length c.out)) c.out } → mid ≡ slice_set old slot None
    → new ≡ slice_set mid slot (Some after) → Goes slot count old new
goes_to old mid new slot count c after is went em en =
    subst (λ (o : Option ClientState). GoesTo o slot count old new) (sym is)
    (put_again old mid new slot after em en ∙ ap (λ (x : ClientState). slice_set old slot (Some x)) went)
