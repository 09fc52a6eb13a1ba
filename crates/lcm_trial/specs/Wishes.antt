-- What a step of a trial may wish for, and the parts of its request (own rule over SOL 003 5.3, 5.5.2).
use Rattle.std.specs.Prelude.{Bool, List, [], ℕ, codes, false, if◌then◌else◌, true, ◌==◌}
use Rattle.lcm_trial.specs.declared.wishes.Wish.{Wish}
use Rattle.lcm_trial.specs.declared.wishes.Wish.TheVariants.{Cancel, Create, Delete, Heal, Instantiate, Retry, Rollback}
use Rattle.lcm_trial.specs.declared.wishes.Wish.TheVariants.{ScaleIn, ScaleOut, Terminate}

-- the wish of this number, from 0; each past the last is the last
unfoldable pub wish_numbered : ℕ → Wish
wish_numbered n =
    if n == 0 then Create else if n == 1 then Instantiate else if n == 2 then ScaleOut else if n == 3 then ScaleIn
    else if n == 4 then Heal else if n == 5 then Terminate else if n == 6 then Cancel else if n == 7 then Retry
    else if n == 8 then Rollback else Delete

-- the wish is about the operation of an instance that goes on
abbrev pub is_about_operation : Wish → Bool
is_about_operation Cancel = true
is_about_operation Retry = true
is_about_operation Rollback = true
is_about_operation _ = false

-- the method of the wish's request (SOL 003 5.3)
abbrev pub method_of : Wish → List ℕ
method_of Delete = codes "DELETE"
method_of _ = codes "POST"

-- what stands behind the path of the resource that the wish is about (SOL 003 5.3)
abbrev pub tail_of : Wish → List ℕ
tail_of Create = []
tail_of Instantiate = codes "/instantiate"
tail_of ScaleOut = codes "/scale"
tail_of ScaleIn = codes "/scale"
tail_of Heal = codes "/heal"
tail_of Terminate = codes "/terminate"
tail_of Cancel = codes "/cancel"
tail_of Retry = codes "/retry"
tail_of Rollback = codes "/rollback"
tail_of Delete = []

-- the body of the wish's request (SOL 003 5.5.2)
abbrev pub body_of : Wish → List ℕ
body_of Create = codes "{\"vnfdId\":\"vnfd-1\"}"
body_of Instantiate = codes "{\"flavourId\":\"simple\"}"
body_of ScaleOut = codes "{\"type\":\"SCALE_OUT\",\"aspectId\":\"workers\",\"numberOfSteps\":1}"
body_of ScaleIn = codes "{\"type\":\"SCALE_IN\",\"aspectId\":\"workers\",\"numberOfSteps\":1}"
body_of Heal = codes "{}"
body_of Terminate = codes "{\"terminationType\":\"GRACEFUL\"}"
body_of Cancel = codes "{\"cancelMode\":\"GRACEFUL\"}"
body_of Retry = []
body_of Rollback = []
body_of Delete = []
