-- Which fault an answer is.
use Rattle.std.proofs.Common.{◌≡◌, ◌<◌, ◌+◌, ℕ, Result, Ok, Err, ap, arith, refl}
use Rattle.std.specs.Result.{IsErrAnd, OnErr}
use Rattle.executor.specs.Faults.{opened_fault}
use Rattle.executor.specs.declared.manager.OpenFault.{OpenFault}
use Rattle.executor.specs.declared.manager.OpenFault.TheVariants as opening
use Rattle.journal_core.specs.Asking.{FailsWhere}
use Rattle.journal_core.specs.Room.{HasRoom}
use Rattle.journal_core.specs.declared.journal.AppendFault.{AppendFault}
use Rattle.journal_core.specs.declared.journal.AppendFault.TheVariants as appending
use Rattle.journal_records.specs.declared.limits.TheConstants.{MAX_FILE}
use Rattle.journal_core.specs.declared.loading.Found.{Found}
use Rattle.journal_core.specs.declared.loading.LoadFault.{LoadFault}
use Rattle.journal_core.specs.declared.loading.LoadFault.TheVariants as loading
use Rattle.site_traits.specs.Counts.{SiteCounts}

-- an answer that is this fault
pub err_is : {T E : Type 0} (r : Result T E) (w : E) → IsErrAnd r (λ v. v ≡ w) → r ≡ Err w
err_is (Ok done) w is = absurd is
err_is (Err v) w is = ap Err is

-- what holds of an answer that is a fault leads to what it leads to
pub on_err : {T E : Type 0} (r : Result T E) (P Q : Type 0) → (P → Q) → OnErr r P → OnErr r Q
on_err (Ok done) P Q leads on = tt
on_err (Err why) P Q leads on = leads on

-- an append for which the file has room fails for the disk
pub disk_failed : (why : AppendFault) (end more : ℕ) → HasRoom end more MAX_FILE
    → ((a b : ℕ) → why ≡ appending.Full a b → MAX_FILE < end + 10 + more) → why ≡ appending.Disk
disk_failed (appending.Full a b) end more room over = let past = over a b refl in absurd (omega (arith, past, room))
disk_failed appending.Disk end more room over = refl

-- reading the next record fails for the disk exactly where opening does
pub next_failed : {T : Type 0} (r : Result T OpenFault) (q : Result Found LoadFault) (why : LoadFault) (a b : SiteCounts)
    → r ≡ Err (opened_fault why) → q ≡ Err why
    → FailsWhere (q ≡ Err loading.Disk) a b → FailsWhere (r ≡ Err opening.Disk) a b
next_failed r q loading.Unmade a b is was fails = record { rose = λ disk. cc; stays = λ other. fails.stays (λ wrong. cc) }
next_failed r q (loading.Foreign place) a b is was fails = record { rose = λ disk. cc; stays = λ other. fails.stays (λ wrong. cc) }
next_failed r q (loading.Broken n) a b is was fails = record { rose = λ disk. cc; stays = λ other. fails.stays (λ wrong. cc) }
next_failed r q loading.Disk a b is was fails = record { rose = λ disk. fails.rose was; stays = λ other. absurd (other is) }
next_failed r q loading.Memory a b is was fails = record { rose = λ disk. cc; stays = λ other. fails.stays (λ wrong. cc) }
