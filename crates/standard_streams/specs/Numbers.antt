-- Numbers of open files: which are taken, and which one an opening takes (POSIX.1-2017, 2.14).
use Rattle.std.specs.Prelude.{◌≡◌, ◌<◌, ℕ, ◌+◌, Result, OnOk, OnErr}

-- which numbers are taken while nothing that was opened is let go of, how often something was opened, and how many
-- openings have failed
pub record Numbers : Type 1 where
  pub taken : ℕ → Type 0
  pub opened : ℕ
  pub failed : ℕ

-- this number was the lowest that was free, and is taken by one opening more; those that were taken still are, and no
-- opening failed
pub record Takes (n : ℕ) (old new : Numbers) : Type 0 where
  pub free : ¬ (old.taken n)
  pub below : (m : ℕ) → m < n → old.taken m
  pub taken : new.taken n
  pub others : (m : ℕ) → old.taken m → new.taken m
  pub opened : new.opened ≡ old.opened + 1
  pub failed : new.failed ≡ old.failed

-- one opening failed, and took no number
pub record Refuses (old new : Numbers) : Type 0 where
  pub others : (m : ℕ) → old.taken m → new.taken m
  pub opened : new.opened ≡ old.opened
  pub failed : new.failed ≡ old.failed + 1

-- an opening takes the lowest number that is free, or fails
pub record Opens {T E : Type 0} (result : Result T E) (old new : Numbers) : Type 0 where
  pub opened : OnOk result ((n : ℕ) × Takes n old new)
  pub refused : OnErr result (Refuses old new)

-- the numbers of standard input, output and error are taken
pub record AreStreamsTaken (numbers : Numbers) : Type 0 where
  pub input : numbers.taken 0
  pub output : numbers.taken 1
  pub error : numbers.taken 2

-- Where nothing was opened but what is held now, by exactly three openings, the numbers of the streams are taken:
-- whoever has let go of an opening has made a fourth.
pub record AreHeld (old new : Numbers) : Type 0 where
  pub taken : AreStreamsTaken new
  pub three : new.opened ≡ old.opened + 3

-- the numbers of the streams are held by three openings where none failed; where one did it was the last, behind two at
-- most
pub record Holds {T E : Type 0} (result : Result T E) (old new : Numbers) : Type 0 where
  pub held : OnOk result (AreHeld old new)
  pub no_fault : OnOk result (new.failed ≡ old.failed)
  pub fewer : OnErr result (new.opened < old.opened + 3)
  pub fault : OnErr result (new.failed ≡ old.failed + 1)
