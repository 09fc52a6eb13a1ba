-- Moments: milliseconds since 1970-01-01T00:00:00Z (RFC 3339).
use Rattle.std.specs.Prelude.{ℕ, ◌≡◌, ◌+◌, ◌/◌, ◌%◌, ◌≤◌, List, [], ◌∷◌, ◌++◌, pos, unsigned_abs}
use Rattle.jiff_core.specs.Date.{epoch_day}
use Rattle.jiff_core.specs.declared.civil.date.Date.{Date}
use Rattle.jiff_fmt.specs.Text.{pad2, pad4}

-- the moment is at most 9999-12-31T23:59:59.999Z, the last that has a text of four digits for its year (RFC 3339)
abbrev pub IsMoment : ℕ → Type 0
IsMoment moment = moment ≤ 253402300799999

-- the year in four digits, the month and the day in two (RFC 3339)
abbrev pub date_text : Date → List ℕ
date_text d = pad4 (unsigned_abs d.year) ++ (45 ∷ pad2 d.month ++ (45 ∷ pad2 d.day))

-- the time of a day that has begun so many milliseconds ago, in UTC (RFC 3339)
abbrev pub time_text : ℕ → List ℕ
time_text ms = 84 ∷ pad2 (ms / 3600000) ++ (58 ∷ pad2 (ms / 60000 % 60) ++ (58 ∷ pad2 (ms / 1000 % 60)
    ++ (46 ∷ (48 + ms % 1000 / 100) ∷ pad2 (ms % 100) ++ (90 ∷ []))))

-- the text of a moment: the one date whose day it is in, and the time of that day (RFC 3339)
abbrev pub IsMomentText : ℕ → List ℕ → Type 0
IsMomentText moment text =
    (d : Date) × (epoch_day d ≡ pos (moment / 86400000)) × (text ≡ date_text d ++ time_text (moment % 86400000))
