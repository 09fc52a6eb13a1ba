-- The text of a moment in a view (RFC 3339): the date of its day, counted on from 1 January 1970, and the time of that
-- day.
use Rattle.std.specs.Prelude.{ℕ, zero, suc, ◌+◌, ◌/◌, ◌%◌, ◌≡◌, List, ◌∷◌, ◌++◌, if◌then◌else◌, nat_lt, pos}
use Rattle.jiff_core.specs.Calendar.{days_in_month}
use Rattle.jiff_fmt.specs.Text.{pad2, pad4}
use Rattle.vnfm_base.specs.Moment.{IsMoment, IsMomentText, time_text}

-- a day of the calendar
pub record Day : Type 0 where
  pub year : ℕ
  pub month : ℕ
  pub day : ℕ

-- the day after: the next of its month, or the first of the next month, or 1 January (RFC 3339, 5.7)
abbrev pub day_after : Day → Day
day_after d =
    if nat_lt d.day (days_in_month (pos d.year) d.month) then record { year = d.year; month = d.month; day = d.day + 1 }
    else (if nat_lt d.month 12 then record { year = d.year; month = d.month + 1; day = 1 }
    else record { year = d.year + 1; month = 1; day = 1 })

-- the day so many days after 1 January 1970
unfoldable pub day_number : ℕ → Day
day_number zero = record { year = 1970; month = 1; day = 1 }
day_number (suc n) = day_after (day_number n)

-- the year in four digits, the month and the day in two (RFC 3339, full-date)
abbrev pub day_text : Day → List ℕ
day_text d = pad4 d.year ++ (45 ∷ pad2 d.month ++ (45 ∷ pad2 d.day))

-- the text of a moment (RFC 3339)
abbrev pub moment_text : ℕ → List ℕ
moment_text moment = day_text (day_number (moment / 86400000)) ++ time_text (moment % 86400000)

-- a text that is a moment's is the one that views show (RFC 3339)
abbrev pub AreMomentTexts : Type 0
AreMomentTexts = (moment : ℕ) (text : List ℕ) → IsMomentText moment text → text ≡ moment_text moment

-- and that one is a moment's (RFC 3339)
abbrev pub AreTextsOfMoments : Type 0
AreTextsOfMoments = (moment : ℕ) → IsMoment moment → IsMomentText moment (moment_text moment)
