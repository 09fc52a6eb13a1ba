-- The days counted on from 1 January 1970 are those of the calendar, so that a moment has one text.
use Rattle.std.proofs.Common.{◌≡◌, ◌<◌, ◌≤◌, ◌+◌, ◌/◌, ◌%◌, ◌++◌, ◌∙◌, ℕ, zero, suc, true, false, List, pos, ltb-true, ltb-false, arith}
use Rattle.std.proofs.Common.{refl, ap, sym, subst}
use Rattle.std.specs.Prelude.{nat_lt}
use Rattle.lcm_laws.proofs.Lists.{by_test}
use Rattle.jiff_core.specs.declared.civil.date.Date.{Date}
use Rattle.jiff_core.specs.Calendar.{IsYear, days_from_civil, days_in_month}
use Rattle.jiff_core.specs.Date.{epoch_day}
use Rattle.jiff_core.proofs.SignedLemmas.{signed_arith}
use Rattle.jiff_core.proofs.CalendarLemmas.{days_in_month_bounds}
use Rattle.jiff_core.proofs.DateLemmas.{days_from_civil-day, days_from_civil-max, days_from_civil-next_month, days_from_civil-next_year}
use Rattle.jiff_core.proofs.DateLemmas.{epoch_day_injective, epoch_day_range}
use Rattle.jiff_core.proofs.StandardFacts.{known_days}
use Rattle.vnfm_base.specs.Moment.{IsMoment, IsMomentText, date_text, time_text}
use Rattle.json_views.specs.Moments.{Day, day_after, day_number, day_text, moment_text}

-- the day is one of the calendar, and has this number
record IsDay (n : ℕ) (d : Day) : Type 0 where
  year : d.year ≤ 9999
  month_low : 1 ≤ d.month
  month_high : d.month ≤ 12
  day_low : 1 ≤ d.day
  day_high : d.day ≤ days_in_month (pos d.year) d.month
  number : days_from_civil (pos d.year) d.month d.day ≡ pos n

within_month : (n : ℕ) (d : Day) → IsDay n d → nat_lt d.day (days_in_month (pos d.year) d.month) ≡ true
    → IsDay (suc n) (record { year = d.year; month = d.month; day = d.day + 1 })
within_month n d is less =
    let low = is.day_low in
    let number = is.number in
    let below = ltb-true d.day (days_in_month (pos d.year) d.month) less in
    let next = days_from_civil-day (pos d.year) d.month d.day (d.day + 1) low (omega (arith, low)) in
    record {
      year = is.year;
      month_low = is.month_low;
      month_high = is.month_high;
      day_low = omega (arith, low);
      day_high = omega (arith, below);
      number = omega (arith, signed_arith, next, number);
    }

last_of_month : (n : ℕ) (d : Day) → IsDay n d → nat_lt d.day (days_in_month (pos d.year) d.month) ≡ false
    → d.day ≡ days_in_month (pos d.year) d.month
last_of_month n d is last = let high = is.day_high in let above = ltb-false d.day (days_in_month (pos d.year) d.month) last in
    omega (arith, high, above)

next_month : (n : ℕ) (d : Day) → IsDay n d → d.day ≡ days_in_month (pos d.year) d.month → nat_lt d.month 12 ≡ true
    → IsDay (suc n) (record { year = d.year; month = d.month + 1; day = 1 })
next_month n d is last less =
    let low = is.month_low in
    let number = is.number in
    let below = ltb-true d.month 12 less in
    let next = days_from_civil-next_month (pos d.year) d.month d.day low last in
    let long = days_in_month_bounds (pos d.year) (d.month + 1) in
    record {
      year = is.year;
      month_low = omega (arith, low);
      month_high = omega (arith, below);
      day_low = omega arith;
      day_high = omega (arith, long);
      number = omega (arith, signed_arith, next, number);
    }

next_year : (n : ℕ) (d : Day) → n < 2932896 → IsDay n d → d.day ≡ days_in_month (pos d.year) d.month → nat_lt d.month 12 ≡ false
    → IsDay (suc n) (record { year = d.year + 1; month = 1; day = 1 })
next_year n d few is last more =
    let high = is.month_high in
    let above = ltb-false d.month 12 more in
    let twelve : d.month ≡ 12 = omega (arith, high, above) in
    let long : d.day ≡ 31 = last ∙ ap (λ (m : ℕ). days_in_month (pos d.year) m) twelve in
    let number : days_from_civil (pos d.year) 12 31 ≡ pos n =
    ap (λ (k : ℕ). days_from_civil (pos d.year) 12 k) (sym long) ∙ (ap (λ (m : ℕ). days_from_civil (pos d.year) m d.day) (sym twelve)
    ∙ is.number) in
    let next = days_from_civil-next_year (pos d.year) (pos (d.year + 1)) (omega (arith, signed_arith)) (omega (arith, signed_arith)) in
    let bound = is.year in
    let first = days_in_month_bounds (pos (d.year + 1)) 1 in
    let not_last : (d.year ≡ 9999) → ⊥ = λ e. let at : days_from_civil (pos 9999) 12 31 ≡ pos n =
    subst (λ (y : ℕ). days_from_civil (pos y) 12 31 ≡ pos n) e number in
    absurd (omega (arith, signed_arith, at, days_from_civil-max, few)) in
    record {
      year = omega (arith, bound, not_last);
      month_low = omega arith;
      month_high = omega arith;
      day_low = omega arith;
      day_high = omega (arith, first);
      number = omega (arith, signed_arith, next, number);
    }

-- the day after a day of the calendar is the next one
after : (n : ℕ) (d : Day) → n < 2932896 → IsDay n d → IsDay (suc n) (day_after d)
after n d few is = by_test (nat_lt d.day (days_in_month (pos d.year) d.month))
    (λ less. rw less (within_month n d is less))
    (λ last.
    let end = last_of_month n d is last in
    by_test (nat_lt d.month 12)
    (λ less. rw (last, less) (next_month n d is end less))
    (λ more. rw (last, more) (next_year n d few is end more)))

-- each number is that of its day
is_day : (n : ℕ) → n ≤ 2932896 → IsDay n (day_number n)
unfolding day_number
is_day zero few = record {
  year = omega arith;
  month_low = omega arith;
  month_high = omega arith;
  day_low = omega arith;
  day_high = omega arith;
  number = known_days.0;
}
is_day (suc n) few = after n (day_number n) (omega (arith, few)) (is_day n (omega (arith, few)))

year_in : (y : ℕ) → y ≤ 9999 → IsYear (pos y)
year_in y few = (omega (arith, signed_arith), omega (arith, signed_arith, few))

-- the date of a day of the calendar
abbrev date : (n : ℕ) (d : Day) → IsDay n d → Date
date n d is = record {
  year = pos d.year;
  month = d.month;
  day = d.day;
  year_in = year_in d.year is.year;
  month_in = (is.month_low, is.month_high);
  day_in = (is.day_low, is.day_high);
}

-- a date has no number past that of the last day
few_days : (d : Date) (n : ℕ) → epoch_day d ≡ pos n → n ≤ 2932896
few_days d n is = let range = epoch_day_range d in omega (arith, signed_arith, range, is)

-- the text of a date is that of the day of its number
date_is : (d : Date) (n : ℕ) → epoch_day d ≡ pos n → date_text d ≡ day_text (day_number n)
date_is d n is =
    let day = day_number n in
    let mine = is_day n (few_days d n is) in
    let same = epoch_day_injective d (date n day mine) (is ∙ sym mine.number) in
    rw (same.0, same.1, same.2) refl

-- a moment has one text
pub one_text : (moment : ℕ) (text : List ℕ) → IsMomentText moment text → text ≡ moment_text moment
one_text moment text is = is.2 ∙ ap (λ (t : List ℕ). t ++ time_text (moment % 86400000)) (date_is is.0 (moment / 86400000) is.1)

-- and it has one
pub has_text : (moment : ℕ) → IsMoment moment → IsMomentText moment (moment_text moment)
has_text moment small =
    let few : moment / 86400000 ≤ 2932896 = omega (arith, small) in
    let mine = is_day (moment / 86400000) few in (
      date (moment / 86400000) (day_number (moment / 86400000)) mine,
      mine.number,
      refl,
    )
