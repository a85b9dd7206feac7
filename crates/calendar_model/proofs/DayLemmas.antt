-- Day numbers of the dates of 2000 to 2099.
use Rattle.std.proofs.Common.{◌≡◌, ℕ, ◌+◌, ◌-◌, ◌<◌, ◌≤◌, inl, inr, refl, sym, ap, arith, pos, ◌-ℤ◌, unsigned_abs, negsuc, subst, lit≤, ◌≤ℤ◌, ℤ}
use Rattle.std.proofs.lemmas.Bool.{cases_order}
use Rattle.std.proofs.lemmas.Int.{by_lt_z}
use Rattle.jiff_core.specs.Calendar.{day_count, days_from_civil, IsCivilDate}
use Rattle.jiff_core.proofs.SignedLemmas.{signed_arith}
use Rattle.jiff_core.proofs.CalendarLemmas.{days_from_civil-day_count, day_count-lt_year, day_count-day_of_year, day_count-later_year, day_count-last_of_year}
use Rattle.jiff_core.proofs.MarchLemmas.{day_count-early}
use Rattle.calendar_model.specs.Calendar.{IsCenturyDate, day_number, IsDay}

pub day_count-2000 : day_count (pos 2000) 1 1 ≡ 4382910
day_count-2000 = day_count-early (pos 2000) 11999 1 1 refl (omega arith) (omega arith) (omega arith)

pub day_count-2100 : day_count (pos 2100) 1 1 ≡ 4419435
day_count-2100 = day_count-early (pos 2100) 12099 1 1 refl (omega arith) (omega arith) (omega arith)

-- a date from 2000 on has so many days before it
pub day_count-from_2000 : (y m d : ℕ) → 2000 ≤ y → 1 ≤ d → 1 ≤ m → 4382910 ≤ day_count (pos y) m d
day_count-from_2000 y m d early first some =
    let year : 4382910 ≤ day_count (pos y) 1 1 = elim (cases_order 2000 y) [
      | inl same ↦ rw (sym same) (omega (arith, day_count-2000))
      | inr (inl later) ↦ omega (arith, day_count-2000, day_count-later_year (pos 2000) (pos y) (omega (arith, signed_arith)) (omega (arith, signed_arith)))
      | inr (inr earlier) ↦ absurd (omega arith)
    ] in
    omega (arith, day_count-day_of_year (pos y) m d first)

pub day_count-to_2099 : (y m d : ℕ) → y ≤ 2099 → IsCivilDate (pos y) m d → day_count (pos y) m d < 4419435
day_count-to_2099 y m d late civil =
    rw (sym day_count-2100) (day_count-lt_year (pos y) m d (pos 2100) 1 1 civil (omega arith) (omega (arith, signed_arith)))

pub day_number-day_count : (y m d : ℕ) → 4382910 ≤ day_count (pos y) m d → day_count (pos y) m d ≡ 4382910 + day_number y m d
unfolding day_number
day_number-day_count y m d from =
    let apart : days_from_civil (pos y) m d -ℤ days_from_civil (pos 2000) 1 1 ≡ pos (day_count (pos y) m d - 4382910) =
    omega (arith, signed_arith, days_from_civil-day_count (pos y) m d, days_from_civil-day_count (pos 2000) 1 1, day_count-2000) in
    omega (arith, ap unsigned_abs apart)

pub day_number-civil : (y m d : ℕ) → IsCenturyDate y m d → (day_count (pos y) m d ≡ 4382910 + day_number y m d) × (day_number y m d ≤ 36524)
day_number-civil y m d date =
    let is = day_number-day_count y m d (day_count-from_2000 y m d date.early date.civil.2.0 date.civil.1.0) in
    (is, omega (arith, is, day_count-to_2099 y m d date.late date.civil))

day_count-end_of_2099 : day_count (pos 2099) 12 31 ≡ 4419434
day_count-end_of_2099 =
    let start : day_count (pos 2099) 1 1 ≡ 4419070 = day_count-early (pos 2099) 12098 1 1 refl (omega arith) (omega arith) (omega arith) in
    omega (arith, start, day_count-last_of_year (pos 2099))

-- the days from 1970-01-01 to 2000-01-01 are 10957
pub IsDay-counted : (n y m d : ℕ) → IsCenturyDate y m d → days_from_civil (pos y) m d ≡ pos (10957 + n) → IsDay n y m d
IsDay-counted n y m d date counted = record {
  date = date;
  counted = omega (arith, signed_arith, (day_number-civil y m d date).0, days_from_civil-day_count (pos y) m d, counted);
}

pub year_positive : (z : ℤ) → pos 2000 ≤ℤ z → z ≡ pos (unsigned_abs z)
year_positive (pos n) h = refl
year_positive (negsuc n) h = absurd (omega (arith, signed_arith))

-- a date of these years has a number of these days
pub century_number : (y : ℤ) (m d : ℕ) → IsCivilDate y m d → pos 2000 ≤ℤ y → y ≤ℤ pos 2099 → (pos 10957 ≤ℤ days_from_civil y m d) × (days_from_civil y m d ≤ℤ pos 47481)
century_number y m d civil early late =
    let is = year_positive y early in
    let from : 4382910 ≤ day_count y m d = rw is (day_count-from_2000 (unsigned_abs y) m d (omega (arith, signed_arith)) civil.2.0 civil.1.0) in
    let to : day_count y m d < 4419435 = rw (sym day_count-2100) (day_count-lt_year y m d (pos 2100) 1 1 civil (omega arith) (omega (arith, signed_arith))) in
    (omega (arith, signed_arith, days_from_civil-day_count y m d), omega (arith, signed_arith, days_from_civil-day_count y m d))

-- and a number of these days is that of a date of these years
pub century_year : (y : ℤ) (m d n : ℕ) → IsCivilDate y m d → n ≤ 36524 → days_from_civil y m d ≡ pos (10957 + n) → (pos 2000 ≤ℤ y) × (y ≤ℤ pos 2099)
century_year y m d n civil le counted = (
  by_lt_z y (pos 2000)
      (λ lt. absurd (omega (arith, signed_arith, counted, days_from_civil-day_count y m d, day_count-2000, day_count-lt_year y m d (pos 2000) 1 1 civil (omega arith) lt)))
      (λ ge. ge),
  by_lt_z (pos 2099) y
      (λ gt. absurd (omega (arith, signed_arith, counted, days_from_civil-day_count y m d, day_count-end_of_2099, day_count-lt_year (pos 2099) 12 31 y m d (omega (arith, signed_arith), (lit≤ tt, lit≤ tt), (lit≤ tt, lit≤ tt)) civil.2.0 gt)))
      (λ small. small),
)

-- a date with a signed year, as `jiff` has it
pub IsDay-date : (z : ℤ) (y m d n : ℕ) → z ≡ pos y → IsCivilDate z m d → pos 2000 ≤ℤ z → z ≤ℤ pos 2099 → days_from_civil z m d ≡ pos (10957 + n) → IsDay n y m d
IsDay-date z y m d n is civil early late counted =
    let P : ℤ → Type 0 = λ w. IsCivilDate w m d in
    let Q : ℤ → Type 0 = λ w. days_from_civil w m d ≡ pos (10957 + n) in
    let date : IsCenturyDate y m d = record { early = omega (arith, signed_arith, is, early); late = omega (arith, signed_arith, is, late); civil = subst P is civil } in
    IsDay-counted n y m d date (subst Q is counted)
