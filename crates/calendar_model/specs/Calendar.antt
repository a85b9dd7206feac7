-- Days are counted from 2000-01-01, which is day 0, to 2099-12-31, and months from January 2000, which is month 0.
use Rattle.std.specs.Prelude.{◌≡◌, ℕ, ◌+◌, ◌/◌, ◌%◌, ◌≤◌, ◌&&◌, ◌==◌, Bool, nat_lt, nat_le, List, filter, pos, ◌-ℤ◌, unsigned_abs}
use Rattle.std.specs.List.{range_with_len, list_any}
use Rattle.jiff_core.specs.Calendar.{IsCivilDate, days_from_civil}

-- 2099-12-31
abbrev pub last_day : ℕ
last_day = 36524

abbrev pub is_day : ℕ → Bool
is_day number = nat_le number last_day

-- the calendar has this date, and it lies in 2000 to 2099
pub record IsCenturyDate (year month day : ℕ) : Type 0 where
  pub early : 2000 ≤ year
  pub late : year ≤ 2099
  pub civil : IsCivilDate (pos year) month day

-- how many days after 2000-01-01 a date lies
unfoldable pub day_number : ℕ → ℕ → ℕ → ℕ
day_number year month day =
    unsigned_abs (days_from_civil (pos year) month day -ℤ days_from_civil (pos 2000) 1 1)

-- the day of this number has this date
pub record IsDay (number year month day : ℕ) : Type 0 where
  pub date : IsCenturyDate year month day
  pub counted : number ≡ day_number year month day

-- first is the first day of the month of the day of this number
pub record IsMonthStart (number first : ℕ) : Type 0 where
  pub year : ℕ
  pub month : ℕ
  pub day : ℕ
  pub within : IsDay number year month day
  pub start : IsDay first year month 1

-- a month's place in its year, from 1
abbrev pub month_of_year : ℕ → ℕ
month_of_year month = month % 12 + 1

-- the day of this number lies in this month
pub record IsMonthOf (number month : ℕ) : Type 0 where
  pub day : ℕ
  pub dated : IsDay number (2000 + month / 12) (month_of_year month) day

-- the first day of a month
unfoldable pub first_day : ℕ → ℕ
first_day month = day_number (2000 + month / 12) (month_of_year month) 1

-- whether a day is the first of a month
unfoldable pub is_first_day : ℕ → Bool
is_first_day day = list_any (λ month. first_day month == day) (range_with_len 0 1200)

-- the months that have begun by a day, in order
unfoldable pub months_to : ℕ → List ℕ
months_to day = filter (λ month. nat_le (first_day month) day) (range_with_len 0 1200)

-- the months of 2000 to 2099 whose first day is after the old day and not after the new one, in order
unfoldable pub months_passed : (old new : ℕ) → List ℕ
months_passed old new =
    filter (λ month. nat_lt old (first_day month) && nat_le (first_day month) new) (range_with_len 0 1200)
