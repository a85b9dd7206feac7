-- Date words.
use Rattle.std.specs.Prelude.{ℕ, Bool, cond, ◌&&◌, ◌==◌, nat_le, pos, List, length, take, drop, slice_index, Option, None, Some}
use Rattle.jiff_core.specs.Calendar.{days_in_month}
use Rattle.calendar_model.specs.Calendar.{day_number}
use Rattle.script_model.specs.Numbers.{all_digits, value_after}

-- whether the calendar has this date, and it lies in 2000 to 2099
abbrev pub is_century_date : (year month day : ℕ) → Bool
is_century_date year month day =
    nat_le 2000 year && nat_le year 2099 && nat_le 1 month && nat_le month 12 && nat_le 1 day && nat_le day (days_in_month (pos year) month)

-- four, two and two digits with a dash (45) between them
abbrev pub is_date_form : List ℕ → Bool
is_date_form word =
    (length word == 10) && (slice_index word 4 == 45) && (slice_index word 7 == 45) && all_digits (take 4 word) && all_digits (take 2 (drop 5 word)) && all_digits (drop 8 word)

abbrev pub day_in_century : (year month day : ℕ) → Option ℕ
day_in_century year month day = cond (is_century_date year month day) (Some (day_number year month day)) None

-- the day that a word `YYYY-MM-DD` says, where it says a date of 2000 to 2099
abbrev pub date_in : List ℕ → Option ℕ
date_in word =
    cond (is_date_form word) (day_in_century (value_after 0 (take 4 word)) (value_after 0 (take 2 (drop 5 word))) (value_after 0 (drop 8 word))) None
