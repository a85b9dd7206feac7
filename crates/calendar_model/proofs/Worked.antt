-- Dates, days and months, worked by hand and by Python's datetime.
use Rattle.std.proofs.Common.{◌≡◌, ℕ, zero, suc, ◌+◌, ◌<◌, ◌≤◌, lit<, lit≤, Bool, true, false, List, [], ◌∷◌, length, None, Some, pos, refl, sym, ap, inl, inr, arith, ◌==◌, nat_eq}
use Rattle.std.specs.Prelude.{codes}
use Rattle.std.specs.List.{list_any, range_with_len}
use Rattle.std.proofs.lemmas.Bool.{cases_order}
use Rattle.jiff_core.specs.Calendar.{days_from_civil, day_count, days_of_years, days_of_months}
use Rattle.jiff_core.proofs.SignedLemmas.{signed_arith}
use Rattle.jiff_core.proofs.CalendarLemmas.{days_in_month_bounds}
use Rattle.calendar_model.specs.Calendar.{IsCenturyDate, IsDay, day_number, first_day, is_first_day, months_passed, months_to}
use Rattle.calendar_model.specs.Entries.{last_or, latest, never_falls, passed_entries, set_entry}
use Rattle.calendar_model.specs.Texts.{IsDayText, date_text}
use Rattle.calendar_model.proofs.MonthLemmas.{IsInMonth, first_day-le, is_first_day-of, months_passed_is, months_to_is}

-- ---- day numbers

first_of_century : day_number 2000 1 1 ≡ 0
unfolding day_number days_from_civil day_count days_of_years days_of_months
first_of_century = refl

leap_day : day_number 2000 2 29 ≡ 59
unfolding day_number days_from_civil day_count days_of_years days_of_months
leap_day = refl

after_leap_day : day_number 2000 3 1 ≡ 60
unfolding day_number days_from_civil day_count days_of_years days_of_months
after_leap_day = refl

january_15 : day_number 2024 1 15 ≡ 8780
unfolding day_number days_from_civil day_count days_of_years days_of_months
january_15 = refl

december_31 : day_number 2024 12 31 ≡ 9131
unfolding day_number days_from_civil day_count days_of_years days_of_months
december_31 = refl

last_of_century : day_number 2099 12 31 ≡ 36524
unfolding day_number days_from_civil day_count days_of_years days_of_months
last_of_century = refl

-- ---- dates

-- 2024-01-15, and its text
pub dated_january_15 : IsDay 8780 2024 1 15
dated_january_15 = record {
  date = record { early = lit≤ tt; late = lit≤ tt; civil = (omega (arith, signed_arith), (lit≤ tt, lit≤ tt), (lit≤ tt, lit≤ tt)) };
  counted = sym january_15;
}

pub written_january_15 : IsDayText 8780 (codes "2024-01-15")
written_january_15 = record { year = 2024; month = 1; day = 15; dated = dated_january_15; written = refl }

-- a first day of a month, and its text
starting : (n y m : ℕ) (text : List ℕ) → 2000 ≤ y → y ≤ 2099 → 1 ≤ m → m ≤ 12 → n ≡ day_number y m 1 → text ≡ date_text y m 1 → IsDayText n text
starting n y m text early late from to counted written =
    let long = days_in_month_bounds (pos y) m in
    record {
      year = y;
      month = m;
      day = 1;
      dated = record {
        date = record { early = early; late = late; civil = (omega (arith, signed_arith), (from, to), (lit≤ tt, omega (arith, long.1))) };
        counted = counted;
      };
      written = written;
    }

pub written_february_1 : IsDayText 8797 (codes "2024-02-01")
unfolding day_number days_from_civil day_count days_of_years days_of_months
written_february_1 = starting 8797 2024 2 (codes "2024-02-01") (lit≤ tt) (lit≤ tt) (lit≤ tt) (lit≤ tt) refl refl

pub written_march_1 : IsDayText 8826 (codes "2024-03-01")
unfolding day_number days_from_civil day_count days_of_years days_of_months
written_march_1 = starting 8826 2024 3 (codes "2024-03-01") (lit≤ tt) (lit≤ tt) (lit≤ tt) (lit≤ tt) refl refl

pub written_april_1 : IsDayText 8857 (codes "2024-04-01")
unfolding day_number days_from_civil day_count days_of_years days_of_months
written_april_1 = starting 8857 2024 4 (codes "2024-04-01") (lit≤ tt) (lit≤ tt) (lit≤ tt) (lit≤ tt) refl refl

pub written_new_year : IsDayText 9132 (codes "2025-01-01")
unfolding day_number days_from_civil day_count days_of_years days_of_months
written_new_year = starting 9132 2025 1 (codes "2025-01-01") (lit≤ tt) (lit≤ tt) (lit≤ tt) (lit≤ tt) refl refl

-- 2024-02-29 is a date, and 2023-02-29 and 2100-01-01 are none of the century
february_29 : IsCenturyDate 2024 2 29
february_29 = record { early = lit≤ tt; late = lit≤ tt; civil = (omega (arith, signed_arith), (lit≤ tt, lit≤ tt), (lit≤ tt, lit≤ tt)) }

no_february_29 : IsCenturyDate 2023 2 29 → ⊥
no_february_29 date = let last : 29 ≤ 28 = date.civil.2.1 in omega arith

no_month_13 : IsCenturyDate 2024 13 1 → ⊥
no_month_13 date = let last : 13 ≤ 12 = date.civil.1.1 in omega arith

none_before : IsCenturyDate 1999 12 31 → ⊥
none_before date = omega (arith, date.early)

none_after : IsCenturyDate 2100 1 1 → ⊥
none_after date = omega (arith, date.late)

-- ---- months: January 2024 is month 288, and December 2099 is month 1199

january : first_day 288 ≡ 8766
unfolding first_day day_number days_from_civil day_count days_of_years days_of_months
january = refl

pub february : first_day 289 ≡ 8797
unfolding first_day day_number days_from_civil day_count days_of_years days_of_months
february = refl

pub march : first_day 290 ≡ 8826
unfolding first_day day_number days_from_civil day_count days_of_years days_of_months
march = refl

april : first_day 291 ≡ 8857
unfolding first_day day_number days_from_civil day_count days_of_years days_of_months
april = refl

december : first_day 299 ≡ 9101
unfolding first_day day_number days_from_civil day_count days_of_years days_of_months
december = refl

pub next_january : first_day 300 ≡ 9132
unfolding first_day day_number days_from_civil day_count days_of_years days_of_months
next_january = refl

next_february : first_day 301 ≡ 9163
unfolding first_day day_number days_from_civil day_count days_of_years days_of_months
next_february = refl

last_month : first_day 1199 ≡ 36494
unfolding first_day day_number days_from_civil day_count days_of_years days_of_months
last_month = refl

-- a day from the first day of a month to before that of the next
in_month : (day month start next : ℕ) → month < 1200 → first_day month ≡ start → first_day (month + 1) ≡ next → start ≤ day → day < next → IsInMonth day month
in_month day month start next known starts ends from before =
    record { known = known; from = omega (arith, starts); before = omega (arith, ends) }

in_january : IsInMonth 8780 288
in_january = in_month 8780 288 8766 8797 (lit< tt) january february (lit≤ tt) (lit< tt)

in_february : IsInMonth 8797 289
in_february = in_month 8797 289 8797 8826 (lit< tt) february march (lit≤ tt) (lit< tt)

in_march : IsInMonth 8829 290
in_march = in_month 8829 290 8826 8857 (lit< tt) march april (lit≤ tt) (lit< tt)

start_of_march : IsInMonth 8826 290
start_of_march = in_month 8826 290 8826 8857 (lit< tt) march april (lit≤ tt) (lit< tt)

in_december : IsInMonth 9131 299
in_december = in_month 9131 299 9101 9132 (lit< tt) december next_january (lit≤ tt) (lit< tt)

in_next_january : IsInMonth 9132 300
in_next_january = in_month 9132 300 9132 9163 (lit< tt) next_january next_february (lit≤ tt) (lit< tt)

-- 2024-02-01 and 2024-03-01 are first days, and 2024-03-04 is none
pub is_first_february : is_first_day 8797 ≡ true
is_first_february = is_first_day-of 289 8797 (lit< tt) (sym february)

pub is_first_march : is_first_day 8826 ≡ true
is_first_march = is_first_day-of 290 8826 (lit< tt) (sym march)

none_in_range : (p : ℕ → Bool) (a n : ℕ) → ((x : ℕ) → x < a + n → p x ≡ false) → list_any p (range_with_len a n) ≡ false
none_in_range p a zero h = refl
none_in_range p a (suc n) h = rw (h a (omega arith)) (none_in_range p (a + 1) n (λ x to. h x (omega arith)))

within_month : (day month x : ℕ) → IsInMonth day month → first_day month < day → x < 1200 → nat_eq (first_day x) day ≡ false
within_month day month x is later known =
    elim (cases_order x month) [
      | inl same ↦ let le = first_day-le x month (omega (arith, is.known)) (omega arith) in grind (arith, le)
      | inr (inl before) ↦ let le = first_day-le x month (omega (arith, is.known)) (omega arith) in grind (arith, le)
      | inr (inr after) ↦ let le = first_day-le (month + 1) x (omega arith) (omega arith) in grind (arith, is.before, le)
    ]

pub not_first : is_first_day 8829 ≡ false
unfolding is_first_day
not_first = none_in_range (λ m. first_day m == 8829) 0 1200 (λ x to. within_month 8829 290 x in_march (omega (arith, march)) (omega arith))

-- how many months have begun by these days
pub begun_february : length (months_to 8797) ≡ 290
begun_february = ap length (months_to_is 8797 289 in_february)

pub begun_start_of_march : length (months_to 8826) ≡ 291
begun_start_of_march = ap length (months_to_is 8826 290 start_of_march)

pub begun_march : length (months_to 8829) ≡ 291
begun_march = ap length (months_to_is 8829 290 in_march)

-- from 2024-01-15 to 2024-03-04 the months February and March are passed; over the end of the year January 2025; and to the
-- same day none
pub passed_two : months_passed 8780 8829 ≡ 289 ∷ 290 ∷ []
passed_two = months_passed_is 8780 8829 288 290 in_january in_march (lit≤ tt)

pub passed_year : months_passed 9131 9132 ≡ 300 ∷ []
passed_year = months_passed_is 9131 9132 299 300 in_december in_next_january (lit≤ tt)

pub passed_none : months_passed 8826 8829 ≡ []
passed_none = months_passed_is 8826 8829 290 290 start_of_march in_march (lit≤ tt)

pub passed_same : months_passed 8797 8797 ≡ []
passed_same = months_passed_is 8797 8797 289 289 in_february in_february (lit≤ tt)

-- ---- entries

-- a register showed 7
february_and_march : passed_entries {Register = ℕ} 7 8780 8829 ≡ record { day = 8797; register = 7 } ∷ record { day = 8826; register = 7 } ∷ []
february_and_march = rw (passed_two, february, march) refl

new_year : passed_entries {Register = ℕ} 7 9131 9132 ≡ record { day = 9132; register = 7 } ∷ []
new_year = rw (passed_year, next_january) refl

-- the latest set day that is passed: that of January; the one kept before, as no March is passed; that of February
set_january : set_entry {Register = ℕ} 7 1 9131 9132 None ≡ Some (record { day = 9132; register = 7 })
set_january = rw (passed_year, next_january) refl

kept_before : set_entry {Register = ℕ} 7 3 9131 9132 (Some (record { day = 8826; register = 5 })) ≡ Some (record { day = 8826; register = 5 })
kept_before = rw passed_year refl

set_february : set_entry {Register = ℕ} 7 2 8780 8829 (Some (record { day = 8432; register = 5 })) ≡ Some (record { day = 8797; register = 7 })
set_february = rw (passed_two, february) refl

-- of 25 the latest 24, of 3 all
cut_to_24 : latest 24 (range_with_len 1 25) ≡ range_with_len 2 24
cut_to_24 = refl

all_of_3 : latest {Item = ℕ} 24 (1 ∷ 2 ∷ 3 ∷ []) ≡ 1 ∷ 2 ∷ 3 ∷ []
all_of_3 = refl

last_of_two : last_or {Item = ℕ} 1 (2 ∷ 3 ∷ []) ≡ 3
last_of_two = refl

last_of_none : last_or {Item = ℕ} 1 [] ≡ 1
last_of_none = refl

-- days that stay do not fall
in_order : never_falls (8780 ∷ 8780 ∷ 8797 ∷ []) ≡ true
in_order = refl

out_of_order : never_falls (8797 ∷ 8780 ∷ 8797 ∷ []) ≡ false
out_of_order = refl
