-- The date of type G that a day has.
use Rattle.std.proofs.Common.{◌≡◌, ◌∙◌, ℕ, ◌+◌, ◌-◌, ◌*◌, ◌/◌, ◌≤◌, [], ◌∷◌, length, pos, refl, ap, arith}
use Rattle.std.proofs.lemmas.List.FromFn.{length-range_with_len}
use Rattle.jiff_core.specs.Calendar.{day_count}
use Rattle.jiff_core.proofs.SignedLemmas.{signed_arith}
use Rattle.jiff_core.proofs.CalendarLemmas.{days_in_month_bounds, day_count-day}
use Rattle.jiff_core.proofs.MarchLemmas.{day_count-early}
use Rattle.calendar_model.specs.Calendar.{IsCenturyDate, IsDay, month_of_year, first_day, day_number, months_to}
use Rattle.calendar_model.proofs.DayLemmas.{day_number-civil, day_number-day_count}
use Rattle.calendar_model.proofs.MonthLemmas.{IsInMonth-date, months_to_is}
use Rattle.telegram_model.specs.Values.{type_g, month_in, date_bytes}

-- the month that a date lies in
month_in-date : (n y m d month : ℕ) → IsDay n y m d → month + 24001 ≡ 12 * y + m → month_in n ≡ month
month_in-date n y m d month is e =
    let begun : length (months_to n) ≡ month + 1 = ap length (months_to_is n month (IsInMonth-date n y m d month is e)) ∙ length-range_with_len 0 (month + 1) in
    omega arith

-- the day's place in it
place-date : (n y m d month : ℕ) → IsDay n y m d → month + 24001 ≡ 12 * y + m → n - first_day month + 1 ≡ d
unfolding first_day
place-date n y m d month is e =
    let civil = is.date.civil in
    let long : m ≤ 12 = civil.1.1 in
    let some : 1 ≤ m = civil.1.0 in
    let first : IsCenturyDate y m 1 = record {
      early = is.date.early;
      late = is.date.late;
      civil = (civil.0, civil.1, (omega arith, omega (arith, civil.2.0, civil.2.1)));
    } in
    let year : 2000 + month / 12 ≡ y = omega (arith, is.date.early) in
    let of_year : month_of_year month ≡ m = omega (arith, is.date.early) in
    let start : first_day month ≡ day_number y m 1 = λ i. day_number (year i) (of_year i) 1 in
    omega (arith, start, is.counted, (day_number-civil y m d is.date).0, (day_number-civil y m 1 first).0, day_count-day (pos y) m 1 d (omega arith) civil.2.0, civil.2.0)

-- a day's bytes are those of its date
pub date_bytes-date : (n y m d : ℕ) → IsDay n y m d → date_bytes n ≡ type_g (y - 2000) m d
unfolding date_bytes
date_bytes-date n y m d is =
    let month = 12 * (y - 2000) + (m - 1) in
    let civil = is.date.civil in
    let long : m ≤ 12 = civil.1.1 in
    let some : 1 ≤ m = civil.1.0 in
    let e : month + 24001 ≡ 12 * y + m = omega (arith, is.date.early) in
    let in_month : month_in n ≡ month = month_in-date n y m d month is e in
    let year : month / 12 ≡ y - 2000 = omega arith in
    let of_year : month_of_year month ≡ m = omega arith in
    let place : n - first_day month + 1 ≡ d = place-date n y m d month is e in
    (λ i. type_g (in_month i / 12) (month_of_year (in_month i)) (n - first_day (in_month i) + 1)) ∙ (λ i. type_g (year i) (of_year i) (place i))

-- 2024-01-15 and 2024-02-01
dated : (m d n : ℕ) → 1 ≤ m → m ≤ 2 → 1 ≤ d → d ≤ 28 → day_count (pos 2024) m d ≡ 4382910 + n → IsDay n 2024 m d
dated m d n some early first short counted =
    let long = days_in_month_bounds (pos 2024) m in
    let from : 4382910 ≤ day_count (pos 2024) m d = omega arith in
    record {
      date = record {
        early = omega arith;
        late = omega arith;
        civil = (omega (arith, signed_arith), (some, omega arith), (first, omega (arith, long.0, long.1)));
      };
      counted = omega (arith, day_number-day_count 2024 m d from);
    }

pub january : date_bytes 8780 ≡ 15 ∷ 49 ∷ []
january = date_bytes-date 8780 2024 1 15 (dated 1 15 8780 (omega arith) (omega arith) (omega arith) (omega arith) (day_count-early (pos 2024) 12023 1 15 refl (omega arith) (omega arith) (omega arith)))

pub february : date_bytes 8797 ≡ 1 ∷ 50 ∷ []
february = date_bytes-date 8797 2024 2 1 (dated 2 1 8797 (omega arith) (omega arith) (omega arith) (omega arith) (day_count-early (pos 2024) 12023 2 1 refl (omega arith) (omega arith) (omega arith)))
