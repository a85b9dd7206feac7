-- Each day of 2000 to 2099 has a date.
use Rattle.std.proofs.Common.{◌≡◌, ◌∙◌, ap, sym, ℕ, zero, suc, ◌+◌, ◌≤◌, inl, inr, refl, arith, pos}
use Rattle.std.proofs.lemmas.Bool.{cases_order}
use Rattle.jiff_core.specs.Calendar.{days_from_civil, days_in_month, IsCivilDate}
use Rattle.jiff_core.proofs.SignedLemmas.{signed_arith}
use Rattle.jiff_core.proofs.CalendarLemmas.{days_from_civil-day_count, days_in_month_bounds}
use Rattle.jiff_core.proofs.DateLemmas.{days_from_civil-day, days_from_civil-next_month, days_from_civil-next_year}
use Rattle.jiff_core.proofs.StandardFacts.{known_days}
use Rattle.calendar_model.specs.Calendar.{IsCenturyDate, IsDay}
use Rattle.calendar_model.proofs.DayLemmas.{day_number-civil, century_year, IsDay-date}

-- the date of a day
pub record Dated (n : ℕ) : Type 0 where
  pub year : ℕ
  pub month : ℕ
  pub day : ℕ
  pub is : IsDay n year month day

-- as the days from 1970-01-01 on are counted
counted_from_1970 : (n y m d : ℕ) → IsDay n y m d → days_from_civil (pos y) m d ≡ pos (10957 + n)
counted_from_1970 n y m d is =
    omega (arith, signed_arith, is.counted, (day_number-civil y m d is.date).0, days_from_civil-day_count (pos y) m d)

date_is : (n y m d : ℕ) → n ≤ 36524 → IsCivilDate (pos y) m d → days_from_civil (pos y) m d ≡ pos (10957 + n) → Dated n
date_is n y m d few civil counted =
    let years = century_year (pos y) m d n civil few counted in
    record { year = y; month = m; day = d; is = IsDay-date (pos y) y m d n refl civil years.0 years.1 counted }

new_year : (n y m d : ℕ) → suc n ≤ 36524 → m ≡ 12 → d ≡ days_in_month (pos y) m → IsCenturyDate y m d → days_from_civil (pos y) m d ≡ pos (10957 + n) → Dated (suc n)
new_year n y m d few december last date counted =
    let thirty_one : d ≡ 31 = last ∙ ap (days_in_month (pos y)) december in
    let new_years_eve : days_from_civil (pos y) 12 31 ≡ pos (10957 + n) = (λ i. days_from_civil (pos y) (sym december i) (sym thirty_one i)) ∙ counted in
    date_is (suc n) (y + 1) 1 1 few (omega (arith, signed_arith, date.early, date.late), (omega arith, omega arith), (omega arith, omega arith))
    (omega (arith, signed_arith, new_years_eve, days_from_civil-next_year (pos y) (pos (y + 1)) (omega (arith, signed_arith)) (omega (arith, signed_arith))))

next_day : (n : ℕ) → suc n ≤ 36524 → Dated n → Dated (suc n)
next_day n few on =
    let y = on.year in
    let m = on.month in
    let d = on.day in
    let date = on.is.date in
    let counted : days_from_civil (pos y) m d ≡ pos (10957 + n) = counted_from_1970 n y m d on.is in
    elim (cases_order d (days_in_month (pos y) m)) [
      | inl last ↦ elim (cases_order m 12) [
        | inl december ↦ new_year n y m d few december last date counted
        | inr (inl more) ↦ date_is (suc n) y (m + 1) 1 few (date.civil.0, (omega arith, omega arith), (omega arith, omega (arith, days_in_month_bounds (pos y) (m + 1))))
            (omega (arith, signed_arith, counted, days_from_civil-next_month (pos y) m d date.civil.1.0 last))
        | inr (inr past) ↦ absurd (omega (arith, date.civil.1.1))
      ]
      | inr (inl more) ↦ date_is (suc n) y m (d + 1) few (date.civil.0, date.civil.1, (omega arith, omega arith))
          (omega (arith, signed_arith, counted, days_from_civil-day (pos y) m d (d + 1) date.civil.2.0 (omega arith)))
      | inr (inr past) ↦ absurd (omega (arith, date.civil.2.1))
    ]

pub each_day : (n : ℕ) → n ≤ 36524 → Dated n
each_day zero few = date_is 0 2000 1 1 few (omega (arith, signed_arith), (omega arith, omega arith), (omega arith, omega arith)) known_days.2
each_day (suc n) few = next_day n few (each_day n (omega arith))
