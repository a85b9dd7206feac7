-- The months of 2000 to 2099, their first days, and the months that a move to a later day passes.
use Rattle.std.proofs.Common.{◌≡◌, ℕ, zero, suc, ◌+◌, ◌-◌, ◌*◌, ◌/◌, ◌<◌, ◌≤◌, ◌⊎◌, inl, inr, refl, sym, ap, ◌∙◌, arith, pos, Bool, true, false, ◌&&◌, nat_lt, nat_le, [], ◌∷◌, ◌++◌, subst, filter, zero-add, append-nil, ◌==◌, eq-eqb}
use Rattle.std.proofs.lemmas.Bool.{cases_order}
use Rattle.std.specs.List.{range_with_len, list_any}
use Rattle.std.proofs.lemmas.List.Elements.{filter-append}
use Rattle.jiff_core.specs.Calendar.{days_from_civil, day_count, IsCivilDate}
use Rattle.jiff_core.proofs.SignedLemmas.{signed_arith}
use Rattle.jiff_core.proofs.CalendarLemmas.{day_count-lt_year, day_count-lt_month, day_count-day, days_in_month_bounds}
use Rattle.calendar_model.specs.Calendar.{IsCenturyDate, IsDay, IsMonthStart, IsMonthOf, month_of_year, first_day, months_passed, months_to, is_first_day}
use Rattle.calendar_model.proofs.DayLemmas.{day_number-day_count, day_number-civil, day_count-from_2000, IsDay-counted}

-- each month up to January 2100 begins with a date
pub first_civil : (month : ℕ) → month ≤ 1200 → IsCivilDate (pos (2000 + month / 12)) (month_of_year month) 1
first_civil month h =
    let long = days_in_month_bounds (pos (2000 + month / 12)) (month_of_year month) in
    (omega (arith, signed_arith), omega arith, omega (arith, long.1))

first_day-day_count : (month : ℕ) → month ≤ 1200 → day_count (pos (2000 + month / 12)) (month_of_year month) 1 ≡ 4382910 + first_day month
unfolding first_day
first_day-day_count month h =
    day_number-day_count (2000 + month / 12) (month_of_year month) 1 (day_count-from_2000 (2000 + month / 12) (month_of_year month) 1 (omega arith) (omega arith) (omega arith))

-- a later month begins later
pub first_day-lt : (month later : ℕ) → later ≤ 1200 → month < later → first_day month < first_day later
first_day-lt month later h lt =
    let civil = first_civil month (omega arith) in
    let before : day_count (pos (2000 + month / 12)) (month_of_year month) 1 < day_count (pos (2000 + later / 12)) (month_of_year later) 1 =
    elim (cases_order (month / 12) (later / 12)) [
      | inl same ↦
          let year = ap (λ of. day_count (pos (2000 + of)) (month_of_year later) 1) same in
          omega (arith, year, day_count-lt_month (pos (2000 + month / 12)) (month_of_year month) 1 (month_of_year later) 1 civil (omega arith) (omega arith))
      | inr (inl year) ↦ day_count-lt_year (pos (2000 + month / 12)) (month_of_year month) 1 (pos (2000 + later / 12)) (month_of_year later) 1 civil (omega arith) (omega (arith, signed_arith))
      | inr (inr year) ↦ absurd (omega arith)
    ] in
    omega (arith, before, first_day-day_count month (omega arith), first_day-day_count later h)

pub first_day-le : (month later : ℕ) → later ≤ 1200 → month ≤ later → first_day month ≤ first_day later
first_day-le month later h le =
    elim (cases_order month later) [
      | inl same ↦ omega (arith, ap first_day same)
      | inr (inl lt) ↦ omega (arith, first_day-lt month later h lt)
      | inr (inr gt) ↦ absurd (omega arith)
    ]

-- the day lies in the month
pub record IsInMonth (day month : ℕ) : Type 0 where
  pub known : month < 1200
  pub from : first_day month ≤ day
  pub before : day < first_day (month + 1)

pub IsInMonth-date : (n y m d month : ℕ) → IsDay n y m d → month + 24001 ≡ 12 * y + m → IsInMonth n month
IsInMonth-date n y m d month is e =
    let civil = is.date.civil in
    let long : m ≤ 12 = civil.1.1 in
    let some : 1 ≤ m = civil.1.0 in
    let counted = day_number-civil y m d is.date in
    let year : 2000 + month / 12 ≡ y = omega (arith, is.date.early) in
    let of_year : month_of_year month ≡ m = omega (arith, is.date.early) in
    let known : month < 1200 = omega (arith, is.date.late) in
    let start : day_count (pos (2000 + month / 12)) (month_of_year month) 1 ≡ day_count (pos y) m 1 =
    ap (λ k. day_count (pos k) (month_of_year month) 1) year ∙ ap (λ k. day_count (pos y) k 1) of_year in
    let after : day_count (pos y) m d < day_count (pos (2000 + (month + 1) / 12)) (month_of_year (month + 1)) 1 =
    elim (cases_order y (2000 + (month + 1) / 12)) [
      | inl same ↦
          let next = ap (λ k. day_count (pos k) (month_of_year (month + 1)) 1) same in
          omega (arith, next, day_count-lt_month (pos y) m d (month_of_year (month + 1)) 1 civil (omega arith) (omega arith))
      | inr (inl later) ↦ day_count-lt_year (pos y) m d (pos (2000 + (month + 1) / 12)) (month_of_year (month + 1)) 1 civil (omega arith) (omega (arith, signed_arith))
      | inr (inr earlier) ↦ absurd (omega arith)
    ] in
    record {
      known = known;
      from = omega (arith, start, counted.0, is.counted, first_day-day_count month (omega arith), day_count-day (pos y) m 1 d (omega arith) civil.2.0, civil.2.0);
      before = omega (arith, after, counted.0, is.counted, first_day-day_count (month + 1) (omega arith));
    }

pub months_ordered : (old new old_month new_month : ℕ) → IsInMonth old old_month → IsInMonth new new_month → old ≤ new → old_month ≤ new_month
months_ordered old new old_month new_month before after le =
    elim (cases_order old_month new_month) [
      | inl same ↦ omega arith
      | inr (inl lt) ↦ omega arith
      | inr (inr gt) ↦ absurd (omega (arith, before.from, after.before, first_day-le (new_month + 1) old_month (omega (arith, before.known)) (omega arith)))
    ]

pub IsInMonth-of : (n month : ℕ) → IsMonthOf n month → IsInMonth n month
IsInMonth-of n month is =
    IsInMonth-date n (2000 + month / 12) (month_of_year month) is.day month is.dated (omega arith)

-- the month of a date
pub IsMonthOf-date : (n y m d month : ℕ) → IsDay n y m d → month + 24001 ≡ 12 * y + m → IsMonthOf n month
IsMonthOf-date n y m d month is e =
    let long : m ≤ 12 = is.date.civil.1.1 in
    let some : 1 ≤ m = is.date.civil.1.0 in
    let year : 2000 + month / 12 ≡ y = omega (arith, is.date.early) in
    let of_year : month_of_year month ≡ m = omega (arith, is.date.early) in
    let P : ℕ → Type 0 = λ k. IsDay n k (month_of_year month) d in
    let Q : ℕ → Type 0 = λ k. IsDay n y k d in
    record { day = d; dated = subst P (sym year) (subst Q (sym of_year) is) }

pub first_day-counted : (month n : ℕ) → month < 1200 → days_from_civil (pos (2000 + month / 12)) (month_of_year month) 1 ≡ pos (10957 + n) → n ≡ first_day month
unfolding first_day
first_day-counted month n known counted =
    let date : IsCenturyDate (2000 + month / 12) (month_of_year month) 1 =
    record { early = omega arith; late = omega arith; civil = first_civil month (omega arith) } in
    (IsDay-counted n (2000 + month / 12) (month_of_year month) 1 date counted).counted

-- and its first day
pub IsMonthStart-of : (n month first : ℕ) → IsMonthOf n month → first ≡ first_day month → IsMonthStart n first
unfolding first_day
IsMonthStart-of n month first is counted = record {
  year = 2000 + month / 12;
  month = month_of_year month;
  day = is.day;
  within = is.dated;
  start = record {
    date = record { early = is.dated.date.early; late = is.dated.date.late; civil = first_civil month (omega (arith, is.dated.date.late)) };
    counted = counted;
  };
}

-- months are passed from the month after the old day's on to the new day's
pub IsInMonth-passed : (old new old_month new_month month : ℕ) → IsInMonth old old_month → IsInMonth new new_month → month < 1200 → old_month < month → month ≤ new_month → (nat_lt old (first_day month) && nat_le (first_day month) new) ≡ true
IsInMonth-passed old new old_month new_month month before after known later to =
    grind (arith, before.before, after.from, first_day-le (old_month + 1) month (omega arith) (omega arith), first_day-le month new_month (omega (arith, after.known)) to)

pub IsInMonth-not_passed : (old new old_month new_month month : ℕ) → IsInMonth old old_month → IsInMonth new new_month → month < 1200 → (month ≤ old_month) ⊎ (new_month < month) → (nat_lt old (first_day month) && nat_le (first_day month) new) ≡ false
IsInMonth-not_passed old new old_month new_month month before after known (inl early) =
    let le = first_day-le month old_month (omega (arith, before.known)) early in
    grind (arith, before.from, le)
IsInMonth-not_passed old new old_month new_month month before after known (inr late) =
    let le = first_day-le (new_month + 1) month (omega arith) (omega arith) in
    grind (arith, after.before, le)

-- a range in two parts
pub range_split : (a n k : ℕ) → range_with_len a (n + k) ≡ range_with_len a n ++ range_with_len (a + n) k
range_split a zero k =
    let none : 0 + k ≡ k = omega arith in
    let same : a + 0 ≡ a = omega arith in
    rw (none, same) refl
range_split a (suc n) k =
    let more : suc n + k ≡ suc (n + k) = omega arith in
    let next : a + suc n ≡ a + 1 + n = omega arith in
    rw (more, next) (ap (λ xs. a ∷ xs) (range_split (a + 1) n k))

filter_all : (p : ℕ → Bool) (a n : ℕ) → ((x : ℕ) → a ≤ x → x < a + n → p x ≡ true) → filter p (range_with_len a n) ≡ range_with_len a n
filter_all p a zero h = refl
filter_all p a (suc n) h = rw (h a (omega arith) (omega arith)) (ap (λ xs. a ∷ xs) (filter_all p (a + 1) n (λ x from to. h x (omega arith) (omega arith))))

filter_none : (p : ℕ → Bool) (a n : ℕ) → ((x : ℕ) → a ≤ x → x < a + n → p x ≡ false) → filter p (range_with_len a n) ≡ []
filter_none p a zero h = refl
filter_none p a (suc n) h = rw (h a (omega arith) (omega arith)) (filter_none p (a + 1) n (λ x from to. h x (omega arith) (omega arith)))

-- what passes a test from lo to lo + k alone
filter_middle : (p : ℕ → Bool) (n lo k : ℕ) → lo + k ≤ n → ((x : ℕ) → x < n → x < lo → p x ≡ false) → ((x : ℕ) → x < n → lo ≤ x → x < lo + k → p x ≡ true) → ((x : ℕ) → x < n → lo + k ≤ x → p x ≡ false) → filter p (range_with_len 0 n) ≡ range_with_len lo k
filter_middle p n lo k le early middle late =
    let whole : lo + (k + (n - (lo + k))) ≡ n = omega arith in
    let parts : range_with_len 0 n ≡ range_with_len 0 lo ++ (range_with_len lo k ++ range_with_len (lo + k) (n - (lo + k))) =
    ap (range_with_len 0) (sym whole) ∙ range_split 0 lo (k + (n - (lo + k)))
    ∙ ap (λ a. range_with_len 0 lo ++ range_with_len a (k + (n - (lo + k)))) (zero-add lo)
    ∙ ap (λ xs. range_with_len 0 lo ++ xs) (range_split lo k (n - (lo + k))) in
    let none : filter p (range_with_len 0 lo) ≡ [] = filter_none p 0 lo (λ x from to. early x (omega arith) (omega arith)) in
    let all : filter p (range_with_len lo k) ≡ range_with_len lo k = filter_all p lo k (λ x from to. middle x (omega arith) from to) in
    let rest : filter p (range_with_len (lo + k) (n - (lo + k))) ≡ [] = filter_none p (lo + k) (n - (lo + k)) (λ x from to. late x (omega arith) from) in
    ap (filter p) parts ∙ filter-append p (range_with_len 0 lo) (range_with_len lo k ++ range_with_len (lo + k) (n - (lo + k)))
    ∙ ap (λ xs. xs ++ filter p (range_with_len lo k ++ range_with_len (lo + k) (n - (lo + k)))) none
    ∙ filter-append p (range_with_len lo k) (range_with_len (lo + k) (n - (lo + k)))
    ∙ ap (λ xs. filter p (range_with_len lo k) ++ xs) rest ∙ append-nil (filter p (range_with_len lo k)) ∙ all

-- so the months passed are those
pub months_passed_is : (old new old_month new_month : ℕ) → IsInMonth old old_month → IsInMonth new new_month → old ≤ new → months_passed old new ≡ range_with_len (old_month + 1) (new_month - old_month)
unfolding months_passed
months_passed_is old new old_month new_month before after le =
    let ordered : old_month ≤ new_month = months_ordered old new old_month new_month before after le in
    filter_middle (λ month. nat_lt old (first_day month) && nat_le (first_day month) new) 1200 (old_month + 1) (new_month - old_month)
    (omega (arith, after.known))
    (λ month known lt. IsInMonth-not_passed old new old_month new_month month before after known (inl (omega arith)))
    (λ month known from to. IsInMonth-passed old new old_month new_month month before after known (omega arith) (omega arith))
    (λ month known from. IsInMonth-not_passed old new old_month new_month month before after known (inr (omega arith)))

-- the months up to a day's own are those whose first day is not after it
pub months_to_is : (day month : ℕ) → IsInMonth day month → months_to day ≡ range_with_len 0 (month + 1)
unfolding months_to
months_to_is day month is =
    filter_middle (λ m. nat_le (first_day m) day) 1200 0 (month + 1)
    (omega (arith, is.known))
    (λ m known lt. absurd (omega arith))
    (λ m known from to. let le = first_day-le m month (omega (arith, is.known)) (omega arith) in grind (arith, is.from, le))
    (λ m known from. let le = first_day-le (month + 1) m (omega arith) (omega arith) in grind (arith, is.before, le))

any_range : (p : ℕ → Bool) (a n x : ℕ) → a ≤ x → x < a + n → p x ≡ true → list_any p (range_with_len a n) ≡ true
any_range p a zero x from to passes = absurd (omega arith)
any_range p a (suc n) x from to passes =
    elim (cases_order a x) [
      | inl same ↦ let here : p a ≡ true = ap p same ∙ passes in rw here refl
      | inr (inl later) ↦ let rest = any_range p (a + 1) n x (omega arith) (omega arith) passes in rw rest (grind arith)
      | inr (inr before) ↦ absurd (omega arith)
    ]

pub is_first_day-of : (month n : ℕ) → month < 1200 → n ≡ first_day month → is_first_day n ≡ true
unfolding is_first_day
is_first_day-of month n known is =
    any_range (λ m. first_day m == n) 0 1200 month (omega arith) (omega arith) (eq-eqb (first_day month) n (sym is))
