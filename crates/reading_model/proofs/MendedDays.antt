-- The endings of days mend each text that some bytes mend, and no other.
use Rattle.std.proofs.Common.{◌≡◌, ◌∙◌, ◌↔◌, ℕ, zero, suc, ◌<◌, ◌≤◌, ◌==◌, ◌&&◌, inl, inr, Bool, true, false, cond, List, [], ◌∷◌, ◌++◌, length, take, drop, Option, None, Some, refl, sym, subst, subst₂, length-append, arith}
use Rattle.std.specs.Prelude.{is_some, pos}
use Rattle.std.specs.List.{list_any}
use Rattle.std.specs.Option.{option_map}
use Rattle.std.proofs.Math.Seq.{take-append_seam}
use Rattle.std.proofs.lemmas.Bool.{le-leb, leb-true, eqb-true, and_parts, and_from, or_left, or_right, cases_lt, false≢true}
use Rattle.jiff_core.specs.Calendar.{days_in_month}
use Rattle.jiff_core.proofs.CalendarLemmas.{days_in_month_bounds}
use Rattle.script_model.specs.Dates.{date_in, is_century_date, is_date_form}
use Rattle.script_model.specs.Numbers.{is_digit, all_digits, value_after}
use Rattle.reading_model.specs.Messages.{is_mended, CanBeMended, day_form, day_said}
use Rattle.reading_model.proofs.Mended.{ending_mends}

-- ---- the digits of a date of 2000 to 2099

abbrev IsDigit : ℕ → Type 0
IsDigit c = (48 ≤ c) × (c ≤ 57)

digit_is : (c : ℕ) → is_digit c ≡ true → IsDigit c
digit_is c digit = let h = and_parts _ _ digit in (leb-true 48 c h.0, leb-true c 57 h.1)

is_digit_of : (c : ℕ) → IsDigit c → is_digit c ≡ true
is_digit_of c digit = and_from _ _ (le-leb 48 c digit.0) (le-leb c 57 digit.1)

abbrev year_of : (c0 c1 c2 c3 : ℕ) → ℕ
year_of c0 c1 c2 c3 = value_after 0 (c0 ∷ c1 ∷ c2 ∷ c3 ∷ [])

abbrev two_of : (c d : ℕ) → ℕ
two_of c d = value_after 0 (c ∷ d ∷ [])

record IsYear (c0 c1 c2 c3 : ℕ) : Type 0 where
  d0 : IsDigit c0
  d1 : IsDigit c1
  d2 : IsDigit c2
  d3 : IsDigit c3
  early : 2000 ≤ year_of c0 c1 c2 c3
  late : year_of c0 c1 c2 c3 ≤ 2099

record IsMonth (c5 c6 : ℕ) : Type 0 where
  d5 : IsDigit c5
  d6 : IsDigit c6
  first : 1 ≤ two_of c5 c6
  last : two_of c5 c6 ≤ 12

record IsDayOf (days c8 c9 : ℕ) : Type 0 where
  d8 : IsDigit c8
  d9 : IsDigit c9
  first : 1 ≤ two_of c8 c9
  last : two_of c8 c9 ≤ days

abbrev days_of : (c0 c1 c2 c3 c5 c6 : ℕ) → ℕ
days_of c0 c1 c2 c3 c5 c6 = days_in_month (pos (year_of c0 c1 c2 c3)) (two_of c5 c6)

abbrev written : (c0 c1 c2 c3 c5 c6 c8 c9 : ℕ) → List ℕ
written c0 c1 c2 c3 c5 c6 c8 c9 = c0 ∷ c1 ∷ c2 ∷ c3 ∷ 45 ∷ c5 ∷ c6 ∷ 45 ∷ c8 ∷ c9 ∷ []

some_mapped : {A B : Type 0} (f : A → B) (o : Option A) → is_some (option_map f o) ≡ is_some o
some_mapped f None = refl
some_mapped f (Some x) = refl

date_made : (c0 c1 c2 c3 c5 c6 c8 c9 : ℕ) → IsYear c0 c1 c2 c3 → IsMonth c5 c6 → IsDayOf (days_of c0 c1 c2 c3 c5 c6) c8 c9 → is_some (day_said (written c0 c1 c2 c3 c5 c6 c8 c9)) ≡ true
date_made c0 c1 c2 c3 c5 c6 c8 c9 y m d =
    let form : is_date_form (written c0 c1 c2 c3 c5 c6 c8 c9) ≡ true =
    rw (is_digit_of c0 y.d0, is_digit_of c1 y.d1, is_digit_of c2 y.d2, is_digit_of c3 y.d3, is_digit_of c5 m.d5, is_digit_of c6 m.d6, is_digit_of c8 d.d8, is_digit_of c9 d.d9) refl in
    let century : is_century_date (year_of c0 c1 c2 c3) (two_of c5 c6) (two_of c8 c9) ≡ true =
    rw (le-leb _ _ y.early, le-leb _ _ y.late, le-leb _ _ m.first, le-leb _ _ m.last, le-leb _ _ d.first, le-leb _ _ d.last) refl in
    let said : is_some (date_in (written c0 c1 c2 c3 c5 c6 c8 c9)) ≡ true = rw (form, century) refl in
    some_mapped _ (date_in (written c0 c1 c2 c3 c5 c6 c8 c9)) ∙ said

record Date (c0 c1 c2 c3 c4 c5 c6 c7 c8 c9 : ℕ) : Type 0 where
  year : IsYear c0 c1 c2 c3
  dash : c4 ≡ 45
  month : IsMonth c5 c6
  second_dash : c7 ≡ 45
  day : IsDayOf (days_of c0 c1 c2 c3 c5 c6) c8 c9

some_both : {A : Type 0} (b c : Bool) (x : A) → is_some (cond b (cond c (Some x) None) None) ≡ true → (b ≡ true) × (c ≡ true)
some_both true true x some = (refl, refl)
some_both true false x some = absurd (false≢true some)
some_both false c x some = absurd (false≢true some)

six_parts : (a b c d e f : Bool) → (a && b && c && d && e && f) ≡ true → (a ≡ true) × (b ≡ true) × (c ≡ true) × (d ≡ true) × (e ≡ true) × (f ≡ true)
six_parts true true true true true true is = (refl, refl, refl, refl, refl, refl)
six_parts a b c d e f is = absurd (false≢true is)

five_parts : (a b c d e : Bool) → (true && a && b && c && d && e) ≡ true → (a ≡ true) × (b ≡ true) × (c ≡ true) × (d ≡ true) × (e ≡ true)
five_parts true true true true true is = (refl, refl, refl, refl, refl)
five_parts a b c d e is = absurd (false≢true is)

four_digits : (a b c d : ℕ) → all_digits (a ∷ b ∷ c ∷ d ∷ []) ≡ true → IsDigit a × IsDigit b × IsDigit c × IsDigit d
four_digits a b c d digits =
    let first = and_parts _ _ digits in
    let second = and_parts _ _ first.1 in
    let third = and_parts _ _ second.1 in
    let fourth = and_parts _ _ third.1 in
    (digit_is a first.0, digit_is b second.0, digit_is c third.0, digit_is d fourth.0)

two_are_digits : (a b : ℕ) → all_digits (a ∷ b ∷ []) ≡ true → IsDigit a × IsDigit b
two_are_digits a b digits =
    let first = and_parts _ _ digits in
    let second = and_parts _ _ first.1 in
    (digit_is a first.0, digit_is b second.0)

-- what says a date has its digits
date_is : (c0 c1 c2 c3 c4 c5 c6 c7 c8 c9 : ℕ) → is_some (date_in (c0 ∷ c1 ∷ c2 ∷ c3 ∷ c4 ∷ c5 ∷ c6 ∷ c7 ∷ c8 ∷ c9 ∷ [])) ≡ true → Date c0 c1 c2 c3 c4 c5 c6 c7 c8 c9
date_is c0 c1 c2 c3 c4 c5 c6 c7 c8 c9 some =
    let parts = some_both (is_date_form (c0 ∷ c1 ∷ c2 ∷ c3 ∷ c4 ∷ c5 ∷ c6 ∷ c7 ∷ c8 ∷ c9 ∷ [])) (is_century_date (year_of c0 c1 c2 c3) (two_of c5 c6) (two_of c8 c9)) _ some in
    let form = five_parts (c4 == 45) (c7 == 45) (all_digits (c0 ∷ c1 ∷ c2 ∷ c3 ∷ [])) (all_digits (c5 ∷ c6 ∷ [])) (all_digits (c8 ∷ c9 ∷ [])) parts.0 in
    let century = six_parts _ _ _ _ _ _ parts.1 in
    let year = four_digits c0 c1 c2 c3 form.2 in
    let month = two_are_digits c5 c6 form.3 in
    let day = two_are_digits c8 c9 form.4 in
    record {
      year = record { d0 = year.0; d1 = year.1; d2 = year.2; d3 = year.3; early = leb-true _ _ century.0; late = leb-true _ _ century.1 };
      dash = eqb-true c4 45 form.0;
      month = record { d5 = month.0; d6 = month.1; first = leb-true _ _ century.2; last = leb-true _ _ century.3 };
      second_dash = eqb-true c7 45 form.1;
      day = record { d8 = day.0; d9 = day.1; first = leb-true _ _ century.4; last = leb-true _ _ century.5 };
    }

-- ---- a date cut short

digit_0 : IsDigit 48
digit_0 = (omega arith, omega arith)

digit_1 : IsDigit 49
digit_1 = (omega arith, omega arith)

-- each year can begin with its first digits and end with zeros
year_one : (c0 c1 c2 c3 : ℕ) → IsYear c0 c1 c2 c3 → IsYear c0 48 48 48
year_one c0 c1 c2 c3 y = record { d0 = y.d0; d1 = digit_0; d2 = digit_0; d3 = digit_0; early = omega (arith, y.d0, y.d1, y.d2, y.d3, y.early, y.late); late = omega (arith, y.d0, y.d1, y.d2, y.d3, y.early, y.late) }

year_two : (c0 c1 c2 c3 : ℕ) → IsYear c0 c1 c2 c3 → IsYear c0 c1 48 48
year_two c0 c1 c2 c3 y = record { d0 = y.d0; d1 = y.d1; d2 = digit_0; d3 = digit_0; early = omega (arith, y.d0, y.d1, y.d2, y.d3, y.early, y.late); late = omega (arith, y.d0, y.d1, y.d2, y.d3, y.early, y.late) }

year_three : (c0 c1 c2 c3 : ℕ) → IsYear c0 c1 c2 c3 → IsYear c0 c1 c2 48
year_three c0 c1 c2 c3 y = record { d0 = y.d0; d1 = y.d1; d2 = y.d2; d3 = digit_0; early = omega (arith, y.d0, y.d1, y.d2, y.d3, y.early, y.late); late = omega (arith, y.d0, y.d1, y.d2, y.d3, y.early, y.late) }

-- each month can begin with its first digit and end with 1
month_one : (c5 c6 : ℕ) → IsMonth c5 c6 → IsMonth c5 49
month_one c5 c6 m = record { d5 = m.d5; d6 = digit_1; first = omega (arith, m.d5); last = omega (arith, m.d5, m.d6, m.first, m.last) }

january : IsMonth 48 49
january = record { d5 = digit_0; d6 = digit_1; first = omega arith; last = omega arith }

-- each month has its first day
first_day : (days : ℕ) → 28 ≤ days → IsDayOf days 48 49
first_day days some = record { d8 = digit_0; d9 = digit_1; first = omega arith; last = omega (arith, some) }

-- a day before the thirtieth can end with 1, and another with 0
day_one : (days c8 c9 : ℕ) → 28 ≤ days → IsDayOf days c8 c9 → c8 ≤ 50 → IsDayOf days c8 49
day_one days c8 c9 some d low = record { d8 = d.d8; d9 = digit_1; first = omega (arith, d.d8); last = omega (arith, d.d8, low, some) }

thirtieth : (days c8 c9 : ℕ) → days ≤ 31 → IsDayOf days c8 c9 → 50 < c8 → IsDayOf days c8 48
thirtieth days c8 c9 few d high = record { d8 = d.d8; d9 = digit_0; first = omega (arith, d.d8, high); last = omega (arith, d.d8, d.d9, d.last, high, few) }

-- the first bytes of a date, with the rest of an ending
abbrev DayEnds : (n : ℕ) → List ℕ → Type 0
DayEnds n word = list_any (λ ending. is_some (day_said (take n word ++ drop n ending))) day_form.endings ≡ true

day_ends : (n c0 c1 c2 c3 c5 c6 c8 c9 : ℕ) → Date c0 c1 c2 c3 45 c5 c6 45 c8 c9 → n ≤ 10 → DayEnds n (written c0 c1 c2 c3 c5 c6 c8 c9)
day_ends zero c0 c1 c2 c3 c5 c6 c8 c9 date few = refl
day_ends (suc zero) c0 c1 c2 c3 c5 c6 c8 c9 date few = or_left _ _ (date_made c0 48 48 48 48 49 48 49 (year_one c0 c1 c2 c3 date.year) january (first_day _ (days_in_month_bounds (pos (year_of c0 48 48 48)) (two_of 48 49)).1))
day_ends (suc (suc zero)) c0 c1 c2 c3 c5 c6 c8 c9 date few = or_left _ _ (date_made c0 c1 48 48 48 49 48 49 (year_two c0 c1 c2 c3 date.year) january (first_day _ (days_in_month_bounds (pos (year_of c0 c1 48 48)) (two_of 48 49)).1))
day_ends (suc (suc (suc zero))) c0 c1 c2 c3 c5 c6 c8 c9 date few = or_left _ _ (date_made c0 c1 c2 48 48 49 48 49 (year_three c0 c1 c2 c3 date.year) january (first_day _ (days_in_month_bounds (pos (year_of c0 c1 c2 48)) (two_of 48 49)).1))
day_ends (suc (suc (suc (suc zero)))) c0 c1 c2 c3 c5 c6 c8 c9 date few = or_left _ _ (date_made c0 c1 c2 c3 48 49 48 49 date.year january (first_day _ (days_in_month_bounds (pos (year_of c0 c1 c2 c3)) (two_of 48 49)).1))
day_ends (suc (suc (suc (suc (suc zero))))) c0 c1 c2 c3 c5 c6 c8 c9 date few = or_left _ _ (date_made c0 c1 c2 c3 48 49 48 49 date.year january (first_day _ (days_in_month_bounds (pos (year_of c0 c1 c2 c3)) (two_of 48 49)).1))
day_ends (suc (suc (suc (suc (suc (suc zero)))))) c0 c1 c2 c3 c5 c6 c8 c9 date few = or_left _ _ (date_made c0 c1 c2 c3 c5 49 48 49 date.year (month_one c5 c6 date.month) (first_day _ (days_in_month_bounds (pos (year_of c0 c1 c2 c3)) (two_of c5 49)).1))
day_ends (suc (suc (suc (suc (suc (suc (suc zero))))))) c0 c1 c2 c3 c5 c6 c8 c9 date few = or_left _ _ (date_made c0 c1 c2 c3 c5 c6 48 49 date.year date.month (first_day _ (days_in_month_bounds (pos (year_of c0 c1 c2 c3)) (two_of c5 c6)).1))
day_ends (suc (suc (suc (suc (suc (suc (suc (suc zero)))))))) c0 c1 c2 c3 c5 c6 c8 c9 date few = or_left _ _ (date_made c0 c1 c2 c3 c5 c6 48 49 date.year date.month (first_day _ (days_in_month_bounds (pos (year_of c0 c1 c2 c3)) (two_of c5 c6)).1))
day_ends (suc (suc (suc (suc (suc (suc (suc (suc (suc zero))))))))) c0 c1 c2 c3 c5 c6 c8 c9 date few =
    let days = days_in_month_bounds (pos (year_of c0 c1 c2 c3)) (two_of c5 c6) in
    elim (cases_lt 50 c8) [
      | inl high ↦ or_right (is_some (day_said (written c0 c1 c2 c3 c5 c6 c8 49))) _
          (or_left _ false (date_made c0 c1 c2 c3 c5 c6 c8 48 date.year date.month (thirtieth _ c8 c9 days.0 date.day high)))
      | inr low ↦ or_left _ _ (date_made c0 c1 c2 c3 c5 c6 c8 49 date.year date.month (day_one _ c8 c9 days.1 date.day low))
    ]
day_ends (suc (suc (suc (suc (suc (suc (suc (suc (suc (suc zero)))))))))) c0 c1 c2 c3 c5 c6 c8 c9 date few = or_left _ _ (date_made c0 c1 c2 c3 c5 c6 c8 c9 date.year date.month date.day)
day_ends (suc (suc (suc (suc (suc (suc (suc (suc (suc (suc (suc n))))))))))) c0 c1 c2 c3 c5 c6 c8 c9 date few = absurd (omega arith)

some_cond : {A : Type 0} (b : Bool) (x : Option A) → is_some (cond b x None) ≡ true → b ≡ true
some_cond true x some = refl
some_cond false x some = some

first_part : (a b c d e f : Bool) → (a && b && c && d && e && f) ≡ true → a ≡ true
first_part true b c d e f is = refl
first_part false b c d e f is = is

date_size : (word : List ℕ) → is_some (date_in word) ≡ true → length word ≡ 10
date_size word some = eqb-true (length word) 10 (first_part _ _ _ _ _ _ (some_cond _ _ some))

-- with its dashes
dashed : (c0 c1 c2 c3 c4 c5 c6 c7 c8 c9 n : ℕ) → Date c0 c1 c2 c3 c4 c5 c6 c7 c8 c9 → n ≤ 10 → DayEnds n (c0 ∷ c1 ∷ c2 ∷ c3 ∷ c4 ∷ c5 ∷ c6 ∷ c7 ∷ c8 ∷ c9 ∷ [])
dashed c0 c1 c2 c3 c4 c5 c6 c7 c8 c9 n date few =
    let P : ℕ → ℕ → Type 0 = λ a b. Date c0 c1 c2 c3 a c5 c6 b c8 c9 in
    let Q : ℕ → ℕ → Type 0 = λ a b. DayEnds n (c0 ∷ c1 ∷ c2 ∷ c3 ∷ a ∷ c5 ∷ c6 ∷ b ∷ c8 ∷ c9 ∷ []) in
    subst₂ Q (sym date.dash) (sym date.second_dash) (day_ends n c0 c1 c2 c3 c5 c6 c8 c9 (subst₂ P date.dash date.second_dash date) few)

date_ends : (n : ℕ) (word : List ℕ) → n ≤ 10 → is_some (date_in word) ≡ true → DayEnds n word
date_ends n [] few some = absurd (false≢true some)
date_ends n (c0 ∷ []) few some = absurd (false≢true some)
date_ends n (c0 ∷ c1 ∷ []) few some = absurd (false≢true some)
date_ends n (c0 ∷ c1 ∷ c2 ∷ []) few some = absurd (false≢true some)
date_ends n (c0 ∷ c1 ∷ c2 ∷ c3 ∷ []) few some = absurd (false≢true some)
date_ends n (c0 ∷ c1 ∷ c2 ∷ c3 ∷ c4 ∷ []) few some = absurd (false≢true some)
date_ends n (c0 ∷ c1 ∷ c2 ∷ c3 ∷ c4 ∷ c5 ∷ []) few some = absurd (false≢true some)
date_ends n (c0 ∷ c1 ∷ c2 ∷ c3 ∷ c4 ∷ c5 ∷ c6 ∷ []) few some = absurd (false≢true some)
date_ends n (c0 ∷ c1 ∷ c2 ∷ c3 ∷ c4 ∷ c5 ∷ c6 ∷ c7 ∷ []) few some = absurd (false≢true some)
date_ends n (c0 ∷ c1 ∷ c2 ∷ c3 ∷ c4 ∷ c5 ∷ c6 ∷ c7 ∷ c8 ∷ []) few some = absurd (false≢true some)
date_ends n (c0 ∷ c1 ∷ c2 ∷ c3 ∷ c4 ∷ c5 ∷ c6 ∷ c7 ∷ c8 ∷ c9 ∷ []) few some = dashed c0 c1 c2 c3 c4 c5 c6 c7 c8 c9 n (date_is c0 c1 c2 c3 c4 c5 c6 c7 c8 c9 some) few
date_ends n (c0 ∷ c1 ∷ c2 ∷ c3 ∷ c4 ∷ c5 ∷ c6 ∷ c7 ∷ c8 ∷ c9 ∷ b ∷ bs) few some = absurd (omega (arith, date_size (c0 ∷ c1 ∷ c2 ∷ c3 ∷ c4 ∷ c5 ∷ c6 ∷ c7 ∷ c8 ∷ c9 ∷ b ∷ bs) some))

pub day_mended : (text : List ℕ) → is_mended day_form text ≡ true ↔ CanBeMended day_form text
unfolding is_mended
day_mended text = (
  ending_mends day_form text,
  λ can.
      let word = text ++ can.0 in
      let some : is_some (date_in word) ≡ true = sym (some_mapped _ (date_in word)) ∙ can.1 in
      let short : length text ≤ 10 = omega (arith, length-append text can.0, date_size word some) in
      let P : List ℕ → Type 0 = λ front. list_any (λ ending. is_some (day_said (front ++ drop (length text) ending))) day_form.endings ≡ true in
      subst P (take-append_seam text can.0) (date_ends (length text) word short some),
)
