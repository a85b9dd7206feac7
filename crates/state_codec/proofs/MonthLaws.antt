-- Months, their first days, and how many have begun.
use Rattle.std.proofs.Common.{◌≡◌, ℕ, zero, suc, ◌+◌, ◌-◌, ◌*◌, ◌/◌, ◌<◌, ◌≤◌, ◌⊎◌, inl, inr, Bool, true, false, List, [], ◌∷◌, length, drop, refl, sym, ◌∙◌, ap, subst, arith, lit<, add-zero, zero-add}
use Rattle.std.specs.Prelude.{◌||◌, ◌==◌, nat_le}
use Rattle.std.specs.List.{range_with_len, list_any, list_all}
use Rattle.std.proofs.lemmas.Bool.{cases_eq, cases_lt, cases_Bool, eqb-true, leb-true, eq-eqb, and_parts, and_from}
use Rattle.std.proofs.lemmas.Bool.Decides.{nat_tests}
use Rattle.std.proofs.lemmas.List.FromFn.{length-range_with_len}
use Rattle.calendar_model.specs.Calendar.{IsDay, IsMonthStart, month_of_year, first_day, is_first_day, day_number}
use Rattle.calendar_model.specs.Entries.{never_falls, latest}
use Rattle.jiff_core.proofs.StandardFacts.{known_days}
use Rattle.calendar_model.proofs.DayLemmas.{day_count-2100, day_number-day_count}
use Rattle.calendar_model.proofs.MonthLemmas.{first_day-counted, IsInMonth, IsInMonth-date, months_to_is, months_ordered, first_day-lt, is_first_day-of}
use Rattle.memory_model.specs.Slot.{months_begun}

pub months_begun-in : (day month : ℕ) → IsInMonth day month → months_begun day ≡ month + 1
months_begun-in day month is = ap length (months_to_is day month is) ∙ length-range_with_len 0 (month + 1)

pub IsInMonth-first : (month : ℕ) → month < 1200 → IsInMonth (first_day month) month
IsInMonth-first month known = record {
  known = known;
  from = omega arith;
  before = first_day-lt month (month + 1) (omega arith) (omega arith);
}

pub months_begun-first : (month : ℕ) → month < 1200 → months_begun (first_day month) ≡ month + 1
months_begun-first month known = months_begun-in (first_day month) month (IsInMonth-first month known)

-- the month of a date, from 1 on
pub dated : (n y m d : ℕ) → IsDay n y m d → (month : ℕ) × (IsInMonth n month) × (month + 24001 ≡ 12 * y + m)
dated n y m d is =
    let early : 2000 ≤ y = is.date.early in
    let some : 1 ≤ m = is.date.civil.1.0 in
    let month = 12 * y + m - 24001 in
    let same : month + 24001 ≡ 12 * y + m = omega arith in
    (month, IsInMonth-date n y m d month is same, same)

or_parts : (a b : Bool) → (a || b) ≡ true → (a ≡ true) ⊎ (b ≡ true)
or_parts true b h = inl refl
or_parts false b h = inr h

found : (p : ℕ → Bool) (a n : ℕ) → list_any p (range_with_len a n) ≡ true → (x : ℕ) × (x < a + n) × (p x ≡ true)
found p a zero h = absurd cc
found p a (suc n) h = elim (or_parts (p a) (list_any p (range_with_len (a + 1) n)) h) [
  | inl is ↦ (a, omega arith, is)
  | inr later ↦ let other = found p (a + 1) n later in (other.0, omega (arith, other.1), other.2)
]

pub first_day_of : (n : ℕ) → is_first_day n ≡ true → (month : ℕ) × (month < 1200) × (n ≡ first_day month)
unfolding is_first_day
first_day_of n h =
    let is = found (λ month. first_day month == n) 0 1200 h in
    (is.0, omega (arith, is.1), sym (eqb-true (first_day is.0) n is.2))

-- a day in two months
one_month : (n a b : ℕ) → IsInMonth n a → IsInMonth n b → a ≡ b
one_month n a b is of =
    let le = months_ordered n n a b is of (omega arith) in
    let ge = months_ordered n n b a of is (omega arith) in
    omega arith

start_is : (n first y m d month : ℕ) → IsDay n y m d → IsDay first y m 1 → month + 24001 ≡ 12 * y + m → first ≡ first_day month
unfolding first_day
start_is n first y m d month within start same =
    let early : 2000 ≤ y = within.date.early in
    let some : 1 ≤ m = within.date.civil.1.0 in
    let long : m ≤ 12 = within.date.civil.1.1 in
    let year : y ≡ 2000 + month / 12 = omega arith in
    let of_year : m ≡ month_of_year month = omega arith in
    start.counted ∙ (λ i. day_number (year i) (of_year i) 1)

differ : (a b : ℕ) → (a ≡ b → ⊥) → (a == b) ≡ false
differ a b other = elim (cases_Bool (a == b)) [ inl same ↦ absurd (other (eqb-true a b same)) | inr apart ↦ apart ]

-- a day is a first one exactly where it is the first of its own month
pub month_start-is : (n first : ℕ) → IsMonthStart n first → (first == n) ≡ is_first_day n
month_start-is n first is =
    let in_month = dated n is.year is.month is.day is.within in
    let month = in_month.0 in
    let known : month < 1200 = in_month.1.known in
    let begins : first ≡ first_day month = start_is n first is.year is.month is.day month is.within is.start in_month.2 in
    elim (cases_eq first n) [
      | inl same ↦ eq-eqb first n same ∙ sym (is_first_day-of month n known (sym same ∙ begins))
      | inr other ↦ elim (cases_Bool (is_first_day n)) [
        | inl begins_one ↦
            let of = first_day_of n begins_one in
            let in_of : IsInMonth n of.0 = subst (λ (x : ℕ). IsInMonth x of.0) (sym of.2) (IsInMonth-first of.0 of.1) in
            let same_month : of.0 ≡ month = one_month n of.0 month in_of in_month.1 in
            absurd (other (begins ∙ ap first_day (sym same_month) ∙ sym of.2))
        | inr apart ↦ differ first n other ∙ sym apart
      ]
    ]

-- a first day whose month is known
pub first_day-begun : (d begun : ℕ) → is_first_day d ≡ true → months_begun d ≡ begun → (1 ≤ begun) × (d ≡ first_day (begun - 1))
first_day-begun d begun first e =
    let of = first_day_of d first in
    let is : begun ≡ of.0 + 1 = sym e ∙ ap months_begun of.2 ∙ months_begun-first of.0 of.1 in
    let before : of.0 ≡ begun - 1 = omega arith in
    (omega arith, of.2 ∙ ap first_day before)

list_all-lower : (x y : ℕ) (zs : List ℕ) → x ≤ y → list_all (nat_le y) zs ≡ true → list_all (nat_le x) zs ≡ true
list_all-lower x y [] le h = refl
list_all-lower x y (z ∷ zs) le h =
    let p = and_parts (nat_le y z) (list_all (nat_le y) zs) h in
    let above : y ≤ z = leb-true y z p.0 in
    let low : nat_le x z ≡ true = grind (arith, nat_tests) in
    and_from _ _ low (list_all-lower x y zs le p.1)

-- one more in front
pub never_falls-lead : (x y : ℕ) (ys : List ℕ) → x ≤ y → never_falls (y ∷ ys) ≡ true → never_falls (x ∷ y ∷ ys) ≡ true
never_falls-lead x y ys le h =
    let above = and_parts (list_all (nat_le y) ys) (never_falls ys) h in
    let low : nat_le x y ≡ true = grind (arith, nat_tests) in
    and_from _ _ (and_from _ _ low (list_all-lower x y ys le above.0)) h

drop-range : (j a n : ℕ) → drop j (range_with_len a (j + n)) ≡ range_with_len (a + j) n
drop-range zero a n = λ i. range_with_len (sym (add-zero a) i) (zero-add n i)
drop-range (suc j) a n =
    let more : suc j + n ≡ suc (j + n) = omega arith in
    let next : a + 1 + j ≡ a + suc j = omega arith in
    ap (λ k. drop (suc j) (range_with_len a k)) more ∙ drop-range j (a + 1) n ∙ ap (λ k. range_with_len k n) next

-- the latest of the months up to a number
pub latest-range : (keep all : ℕ) → keep ≤ all → latest keep (range_with_len 0 all) ≡ range_with_len (all - keep) keep
latest-range keep all le =
    let whole : all ≡ (all - keep) + keep = omega arith in
    ap (λ n. drop (n - keep) (range_with_len 0 all)) (length-range_with_len 0 all)
    ∙ ap (λ n. drop (all - keep) (range_with_len 0 n)) whole ∙ drop-range (all - keep) 0 keep ∙ ap (λ k. range_with_len k keep) (zero-add (all - keep))

-- no months are the latest none
pub latest-none : (all : ℕ) → latest 0 (range_with_len 0 all) ≡ []
latest-none all = latest-range 0 all (omega arith)

-- ---- each day lies in a month

first_day-0 : first_day 0 ≡ 0
first_day-0 = sym (first_day-counted 0 0 (lit< tt) known_days.2)

first_day-1200 : first_day 1200 ≡ 36525
unfolding first_day
first_day-1200 = omega (arith, day_count-2100, day_number-day_count 2100 1 1 (omega (arith, day_count-2100)))

month_below : (n k : ℕ) → k ≤ 1200 → n < first_day k → (month : ℕ) × (IsInMonth n month)
month_below n zero le lt = absurd (omega (arith, first_day-0))
month_below n (suc k) le lt = elim (cases_lt n (first_day k)) [
  | inl before ↦ month_below n k (omega arith) before
  | inr from ↦
      let next : suc k ≡ k + 1 = omega arith in
      (k, record { known = omega arith; from = from; before = subst (λ (j : ℕ). n < first_day j) next lt })
]

pub month_of_day : (n : ℕ) → n ≤ 36524 → (month : ℕ) × (IsInMonth n month)
month_of_day n le = month_below n 1200 (omega arith) (omega (arith, first_day-1200))
