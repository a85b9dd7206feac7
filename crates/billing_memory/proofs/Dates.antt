-- Dates of 2000 to 2099: what the test says is what the calendar has.
use Rattle.std.proofs.Common.{◌≡◌, ℕ, inl, inr, Bool, true, false, ◌&&◌, ◌↔◌, cond, Option, Some, None, ap, refl, arith}
use Rattle.std.specs.Option.{option_map}
use Rattle.std.specs.Prelude.{IfSome, IfNone}
use Rattle.std.proofs.lemmas.Bool.{le-leb, cases_Bool}
use Rattle.jiff_core.proofs.SignedLemmas.{signed_arith}
use Rattle.calendar_model.specs.Calendar.{IsCenturyDate, IsDay}
use Rattle.billing_memory.specs.declared.day.Day.{Day}
use Rattle.script_model.specs.Dates.{is_century_date, day_in_century}

all_true : (a b c d e f : Bool) → a ≡ true → b ≡ true → c ≡ true → d ≡ true → e ≡ true → f ≡ true → (a && b && c && d && e && f) ≡ true
all_true a b c d e f ha hb hc hd he hf = rw (ha, hb, hc, hd, he, hf) refl

pub is_century_date-iff : (y m d : ℕ) → is_century_date y m d ≡ true ↔ IsCenturyDate y m d
is_century_date-iff y m d = (
  λ passes. grind (arith, signed_arith),
  λ date. all_true _ _ _ _ _ _ (le-leb _ _ date.early) (le-leb _ _ date.late) (le-leb _ _ date.civil.1.0) (le-leb _ _ date.civil.1.1) (le-leb _ _ date.civil.2.0) (le-leb _ _ date.civil.2.1),
)

pub day_said : (y m d : ℕ) (day : Option Day) → IfSome day (λ day. IsDay day.number y m d) → IfNone day (¬ (IsCenturyDate y m d)) → option_map (λ day. day.number) day ≡ day_in_century y m d
day_said y m d (Some day) some none = let is : is_century_date y m d ≡ true = (is_century_date-iff y m d).1 some.date in rw is (ap Some some.counted)
day_said y m d None some none =
    elim (cases_Bool (is_century_date y m d)) [
      | inl is ↦ absurd (none ((is_century_date-iff y m d).0 is))
      | inr not ↦ rw not refl
    ]

-- the parts of a word are a date where the word has the form of one
pub parts_said : (form : Bool) (y m d year month day : ℕ) → cond {A = Option (ℕ × ℕ × ℕ)} form (Some (year, month, day)) None ≡ Some (y, m, d) → day_in_century y m d ≡ cond form (day_in_century year month day) None
parts_said true y m d year month day e = grind arith
parts_said false y m d year month day e = cc
