-- What the JSON value of a key says.
use Rattle.std.specs.Prelude.{ℕ, Bool, cond, ◌&&◌, ◌==◌, nat_eq, nat_le, codes, List, length, Option, None, Some, option_map, option_and_then}
use Rattle.std.specs.List.{list_all}
use Rattle.std.specs.Cmp.Lexicographic.{pointwise}
use Rattle.serde_json.specs.Data.{Data}
use Rattle.serde_json.specs.Find.{as_number, as_str, as_u64}
use Rattle.parts_model.specs.Place.{Place, Flow, Return}
use Rattle.script_model.specs.Numbers.{all_digits, value_after}
use Rattle.script_model.specs.Dates.{date_in}
use Rattle.parts_model.specs.Ranges.{is_capital}

-- the value, where it passes a test
abbrev pub passing : {A : Type 0} → (A → Bool) → Option A → Option A
passing test None = None
passing test (Some x) = cond (test x) (Some x) None

-- a whole number that passes a test
abbrev pub whole : (ℕ → Bool) → Data → Option ℕ
whole test value = passing test (option_and_then as_u64 (as_number value))

-- a whole number from low to high
abbrev pub whole_in : ℕ → ℕ → Data → Option ℕ
whole_in low high = whole (λ n. nat_le low n && nat_le n high)

-- a string of this many decimal digits
abbrev pub digits : ℕ → Data → Option ℕ
digits count value = option_map (value_after 0) (passing (λ text. (length text == count) && all_digits text) (as_str value))

-- a string of this many letters A to Z
abbrev pub capitals : ℕ → Data → Option (List ℕ)
capitals count value = passing (λ text. (length text == count) && list_all is_capital text) (as_str value)

abbrev pub place_named : List ℕ → Option Place
place_named text = cond (pointwise nat_eq text (codes "flow")) (Some Flow) (cond (pointwise nat_eq text (codes "return")) (Some Return) None)

-- the string `flow` or `return`
abbrev pub place : Data → Option Place
place value = option_and_then place_named (as_str value)

-- a string `YYYY-MM-DD`, a date of 2000 to 2099
abbrev pub date : Data → Option ℕ
date value = option_and_then date_in (as_str value)
