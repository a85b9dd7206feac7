-- A whole number divided by the greater and the lesser of two divisors.
use Rattle.std.specs.Prelude.{ℕ, ℤ}
use Rattle.std.specs.Int.{int_min, int_max}
use Rattle.number_model.specs.Rounding.{floor_div, ceil_div}

-- the lesser of n / m and n / k, rounded down
abbrev pub least_floor : ℤ → ℕ → ℕ → ℤ
least_floor n m k = int_min (floor_div n m) (floor_div n k)

-- the greater of n / m and n / k, rounded up
abbrev pub greatest_ceil : ℤ → ℕ → ℕ → ℤ
greatest_ceil n m k = int_max (ceil_div n m) (ceil_div n k)
