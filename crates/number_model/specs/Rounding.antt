-- Ranges, and quotients rounded down and up.
use Rattle.std.specs.Prelude.{ℕ, ℤ, pos, neg_ℤ, ◌≤ℤ◌}
use lib.Signed.{shr_z}

-- z lies from -n to n
pub record IsWithin (n : ℕ) (z : ℤ) : Type 0 where
  pub low : neg_ℤ (pos n) ≤ℤ z
  pub high : z ≤ℤ pos n

-- z / n, rounded down
abbrev pub floor_div : ℤ → ℕ → ℤ
floor_div z n = shr_z z n

-- z / n, rounded up
abbrev pub ceil_div : ℤ → ℕ → ℤ
ceil_div z n = neg_ℤ (floor_div (neg_ℤ z) n)
