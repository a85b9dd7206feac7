-- Which fractions lie between two ends.
use Rattle.std.specs.Prelude.{ℕ, ◌^◌, ℤ, pos}
use Rattle.std.proofs.Common.{lit<}
use Rattle.std.proofs.lemmas.Nat.{pow_pos}
use Rattle.number_model.specs.Fraction.{Fraction, ◌≤ℚ◌}

-- z / 2^s
abbrev pub scaled : ℕ → ℤ → Fraction
scaled s z = record { num = z; den = 2 ^ s; positive = pow_pos s }

-- x lies from lo / 2^s to hi / 2^s
pub record Holds (s : ℕ) (lo hi : ℤ) (x : Fraction) : Type 0 where
  pub low : scaled s lo ≤ℚ x
  pub high : x ≤ℚ scaled s hi

-- n nanodegrees as a fraction of a degree Celsius
abbrev pub nanodegrees : ℕ → Fraction
nanodegrees n = record { num = pos n; den = 1000000000; positive = lit< tt }

-- 180 °C in nanodegrees
abbrev pub max_ndeg : ℕ
max_ndeg = 180000000000

-- the temperature x, in degrees Celsius, lies from lo to hi nanodegrees
pub record SpanHolds (lo hi : ℕ) (x : Fraction) : Type 0 where
  pub low : nanodegrees lo ≤ℚ x
  pub high : x ≤ℚ nanodegrees hi
