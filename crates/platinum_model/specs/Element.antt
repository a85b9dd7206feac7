-- The resistance of a platinum element after IEC 60751, at 0 °C and above.
use Rattle.std.specs.Prelude.{ℕ, ◌+◌, ◌-◌, ◌*◌, ◌^◌, pos}
use Rattle.std.proofs.Common.{lit<}
use Rattle.number_model.specs.Fraction.{Fraction, ◌+ℚ◌, ◌-ℚ◌, ◌*ℚ◌, whole}

-- The constants of R(t) = R0 (1 + A t - B t²): R0 in microohms, A in 10^-10 per °C, B in 10^-10 per °C².
-- The standard writes B as a negative number. Here it is the magnitude.
pub record Element : Type 0 where
  pub r0_uohm : ℕ
  pub a_e10 : ℕ
  pub b_e10 : ℕ

-- the nominal constants, A = 3.9083e-3 and B = 5.775e-7
abbrev pub nominal : ℕ → Element
nominal r0 = record { r0_uohm = r0; a_e10 = 39083000; b_e10 = 5775 }

-- n / 10^10
abbrev pub ten_billionths : ℕ → Fraction
ten_billionths n = record { num = pos n; den = 10000000000; positive = lit< tt }

-- R(t) in microohms, t in °C
unfoldable pub resistance : Element → Fraction → Fraction
resistance e t = whole e.r0_uohm *ℚ (whole 1 +ℚ ten_billionths e.a_e10 *ℚ t -ℚ ten_billionths e.b_e10 *ℚ (t *ℚ t))

-- n microdegrees as a fraction of a degree Celsius
abbrev pub microdegrees : ℕ → Fraction
microdegrees n = record { num = pos n; den = 1000000; positive = lit< tt }

-- 180 °C in microdegrees
abbrev pub max_udeg : ℕ
max_udeg = 180000000

-- 10^28 R at n nanodegrees up to 180 °C, where it is a whole number
unfoldable pub scaled_resistance : Element → ℕ → ℕ
scaled_resistance e n = e.r0_uohm * (10 ^ 28 + e.a_e10 * 10 ^ 9 * n - e.b_e10 * (n * n))
