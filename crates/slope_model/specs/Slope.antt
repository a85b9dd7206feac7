-- The slope of the enthalpy of water over two temperatures, and segments of one degree from 0 to 180 °C.
use Rattle.std.specs.Prelude.{ℕ, ◌+◌, ◌<◌, ◌^◌, ℤ, pos, ◌≤ℤ◌}
use Rattle.number_model.specs.Fraction.{Fraction, ◌≤ℚ◌, ◌<ℚ◌, ◌-ℚ◌, ◌*ℚ◌, ◌/ℚ◌, whole}
use Rattle.water_model.specs.Water.{enthalpy}
use Rattle.heat_model.specs.Heat.{LiesBetween}

-- the slope of h at a pressure in kPa over t1 < t2 in °C: (h(p, t2) - h(p, t1)) / (t2 - t1), in kJ/(kg K)
unfoldable pub enthalpy_slope : ℕ → (t1 t2 : Fraction) → Fraction
enthalpy_slope p t1 t2 = (enthalpy p t2 -ℚ enthalpy p t1) /ℚ (t2 -ℚ t1)

-- t lies in segment i, from i to i + 1 °C
pub record IsInSegment (i : ℕ) (t : Fraction) : Type 0 where
  pub low : whole i ≤ℚ t
  pub high : t ≤ℚ whole (i + 1)

-- at p kPa, 10^9 times each slope over two temperatures of segment i lies from lo to hi
abbrev pub SlopesLie : (p i : ℕ) (lo hi : ℤ) → Type 0
SlopesLie p i lo hi =
    (t1 t2 : Fraction) → IsInSegment i t1 → IsInSegment i t2 → t1 <ℚ t2 → LiesBetween lo hi (whole (10 ^ 9) *ℚ enthalpy_slope p t1 t2)

-- at p kPa, each of the 180 segments has slopes that lie above 0
abbrev pub EachSegmentRises : ℕ → Type 0
EachSegmentRises p = (i : ℕ) → i < 180 → (lo : ℤ) × (hi : ℤ) × (pos 1 ≤ℤ lo) × SlopesLie p i lo hi

-- at p kPa, the enthalpy rises between any two temperatures from 0 to 180 °C
abbrev pub EnthalpyRises : ℕ → Type 0
EnthalpyRises p = (t1 t2 : Fraction) → whole 0 ≤ℚ t1 → t2 ≤ℚ whole 180 → t1 <ℚ t2 → enthalpy p t1 <ℚ enthalpy p t2
