-- The heat that water gives off between flow and return, after EN 1434-1.
use Rattle.std.specs.Prelude.{ℕ, ℤ}
use Rattle.number_model.specs.Fraction.{Fraction, ◌≤ℚ◌, ◌-ℚ◌, ◌*ℚ◌, ◌/ℚ◌, whole}
use Rattle.parts_model.specs.Place.{Place, Flow, Return}
use Rattle.water_model.specs.Decimal.{integer}
use Rattle.water_model.specs.Water.{volume, enthalpy}

-- of the temperatures in flow and return, the one at which the flow sensor measures the volume
abbrev pub metered_at : Place → (flow ret : Fraction) → Fraction
metered_at Flow flow ret = flow
metered_at Return flow ret = ret

-- The energy in millijoules that a litre of water gives off, at a pressure in kPa, from the temperature in the flow to
-- that in the return, in °C: 1000 (h(flow) - h(return)) / v.
unfoldable pub litre_energy : ℕ → Place → (flow ret : Fraction) → Fraction
litre_energy p place flow ret =
    whole 1000 *ℚ (enthalpy p flow -ℚ enthalpy p ret) /ℚ volume p (metered_at place flow ret)

-- The heat coefficient in kJ/(m³ K): (1 / v) (h(flow) - h(return)) / (flow - return).
unfoldable pub heat_coefficient : ℕ → Place → (flow ret : Fraction) → Fraction
heat_coefficient p place flow ret =
    whole 1 /ℚ volume p (metered_at place flow ret) *ℚ (enthalpy p flow -ℚ enthalpy p ret) /ℚ (flow -ℚ ret)

-- x lies from lo to hi
pub record LiesBetween (lo hi : ℤ) (x : Fraction) : Type 0 where
  pub low : integer lo ≤ℚ x
  pub high : x ≤ℚ integer hi
