-- The output of `k`.
use Rattle.std.specs.Prelude.{◌≡◌, ℕ, ◌-◌, ◌*◌, ◌^◌, ℤ, pos, ◌-ℤ◌, ◌*ℤ◌, ◌≤ℤ◌, List, ◌++◌, codes}
use Rattle.std.specs.Fmt.{signed_decimal}
use Rattle.number_model.specs.Fraction.{whole, ◌*ℚ◌}
use Rattle.platinum_model.specs.Element.{microdegrees}
use Rattle.parts_model.specs.Place as parts
use Rattle.heat_model.specs.Heat.{LiesBetween, heat_coefficient}

-- The ends of the heat coefficient in 10^-6 kJ/(m³ K), at p kPa and tf and tr microdegrees Celsius in flow and return.
-- Their distance, less 1,000, times the difference of the temperatures in microdegrees is at most 10^10; and less 2, at most
-- 5 * 10^8.
pub record IsCoefText (place : parts.Place) (p tf tr : ℕ) (text : List ℕ) : Type 0 where
  pub lo : ℤ
  pub hi : ℤ
  pub is : text ≡ codes "k " ++ signed_decimal lo ++ codes " " ++ signed_decimal hi ++ codes "\n"
  pub ends : LiesBetween lo hi (whole 1000000 *ℚ heat_coefficient p place (microdegrees tf) (microdegrees tr))
  pub width : ((hi -ℤ lo -ℤ pos 1000) *ℤ pos (tf - tr)) ≤ℤ pos (10 ^ 10)
  pub closer : ((hi -ℤ lo -ℤ pos 2) *ℤ pos (tf - tr)) ≤ℤ pos (5 * 10 ^ 8)
