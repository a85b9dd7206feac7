-- The output of `water`.
use Rattle.std.specs.Prelude.{◌≡◌, ℕ, ℤ, pos, ◌+ℤ◌, ◌≤ℤ◌, List, ◌++◌, codes}
use Rattle.std.specs.Fmt.{signed_decimal}
use Rattle.number_model.specs.Fraction.{Fraction, ◌≤ℚ◌}
use Rattle.platinum_model.specs.Element.{microdegrees}
use Rattle.water_model.specs.Decimal.{decimal, minus}
use Rattle.water_model.specs.Water.{volume, enthalpy}

-- lo and hi, in units of 10^-e, enclose x and are at most 1,002 apart
pub record AreDecimalEnds (e : ℕ) (lo hi : ℤ) (x : Fraction) : Type 0 where
  pub low : decimal lo (minus e) ≤ℚ x
  pub high : x ≤ℚ decimal hi (minus e)
  pub width : hi ≤ℤ (lo +ℤ pos 1002)

-- The ends of the volume in 10^-15 m³/kg and of the enthalpy in 10^-9 kJ/kg, at p kPa and t microdegrees Celsius. They are at
-- most 269 and 28 apart.
pub record IsWaterText (p t : ℕ) (text : List ℕ) : Type 0 where
  pub v_lo : ℤ
  pub v_hi : ℤ
  pub h_lo : ℤ
  pub h_hi : ℤ
  pub is : text ≡ codes "v " ++ signed_decimal v_lo ++ codes " " ++ signed_decimal v_hi ++ codes " h " ++ signed_decimal h_lo ++ codes " " ++ signed_decimal h_hi ++ codes "\n"
  pub volume_ends : AreDecimalEnds 15 v_lo v_hi (volume p (microdegrees t))
  pub enthalpy_ends : AreDecimalEnds 9 h_lo h_hi (enthalpy p (microdegrees t))
  pub volume_closer : v_hi ≤ℤ (v_lo +ℤ pos 269)
  pub enthalpy_closer : h_hi ≤ℤ (h_lo +ℤ pos 28)
