-- The sums at the three points that the release IAPWS-IF97 publishes for checks of programs: as the last digit there is
-- rounded, the exact sum lies within half of its unit.
use Rattle.std.proofs.Common.{◌≡◌, ℕ, ℤ, refl, pos, ◌+ℤ◌, ◌*ℤ◌, List, [], ◌∷◌}
use lib.Signed.{le_z_yes}
use Rattle.number_model.specs.Fraction.{Fraction, ◌≤ℚ◌, ◌≈◌, whole, power}
use Rattle.water_model.specs.Decimal.{minus, decimal, whole_power}
use Rattle.water_model.specs.Region1.{Row, row, region1}
use Rattle.water_model.specs.Water.{pi_term, tau_term, sum_over, kelvin, x_of, tau_of, y_of, volume, enthalpy}

-- ---- parts of the sums

hundredth : decimal (pos 71) (minus 2) ≈ decimal (pos 710) (minus 3)
hundredth = record { crossed = refl }

-- (2/1)^-3 = 1/8, and any number to the power 0 is 1
inverse_cube : whole_power (whole 2) (minus 3) ≈ decimal (pos 125) (minus 3)
unfolding whole_power power
inverse_cube = record { crossed = refl }

power_0 : whole_power (whole 7) (pos 0) ≈ whole 1
unfolding whole_power power
power_0 = record { crossed = refl }

-- 50 °C is 323.15 K; at 1386 K / 2 tau is 2; 1653 kPa is a tenth of 16530 kPa, and 7.1 - 0.1 = 7
kelvin_at_50 : kelvin (whole 50) ≈ decimal (pos 32315) (minus 2)
kelvin_at_50 = record { crossed = refl }

tau_at_693_K : tau_of (decimal (pos 41985) (minus 2)) ≈ whole 2
tau_at_693_K = record { crossed = refl }

y_at_693_K : y_of (decimal (pos 41985) (minus 2)) ≈ decimal (pos 778) (minus 3)
y_at_693_K = record { crossed = refl }

x_at_1653_kPa : x_of 1653 ≈ whole 7
x_at_1653_kPa = record { crossed = refl }

-- the row n x^3 y^-2 with n = 5/10 at x = 2 and y = 4: -n I x^2 y^-2 = -0.375, and n x^3 J y^-3 = -0.125
of_pressure : pi_term (whole 2) (whole 4) (row 1 3 (minus 2) (pos 5) (minus 1)) ≈ decimal (minus 375) (minus 3)
unfolding whole_power power
of_pressure = record { crossed = refl }

of_temperature : tau_term (whole 2) (whole 4) (row 1 3 (minus 2) (pos 5) (minus 1)) ≈ decimal (minus 125) (minus 3)
unfolding whole_power power
of_temperature = record { crossed = refl }

-- it is 0 where the exponent is
no_pressure : pi_term (whole 2) (whole 4) (row 1 0 (minus 2) (pos 5) (minus 1)) ≈ whole 0
unfolding whole_power power
no_pressure = record { crossed = refl }

no_temperature : tau_term (whole 2) (whole 4) (row 1 3 (pos 0) (pos 5) (minus 1)) ≈ whole 0
unfolding whole_power power
no_temperature = record { crossed = refl }

-- ---- the table's digits, of which the sums at the points see the first four to ten: all of a column, and each times the
-- number of its row

abbrev total : (Row → ℤ) → List Row → ℤ
total of [] = pos 0
total of (r ∷ rs) = of r +ℤ total of rs

abbrev numbered : (Row → ℤ) → List Row → ℤ
numbered of rows = total (λ r. pos r.number *ℤ of r) rows

mantissas : (total (λ r. r.mantissa) region1 ≡ minus 826968658393989) × (numbered (λ r. r.mantissa) region1 ≡ minus 15640877254200486)
unfolding region1
mantissas = (refl, refl)

powers_of_ten : (total (λ r. r.exp10) region1 ≡ minus 714) × (numbered (λ r. r.exp10) region1 ≡ minus 14692)
unfolding region1
powers_of_ten = (refl, refl)

exponents_of_x : (total (λ r. pos r.i) region1 ≡ pos 224) × (numbered (λ r. pos r.i) region1 ≡ pos 6555)
unfolding region1
exponents_of_x = (refl, refl)

exponents_of_y : (total (λ r. r.j) region1 ≡ minus 221) × (numbered (λ r. r.j) region1 ≡ minus 7107)
unfolding region1
exponents_of_y = (refl, refl)

numbers : total (λ r. pos r.number) region1 ≡ pos 595
unfolding region1
numbers = refl

-- ---- the published points

-- x lies from lo to hi, in units of 10^-places
abbrev Between : (lo hi places : ℕ) → Fraction → Type 0
Between lo hi places x = (decimal (pos lo) (minus places) ≤ℚ x) × (x ≤ℚ decimal (pos hi) (minus places))

-- 300 K and 500 K in °C
abbrev at_300_K : Fraction
at_300_K = decimal (pos 2685) (minus 2)

abbrev at_500_K : Fraction
at_500_K = decimal (pos 22685) (minus 2)

-- 300 K and 3 MPa: 0.00100215168 m³/kg and 115.331273 kJ/kg
volume_at_300_K : Between 10021516750 10021516850 13 (volume 3000 at_300_K)
unfolding volume enthalpy sum_over region1 power whole_power
volume_at_300_K = (record { crossed = le_z_yes tt }, record { crossed = le_z_yes tt })

enthalpy_at_300_K : Between 1153312725 1153312735 7 (enthalpy 3000 at_300_K)
unfolding volume enthalpy sum_over region1 power whole_power
enthalpy_at_300_K = (record { crossed = le_z_yes tt }, record { crossed = le_z_yes tt })

-- 300 K and 80 MPa: 0.000971180894 m³/kg and 184.142828 kJ/kg
volume_at_80_MPa : Between 9711808935 9711808945 13 (volume 80000 at_300_K)
unfolding volume enthalpy sum_over region1 power whole_power
volume_at_80_MPa = (record { crossed = le_z_yes tt }, record { crossed = le_z_yes tt })

enthalpy_at_80_MPa : Between 1841428275 1841428285 7 (enthalpy 80000 at_300_K)
unfolding volume enthalpy sum_over region1 power whole_power
enthalpy_at_80_MPa = (record { crossed = le_z_yes tt }, record { crossed = le_z_yes tt })

-- 500 K and 3 MPa: 0.00120241800 m³/kg and 975.542239 kJ/kg
volume_at_500_K : Between 12024179950 12024180050 13 (volume 3000 at_500_K)
unfolding volume enthalpy sum_over region1 power whole_power
volume_at_500_K = (record { crossed = le_z_yes tt }, record { crossed = le_z_yes tt })

enthalpy_at_500_K : Between 9755422385 9755422395 7 (enthalpy 3000 at_500_K)
unfolding volume enthalpy sum_over region1 power whole_power
enthalpy_at_500_K = (record { crossed = le_z_yes tt }, record { crossed = le_z_yes tt })
