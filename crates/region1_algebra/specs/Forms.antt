-- The factors of volume and enthalpy, and the variables beside their sums.
use Rattle.std.specs.Prelude.{pos}
use Rattle.std.proofs.Common.{lit<}
use Rattle.number_model.specs.Fraction.{Fraction, part, ◌*ℚ◌}
use Rattle.water_model.specs.Water.{kelvin, y_of}

-- R * 1386 / 16530 and R * 1386
abbrev pub volume_factor : Fraction
volume_factor = record { num = pos 639675036; den = 16530000000; positive = lit< tt }

abbrev pub heat_factor : Fraction
heat_factor = record { num = pos 639675036; den = 1000000; positive = lit< tt }

-- 1 / tau at t °C
abbrev pub u_of : Fraction → Fraction
u_of t = kelvin t *ℚ part 1386 (lit< tt)

-- y / tau at t °C
abbrev pub r_of : Fraction → Fraction
r_of t = y_of t *ℚ u_of t
