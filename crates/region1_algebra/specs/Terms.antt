-- Terms as products of powers, and their derivatives.
use Rattle.std.specs.Prelude.{pos, ◌*ℤ◌, ◌-ℤ◌}
use Rattle.number_model.specs.Fraction.{Fraction, ◌*ℚ◌, power}
use Rattle.water_model.specs.Decimal.{whole_power}
use Rattle.dec_tables.specs.declared.table.Term.{Term}
use Rattle.dec_tables.specs.Coefficients.{coefficient_of}

-- n * x^I * y^J
abbrev pub value_of : Fraction → Fraction → Term → Fraction
value_of x y t = coefficient_of t *ℚ power x t.i *ℚ whole_power y t.j

-- n * x^I * J * y^(J - 1), the derivative by the temperature
abbrev pub tau_derivative_of : Term → Term
tau_derivative_of t = record { i = t.i; j = t.j -ℤ pos 1; mantissa = t.j *ℤ t.mantissa; exp10 = t.exp10 }
