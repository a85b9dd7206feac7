-- The volume and the enthalpy from tables of coefficients.
use Rattle.std.specs.Prelude.{suc, pos}
use Rattle.std.proofs.Common.{lit<}
use Rattle.number_model.specs.Fraction.{Fraction, ◌+ℚ◌, ◌-ℚ◌, ◌*ℚ◌, part, inverse}
use Rattle.water_model.specs.Decimal.{minus, decimal}
use Rattle.table_model.specs.Tables.{volume_up, volume_down, heat_up, heat_down, polynomial}

-- 1.222
abbrev pub y_offset : Fraction
y_offset = decimal (pos 1222) (minus 3)

-- the coefficient of y
abbrev pub linear_of : Fraction → Fraction
linear_of x = volume_up x 1 *ℚ part 4 (lit< tt)

-- the sum over the terms from y^2 on, divided by y, where q is y / 4
abbrev pub higher_of : Fraction → Fraction → Fraction
higher_of x q = (polynomial (λ k. volume_up x (suc (suc k))) 16 q *ℚ q) *ℚ part 4 (lit< tt)

-- what stands at 1 / tau: c0 - 1.222 c1, and the sum over the powers of z = 1 / y
abbrev pub constant_of : Fraction → Fraction
constant_of x = volume_up x 0 -ℚ y_offset *ℚ linear_of x

abbrev pub falling_of : Fraction → Fraction → Fraction
falling_of x z = constant_of x +ℚ polynomial (volume_down x) 42 z

-- g_pi / tau = c1 + (c0 - 1.222 c1 + D(1 / y)) / tau + U(y / 4) y / tau, where u is 1 / tau and r is y / tau
abbrev pub table_volume : (x y u r : Fraction) → Fraction
table_volume x y u r = linear_of x +ℚ falling_of x (inverse y) *ℚ u +ℚ higher_of x (y *ℚ part 4 (lit< tt)) *ℚ r

-- g_tau
abbrev pub table_heat : Fraction → Fraction → Fraction
table_heat x y = polynomial (heat_up x) 17 (y *ℚ part 4 (lit< tt)) +ℚ polynomial (heat_down x) 43 (inverse y)
