-- Specific volume and specific enthalpy of water in region 1 of IAPWS-IF97, as the published sums.
use Rattle.std.specs.Prelude.{ℕ, ◌-◌, pos, ◌-ℤ◌, List, [], ◌∷◌}
use Rattle.number_model.specs.Fraction.{Fraction, ◌+ℚ◌, ◌-ℚ◌, ◌*ℚ◌, ◌/ℚ◌, neg_ℚ, power, whole}
use Rattle.water_model.specs.Decimal.{integer, minus, decimal, whole_power}
use Rattle.water_model.specs.Region1.{Row, region1}

-- the coefficient n of a row
abbrev pub coefficient : Row → Fraction
coefficient r = decimal r.mantissa r.exp10

-- -n * I * x^(I - 1) * y^J, which is 0 where I is 0
abbrev pub pi_term : Fraction → Fraction → Row → Fraction
pi_term x y r = neg_ℚ (coefficient r) *ℚ whole r.i *ℚ power x (r.i - 1) *ℚ whole_power y r.j

-- n * x^I * J * y^(J - 1), which is 0 where J is 0
abbrev pub tau_term : Fraction → Fraction → Row → Fraction
tau_term x y r = coefficient r *ℚ power x r.i *ℚ integer r.j *ℚ whole_power y (r.j -ℤ pos 1)

-- f summed over a list
unfoldable pub sum_over : {A : Type 0} → (A → Fraction) → List A → Fraction
sum_over f [] = whole 0
sum_over f (e ∷ es) = f e +ℚ sum_over f es

-- the temperature in kelvin, for t in °C: t + 273.15
abbrev pub kelvin : Fraction → Fraction
kelvin t = t +ℚ decimal (pos 27315) (minus 2)

-- x = 7.1 - p / 16530, for p in kPa
abbrev pub x_of : ℕ → Fraction
x_of p = decimal (pos 71) (minus 1) -ℚ whole p /ℚ whole 16530

-- tau = 1386 / T
abbrev pub tau_of : Fraction → Fraction
tau_of t = whole 1386 /ℚ kelvin t

-- y = tau - 1.222
abbrev pub y_of : Fraction → Fraction
y_of t = tau_of t -ℚ decimal (pos 1222) (minus 3)

-- R = 0.461526 kJ/(kg K)
abbrev pub gas_constant : Fraction
gas_constant = decimal (pos 461526) (minus 6)

-- the sums over the 34 rows
abbrev pub g_pi : Fraction → Fraction → Fraction
g_pi x y = sum_over (pi_term x y) region1

abbrev pub g_tau : Fraction → Fraction → Fraction
g_tau x y = sum_over (tau_term x y) region1

-- the specific volume in m³/kg at p kPa and t °C: R * T * g_pi / 16530
unfoldable pub volume : ℕ → Fraction → Fraction
volume p t = gas_constant *ℚ kelvin t *ℚ g_pi (x_of p) (y_of t) /ℚ whole 16530

-- the specific enthalpy in kJ/kg at p kPa and t °C: R * 1386 * g_tau
unfoldable pub enthalpy : ℕ → Fraction → Fraction
enthalpy p t = gas_constant *ℚ whole 1386 *ℚ g_tau (x_of p) (y_of t)
