-- The sums of region 1 of IAPWS-IF97 at one pressure as polynomials of y / 4, where the exponent of y is not negative, and
-- of 1 / y, where it is: their coefficients by the published rows.
use Rattle.std.specs.Prelude.{ℕ, zero, suc, ◌-◌, ◌^◌, pos, negsuc, ◌-ℤ◌, Bool, if◌then◌else◌}
use Rattle.std.specs.Ordering.{int_eq}
use Rattle.std.proofs.Common.{lit<}
use Rattle.number_model.specs.Fraction.{Fraction, ◌+ℚ◌, ◌*ℚ◌, neg_ℚ, power, whole, part}
use Rattle.water_model.specs.Decimal.{integer}
use Rattle.water_model.specs.Region1.{Row, region1}
use Rattle.water_model.specs.Water.{coefficient, sum_over}

-- x / 8, which lies below 1
abbrev pub eighth_of : Fraction → Fraction
eighth_of x = x *ℚ part 8 (lit< tt)

-- -n * I * x^(I - 1), the factor of y^J in the derivative by the pressure
abbrev pub pi_factor : Fraction → Row → Fraction
pi_factor x r = neg_ℚ (coefficient r) *ℚ whole r.i *ℚ power x (r.i - 1)

-- n * x^I * J, the factor of y^(J - 1) in the derivative by the temperature
abbrev pub tau_factor : Fraction → Row → Fraction
tau_factor x r = coefficient r *ℚ power x r.i *ℚ integer r.j

-- f summed over the rows of region 1 where the test is true
abbrev pub sum_where : (Row → Bool) → (Row → Fraction) → Fraction
sum_where test f = sum_over (λ r. if test r then f r else whole 0) region1

-- the coefficient of (y / 4)^k: the sum over J = k of -n * I * x^(I - 1) * 4^k
abbrev pub volume_up : Fraction → ℕ → Fraction
volume_up x k = sum_where (λ r. int_eq r.j (pos k)) (λ r. pi_factor x r *ℚ whole (4 ^ k))

-- the coefficient of (1 / y)^k: the sum over J = -k of -n * I * x^(I - 1), for k from 1 on
abbrev pub volume_down : Fraction → ℕ → Fraction
volume_down x zero = whole 0
volume_down x (suc n) = sum_where (λ r. int_eq r.j (negsuc n)) (pi_factor x)

-- the coefficient of (y / 4)^k: the sum over J - 1 = k of n * x^I * J * 4^k
abbrev pub heat_up : Fraction → ℕ → Fraction
heat_up x k = sum_where (λ r. int_eq (r.j -ℤ pos 1) (pos k)) (λ r. tau_factor x r *ℚ whole (4 ^ k))

-- the coefficient of (1 / y)^k: the sum over J - 1 = -k of n * x^I * J, for k from 1 on
abbrev pub heat_down : Fraction → ℕ → Fraction
heat_down x zero = whole 0
heat_down x (suc n) = sum_where (λ r. int_eq (r.j -ℤ pos 1) (negsuc n)) (tau_factor x)

-- c 0 + c 1 * z + .. + c (n - 1) * z^(n - 1)
unfoldable pub polynomial : (ℕ → Fraction) → ℕ → Fraction → Fraction
polynomial c zero z = whole 0
polynomial c (suc n) z = polynomial c n z +ℚ c n *ℚ power z n
