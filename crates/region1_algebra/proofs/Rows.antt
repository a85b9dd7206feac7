-- The derivative by the temperature as a sum of terms, one for each published row.
use Rattle.std.proofs.Common.{map, pos}
use lib.IntN.{◌-ℤ◌}
use Rattle.number_model.specs.Fraction.{Fraction, ◌≈◌}
use Rattle.number_model.proofs.Same.{same_refl, same_mul}
use Rattle.water_model.specs.Decimal.{whole_power}
use Rattle.water_model.specs.Region1.{region1}
use Rattle.water_model.specs.Water.{sum_over, tau_term, g_tau}
use Rattle.dec_tables.specs.Coefficients.{term_of}
use Rattle.dec_tables.proofs.Sums.{sum_map, temperature_row}
use Rattle.region1_algebra.specs.Terms.{value_of, tau_derivative_of}

pub tau_terms : (x y : Fraction) → sum_over (λ t. value_of x y (tau_derivative_of t)) (map term_of region1) ≈ g_tau x y
tau_terms x y = sum_map (λ t. value_of x y (tau_derivative_of t)) (tau_term x y) (λ r. same_mul (temperature_row x r) (same_refl (whole_power y (r.j -ℤ pos 1)))) region1
