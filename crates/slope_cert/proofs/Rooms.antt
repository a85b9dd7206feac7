-- The magnitudes and widths of the evaluation, computed.
use Rattle.std.proofs.Common.{◌-◌, ◌*◌, ◌^◌, ◌≤◌, lit≤}
use Rattle.enclosure_sizes.specs.Size.{slope, parts, product_size, down_size}
use Rattle.water_model.specs.Region1.{region1}
use Rattle.dec_tables.specs.Sizes.{total, total_size}
use Rattle.region1_terms.specs.Monomial.{monomial_size}
use Rattle.slope_cert.specs.Curvature.{curvature_sum_size}
use Rattle.slope_cert.specs.Sizes.{tau_size, gas_constant_size, factor_size, slope_size}

pub curvature_room : curvature_sum_size.most ≤ 2 ^ 62
unfolding curvature_sum_size total_size total monomial_size slope region1
curvature_room = lit≤ tt

pub second_factor : (product_size (2 ^ 56) gas_constant_size tau_size).most * tau_size.most ≤ (2 ^ 62 - 1) * 2 ^ 56
second_factor = lit≤ tt

pub curvature_most : (down_size (2 ^ 8) curvature_sum_size).most ≤ 2 ^ 62 - 1
unfolding curvature_sum_size total_size total monomial_size slope region1
curvature_most = lit≤ tt

pub factor_most : (down_size (2 ^ 8) factor_size).most ≤ 2 ^ 62 - 1
unfolding factor_size
factor_most = lit≤ tt

pub slope_product : (down_size (2 ^ 8) curvature_sum_size).most * (down_size (2 ^ 8) factor_size).most ≤ (2 ^ 62 - 1) * 2 ^ 48
unfolding factor_size curvature_sum_size total_size total monomial_size slope region1
slope_product = lit≤ tt

pub slope_base : slope_size.base * 10 ^ 9 ≤ 1000 * 2 ^ 48 * parts
unfolding slope_size factor_size curvature_sum_size total_size total monomial_size slope region1
slope_base = lit≤ tt

pub slope_per : slope_size.per * 10 ^ 9 ≤ 2 * 2 ^ 48 * parts
unfolding slope_size factor_size curvature_sum_size total_size total monomial_size slope region1
slope_per = lit≤ tt
