use Rattle.std.proofs.Common.{◌-◌, ◌^◌, ◌∙◌, lit<, lit≤, refl, pos, neg_ℤ, ◌≤ℤ◌}
use Rattle.number_model.specs.Fraction.{◌-ℚ◌, ◌*ℚ◌, ◌/ℚ◌}
use Rattle.number_model.specs.Rounding.{floor_div, ceil_div}
use Rattle.number_model.proofs.Ints.{recast}
use Rattle.number_model.proofs.Same.{Holds-same}
use Rattle.water_model.specs.Water.{tau_of, x_of, y_of, gas_constant, g_tau}
use Rattle.enclosure_sizes.specs.Size.{SizedBy, down_size}
use Rattle.enclosure_sizes.proofs.Sizes.{Sized-product, Sized-down}
use Rattle.if97_region1.proofs.Facts.{sized_products, floor_coarser, ceil_coarser, within_most, most_within}
use Rattle.slope_cert.specs.Curvature.{curvature_sum_size}
use Rattle.slope_cert.specs.Sizes.{factor_size, slope_size}
use Rattle.slope_cert.proofs.Rooms.{curvature_most, factor_most, slope_product}
use Rattle.slope_cert.proofs.Quotients.{slope_is}
use Rattle.slope_cert.proofs.slopes.slope_over.Goals as goal

pub scale_to-curvature-requires : goal.scale_to-curvature-requires
scale_to-curvature-requires c =
    let coarse : SizedBy (down_size (2 ^ 8) curvature_sum_size) (c.args.v.now.span.hi - c.args.v.now.span.lo) (floor_div c.curvature_sum.result.lo (2 ^ 8)) (ceil_div c.curvature_sum.result.hi (2 ^ 8)) =
    Sized-down (2 ^ 8) _ _ _ _ c.curvature_sum.result.lo c.curvature_sum.result.hi (lit< tt) c.curvature_sum.ensures.sized in
    let low : neg_ℤ (pos (2 ^ 62 - 1)) ≤ℤ floor_div c.curvature_sum.result.lo (2 ^ 8) = within_most curvature_most coarse.low in
    let high : ceil_div c.curvature_sum.result.hi (2 ^ 8) ≤ℤ pos (2 ^ 62 - 1) = most_within curvature_most coarse.high in
    (lit< tt, (lit< tt, (lit≤ tt, (recast low refl (floor_coarser c.curvature_sum.result.lo), recast high (ceil_coarser c.curvature_sum.result.hi) refl))))

pub scale_to-factor-requires : goal.scale_to-factor-requires
scale_to-factor-requires c =
    let coarse : SizedBy (down_size (2 ^ 8) factor_size) (c.args.v.now.span.hi - c.args.v.now.span.lo) (floor_div c.slope_factor.result.lo (2 ^ 8)) (ceil_div c.slope_factor.result.hi (2 ^ 8)) =
    Sized-down (2 ^ 8) _ _ _ _ c.slope_factor.result.lo c.slope_factor.result.hi (lit< tt) c.slope_factor.ensures.sized in
    let low : neg_ℤ (pos (2 ^ 62 - 1)) ≤ℤ floor_div c.slope_factor.result.lo (2 ^ 8) = within_most factor_most coarse.low in
    let high : ceil_div c.slope_factor.result.hi (2 ^ 8) ≤ℤ pos (2 ^ 62 - 1) = most_within factor_most coarse.high in
    (lit< tt, (lit< tt, (lit≤ tt, (recast low refl (floor_coarser c.slope_factor.result.lo), recast high (ceil_coarser c.slope_factor.result.hi) refl))))

pub mul-requires : goal.mul-requires
mul-requires c =
    let d = c.args.v.now.span.hi - c.args.v.now.span.lo in
    let curvature : SizedBy (down_size (2 ^ 8) curvature_sum_size) d c.scale_to-curvature.result.lo c.scale_to-curvature.result.hi =
    rw (c.scale_to-curvature.ensures.lo ∙ floor_coarser c.curvature_sum.result.lo, c.scale_to-curvature.ensures.hi ∙ ceil_coarser c.curvature_sum.result.hi)
    (Sized-down (2 ^ 8) _ _ _ _ c.curvature_sum.result.lo c.curvature_sum.result.hi (lit< tt) c.curvature_sum.ensures.sized) in
    let factor : SizedBy (down_size (2 ^ 8) factor_size) d c.scale_to-factor.result.lo c.scale_to-factor.result.hi =
    rw (c.scale_to-factor.ensures.lo ∙ floor_coarser c.slope_factor.result.lo, c.scale_to-factor.ensures.hi ∙ ceil_coarser c.slope_factor.result.hi)
    (Sized-down (2 ^ 8) _ _ _ _ c.slope_factor.result.lo c.slope_factor.result.hi (lit< tt) c.slope_factor.ensures.sized) in
    (lit< tt, sized_products _ _ _ _ _ _ _ _ _ _ _ _ c.scale_to-curvature.result.ordered c.scale_to-factor.result.ordered curvature factor slope_product)

pub returns-clause-holds : goal.returns-clause-holds
returns-clause-holds c = λ t1 t2 s1 s2 less.
    let v = c.args.v.now in
    let mean = (g_tau (x_of c.args.x.now.pressure) (y_of t2) -ℚ g_tau (x_of c.args.x.now.pressure) (y_of t1)) /ℚ (y_of t1 -ℚ y_of t2) in
    let factor = gas_constant *ℚ tau_of t1 *ℚ tau_of t2 in
    Holds-same (slope_is v.span.lo v.span.hi v.span.ordered v.span.in_range t1 t2 s1 s2 less c.args.x.now.pressure)
    (c.mul.ensures.holds mean factor
    (c.scale_to-curvature.ensures.holds mean (c.curvature_sum.ensures.holds t1 t2 s1 s2 less))
    (c.scale_to-factor.ensures.holds factor (c.slope_factor.ensures.holds t1 t2 s1 s2)))

pub returns-clause-sized : goal.returns-clause-sized
unfolding slope_size
returns-clause-sized c =
    let d = c.args.v.now.span.hi - c.args.v.now.span.lo in
    let curvature : SizedBy (down_size (2 ^ 8) curvature_sum_size) d c.scale_to-curvature.result.lo c.scale_to-curvature.result.hi =
    rw (c.scale_to-curvature.ensures.lo ∙ floor_coarser c.curvature_sum.result.lo, c.scale_to-curvature.ensures.hi ∙ ceil_coarser c.curvature_sum.result.hi)
    (Sized-down (2 ^ 8) _ _ _ _ c.curvature_sum.result.lo c.curvature_sum.result.hi (lit< tt) c.curvature_sum.ensures.sized) in
    let factor : SizedBy (down_size (2 ^ 8) factor_size) d c.scale_to-factor.result.lo c.scale_to-factor.result.hi =
    rw (c.scale_to-factor.ensures.lo ∙ floor_coarser c.slope_factor.result.lo, c.scale_to-factor.ensures.hi ∙ ceil_coarser c.slope_factor.result.hi)
    (Sized-down (2 ^ 8) _ _ _ _ c.slope_factor.result.lo c.slope_factor.result.hi (lit< tt) c.slope_factor.ensures.sized) in
    rw (c.mul.ensures.lo, c.mul.ensures.hi)
    (Sized-product 48 _ _ _ _ _ _ _ c.scale_to-curvature.result.lo c.scale_to-curvature.result.hi c.scale_to-factor.result.lo c.scale_to-factor.result.hi c.scale_to-curvature.result.ordered c.scale_to-factor.result.ordered curvature factor)
