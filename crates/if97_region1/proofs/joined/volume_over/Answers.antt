use Rattle.std.proofs.Common.{◌-◌, lit<}
use Rattle.number_model.proofs.Same.{Holds-same, same_trans, same_mul_comm}
use Rattle.water_model.specs.Water.{x_of, y_of}
use Rattle.region1_algebra.specs.Forms.{volume_factor, u_of, r_of}
use Rattle.region1_algebra.specs.TableForms.{table_volume}
use Rattle.region1_algebra.proofs.TableForms.{volume_by_tables}
use Rattle.enclosure_sizes.proofs.Sizes.{Sized-product}
use Rattle.if97_region1.proofs.Facts.{sized_products}
use Rattle.region1_ranges.proofs.Within.{kelvin_above}
use Rattle.if97_region1.proofs.Computed.{volume_product}
use Rattle.if97_region1.proofs.joined.volume_over.Goals as goal

pub mul-requires : goal.mul-requires
mul-requires c =
    let factor = c.factor_of_volume.ensures.sized (c.args.v.now.span.hi - c.args.v.now.span.lo) in
    (lit< tt, sized_products _ _ _ _ _ _ _ _ _ _ _ _ c.joined.result.ordered c.factor_of_volume.result.ordered c.joined.ensures.sized factor volume_product)

pub returns-clause-holds : goal.returns-clause-holds
returns-clause-holds c = λ t s.
    let g = table_volume (x_of c.args.w.now.p_kpa) (y_of t) (u_of t) (r_of t) in
    Holds-same (same_trans (same_mul_comm g volume_factor) (volume_by_tables c.args.w.now.p_kpa t (kelvin_above c.args.v.now.span.lo c.args.v.now.span.hi t s)))
    (c.mul.ensures.holds g volume_factor (c.joined.ensures.holds t s) c.factor_of_volume.ensures.holds)

pub returns-clause-sized : goal.returns-clause-sized
returns-clause-sized c =
    let factor = c.factor_of_volume.ensures.sized (c.args.v.now.span.hi - c.args.v.now.span.lo) in
    rw (c.mul.ensures.lo, c.mul.ensures.hi)
    (Sized-product 56 _ _ _ _ _ _ _ c.joined.result.lo c.joined.result.hi c.factor_of_volume.result.lo c.factor_of_volume.result.hi c.joined.result.ordered c.factor_of_volume.result.ordered c.joined.ensures.sized factor)
