use Rattle.std.proofs.Common.{◌-◌, lit<}
use Rattle.number_model.proofs.Same.{Holds-same, same_trans, same_mul_comm}
use Rattle.water_model.specs.Water.{x_of, y_of}
use Rattle.region1_algebra.specs.Forms.{heat_factor}
use Rattle.region1_algebra.specs.TableForms.{table_heat}
use Rattle.region1_algebra.proofs.TableForms.{enthalpy_by_tables}
use Rattle.enclosure_sizes.proofs.Sizes.{Sized-product}
use Rattle.if97_region1.proofs.Facts.{sized_products}
use Rattle.if97_region1.proofs.Computed.{heat_product}
use Rattle.if97_region1.proofs.heat.enthalpy_over.Goals as goal

pub mul-requires : goal.mul-requires
mul-requires c =
    let factor = c.factor_of_heat.ensures.sized (c.args.v.now.span.hi - c.args.v.now.span.lo) in
    (lit< tt, sized_products _ _ _ _ _ _ _ _ _ _ _ _ c.heat.result.ordered c.factor_of_heat.result.ordered c.heat.ensures.sized factor heat_product)

pub returns-clause-holds : goal.returns-clause-holds
returns-clause-holds c = λ t s.
    let g = table_heat (x_of c.args.w.now.p_kpa) (y_of t) in
    Holds-same (same_trans (same_mul_comm g heat_factor) (enthalpy_by_tables c.args.w.now.p_kpa t))
    (c.mul.ensures.holds g heat_factor (c.heat.ensures.holds t s) c.factor_of_heat.ensures.holds)

pub returns-clause-sized : goal.returns-clause-sized
returns-clause-sized c =
    let factor = c.factor_of_heat.ensures.sized (c.args.v.now.span.hi - c.args.v.now.span.lo) in
    rw (c.mul.ensures.lo, c.mul.ensures.hi)
    (Sized-product 48 _ _ _ _ _ _ _ c.heat.result.lo c.heat.result.hi c.factor_of_heat.result.lo c.factor_of_heat.result.hi c.heat.result.ordered c.factor_of_heat.result.ordered c.heat.ensures.sized factor)
