use Rattle.std.proofs.Common.{◌-◌, ◌^◌, arith, lit<, lit≤}
use Rattle.water_model.specs.Water.{x_of, y_of}
use Rattle.number_model.specs.Fraction.{◌*ℚ◌, part, inverse}
use Rattle.table_model.specs.Tables.{heat_up, heat_down}
use Rattle.enclosure_sizes.specs.Size.{Size, SizedBy, horner_size}
use Rattle.enclosure_sizes.proofs.Sizes.{Sized-add}
use Rattle.dec_tables.specs.declared.part.Part.TheVariants.{HeatUp, HeatDown}
use Rattle.dec_tables.specs.Sizes.{coefficient_size}
use Rattle.if97_region1.specs.Sizes.{quarter_size, inverse_size}
use Rattle.if97_region1.proofs.Facts.{finer, widened, room, sized_sums}
use Rattle.if97_region1.proofs.Polynomials.{Sized-horner}
use Rattle.if97_region1.proofs.Computed.{heat_up_size, heat_down_size, heat_down_most, heat_sum, heat_within}
use Rattle.if97_region1.proofs.heat.heat.Goals as goal

abbrev coarse_size : Size
coarse_size = horner_size (2 ^ 40) inverse_size (coefficient_size HeatDown) 43

pub horner-up-requires : goal.horner-up-requires
horner-up-requires c = (lit< tt, (lit< tt, (c.quarter.ensures.low, (c.quarter.ensures.high, omega (arith, c.polys-t.ensures.heat_up.total)))))

pub horner-down-requires : goal.horner-down-requires
horner-down-requires c = (lit< tt, (lit< tt, (c.inverse.ensures.low, (c.inverse.ensures.high, omega (arith, c.polys-t.ensures.heat_down.total)))))

pub scale_to-requires : goal.scale_to-requires
scale_to-requires c =
    let d = c.args.v.now.span.hi - c.args.v.now.span.lo in
    let coarse : SizedBy coarse_size d c.horner-down.result.lo c.horner-down.result.hi =
    rw (c.horner-down.ensures.lo, c.horner-down.ensures.hi) (Sized-horner 40 d inverse_size c.inverse.result.lo c.inverse.result.hi c.inverse.result.ordered c.inverse.ensures.sized 43 c.polys-t.result.now.heat_down.coef (coefficient_size HeatDown) c.polys-t.ensures.heat_down.count c.polys-t.ensures.heat_down.sized) in
    let r = room heat_down_size d _ _ heat_down_most (finer 40 48 (lit≤ tt) coarse_size d c.horner-down.result.lo c.horner-down.result.hi coarse) in
    (lit< tt, (lit< tt, (lit≤ tt, (r.0, r.1))))

pub add-requires : goal.add-requires
add-requires c =
    let d = c.args.v.now.span.hi - c.args.v.now.span.lo in
    let coarse : SizedBy coarse_size d c.horner-down.result.lo c.horner-down.result.hi =
    rw (c.horner-down.ensures.lo, c.horner-down.ensures.hi) (Sized-horner 40 d inverse_size c.inverse.result.lo c.inverse.result.hi c.inverse.result.ordered c.inverse.ensures.sized 43 c.polys-t.result.now.heat_down.coef (coefficient_size HeatDown) c.polys-t.ensures.heat_down.count c.polys-t.ensures.heat_down.sized) in
    let down : SizedBy heat_down_size d c.scale_to.result.lo c.scale_to.result.hi =
    rw (c.scale_to.ensures.lo, c.scale_to.ensures.hi) (finer 40 48 (lit≤ tt) coarse_size d c.horner-down.result.lo c.horner-down.result.hi coarse) in
    let up : SizedBy heat_up_size d c.horner-up.result.lo c.horner-up.result.hi =
    rw (c.horner-up.ensures.lo, c.horner-up.ensures.hi) (Sized-horner 48 d quarter_size c.quarter.result.lo c.quarter.result.hi c.quarter.result.ordered c.quarter.ensures.sized 17 c.polys-t.result.now.heat_up.coef (coefficient_size HeatUp) c.polys-t.ensures.heat_up.count c.polys-t.ensures.heat_up.sized) in
    let sums = sized_sums _ _ _ _ _ _ _ _ _ _ _ up down heat_sum in
    (lit< tt, (sums.0, sums.1))

pub returns-clause-holds : goal.returns-clause-holds
returns-clause-holds c = λ t s.
    let x = x_of c.args.w.now.p_kpa in
    c.add.ensures.holds _ _
    (c.horner-up.ensures.holds (heat_up x) (y_of t *ℚ part 4 (lit< tt)) c.polys-t.ensures.heat_up.holds (c.quarter.ensures.holds t s))
    (c.scale_to.ensures.holds _ (c.horner-down.ensures.holds (heat_down x) (inverse (y_of t)) c.polys-t.ensures.heat_down.holds (c.inverse.ensures.holds t s)))

pub returns-clause-sized : goal.returns-clause-sized
returns-clause-sized c =
    let d = c.args.v.now.span.hi - c.args.v.now.span.lo in
    let coarse : SizedBy coarse_size d c.horner-down.result.lo c.horner-down.result.hi =
    rw (c.horner-down.ensures.lo, c.horner-down.ensures.hi) (Sized-horner 40 d inverse_size c.inverse.result.lo c.inverse.result.hi c.inverse.result.ordered c.inverse.ensures.sized 43 c.polys-t.result.now.heat_down.coef (coefficient_size HeatDown) c.polys-t.ensures.heat_down.count c.polys-t.ensures.heat_down.sized) in
    let down : SizedBy heat_down_size d c.scale_to.result.lo c.scale_to.result.hi =
    rw (c.scale_to.ensures.lo, c.scale_to.ensures.hi) (finer 40 48 (lit≤ tt) coarse_size d c.horner-down.result.lo c.horner-down.result.hi coarse) in
    let up : SizedBy heat_up_size d c.horner-up.result.lo c.horner-up.result.hi =
    rw (c.horner-up.ensures.lo, c.horner-up.ensures.hi) (Sized-horner 48 d quarter_size c.quarter.result.lo c.quarter.result.hi c.quarter.result.ordered c.quarter.ensures.sized 17 c.polys-t.result.now.heat_up.coef (coefficient_size HeatUp) c.polys-t.ensures.heat_up.count c.polys-t.ensures.heat_up.sized) in
    rw (c.add.ensures.lo, c.add.ensures.hi) (widened heat_within d _ _ (Sized-add _ _ _ _ _ _ d _ _ _ _ up down))
