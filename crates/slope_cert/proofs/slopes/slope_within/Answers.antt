use Rattle.std.proofs.Common.{◌-◌, ◌^◌}
use Rattle.if97_region1.proofs.Facts.{width_from}
use Rattle.slope_model.specs.Slope.{enthalpy_slope}
use Rattle.slope_cert.specs.Sizes.{slope_size}
use Rattle.slope_cert.proofs.Rooms.{slope_base, slope_per}
use Rattle.slope_cert.proofs.Segments.{billionths_hold, billionths_width}
use Rattle.slope_cert.proofs.slopes.slope_within.Goals as goal

pub returns-clause-holds : goal.returns-clause-holds
returns-clause-holds c = λ t1 t2 s1 s2 less.
    let holds = rw c.over.ensures at c.slope_over.ensures.holds in
    rw (c.in_billionths.ensures.lo, c.in_billionths.ensures.hi)
    (billionths_hold c.slope_over.result.lo c.slope_over.result.hi (enthalpy_slope c.args.x.now.pressure t1 t2) (holds t1 t2 s1 s2 less))

pub returns-clause-width : goal.returns-clause-width
returns-clause-width c =
    let sized = rw c.over.ensures at c.slope_over.ensures.sized in
    let d = c.args.span.hi - c.args.span.lo in
    rw (c.in_billionths.ensures.lo, c.in_billionths.ensures.hi)
    (billionths_width d c.slope_over.result.lo c.slope_over.result.hi c.requires.degree
    (width_from slope_size.base slope_size.per d 1000 2 (10 ^ 9) (2 ^ 48) c.slope_over.result.lo c.slope_over.result.hi sized.width slope_base slope_per))
