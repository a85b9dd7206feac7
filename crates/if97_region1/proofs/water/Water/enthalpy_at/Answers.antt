use Rattle.std.proofs.Common.{◌+◌, ◌-◌, ◌*◌, ◌^◌, pos, ◌*ℤ◌, ◌≤ℤ◌, arith}
use Rattle.std.proofs.lemmas.Int.{ints}
use lib.IntN.{◌-ℤ◌}
use Rattle.if97_region1.specs.Sizes.{enthalpy_size}
use Rattle.if97_region1.proofs.Facts.{width_from}
use Rattle.if97_region1.proofs.Computed.{heat_base, heat_per}
use Rattle.if97_region1.proofs.Answers.{enthalpy_range}
use Rattle.if97_region1.proofs.water.Water.enthalpy_at.Goals as goal

pub returns : goal.returns
returns c =
    let sized = c.enthalpy_over.ensures.sized in
    let holds = c.enthalpy_over.ensures.holds in
    let closer : ((c.enthalpy_over.result.hi -ℤ c.enthalpy_over.result.lo) *ℤ pos (10 ^ 9)) ≤ℤ pos ((27 + 116 * (c.args.v.now.span.hi - c.args.v.now.span.lo)) * 2 ^ 48) =
    width_from enthalpy_size.base enthalpy_size.per (c.args.v.now.span.hi - c.args.v.now.span.lo) 27 116 (10 ^ 9) (2 ^ 48) c.enthalpy_over.result.lo c.enthalpy_over.result.hi sized.width heat_base heat_per in
    let width : ((c.enthalpy_over.result.hi -ℤ c.enthalpy_over.result.lo) *ℤ pos (10 ^ 9)) ≤ℤ pos ((1000 + 150 * (c.args.v.now.span.hi - c.args.v.now.span.lo)) * 2 ^ 48) = omega (arith, ints, closer) in
    let range = enthalpy_range c.args.self.now.p_kpa c.args.v.now.span.lo c.args.v.now.span.hi c.enthalpy_over.result.lo c.enthalpy_over.result.hi c.args.self.now.low c.args.self.now.high c.args.v.now.span.ordered c.args.v.now.span.in_range c.requires width holds in
    record { holds = holds; least = range.0; most = range.1; width = width; closer = closer }
