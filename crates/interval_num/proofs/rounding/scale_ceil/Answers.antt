use Rattle.std.proofs.Common.{◌^◌, ◌∙◌, ap, arith, to_z-of_z, rules}
use Rattle.std.proofs.lemmas.Int.{ints}
use mir.Syntax.{w128}
use mir.Val.{SFits}
use Rattle.number_model.specs.Rounding.{ceil_div}
use Rattle.interval_num.proofs.rounding.scale_ceil.Goals as goal

pub returns : goal.returns
returns c =
    let fz : SFits w128 c.args.z = c.ranges.z in
    let fr : SFits w128 c.raise.result = omega (arith, ints, c.raise.ensures.range.low, c.raise.ensures.range.high) in
    let fc : SFits w128 c.ceil_shift.result = search rules in
    let e = simp to_z-of_z at c.ceil_shift.ensures in
    simp to_z-of_z (e ∙ ap (λ t. ceil_div t (2 ^ c.args.s)) (simp to_z-of_z at c.raise.ensures.value))
