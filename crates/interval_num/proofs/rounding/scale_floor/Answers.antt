use Rattle.std.proofs.Common.{◌^◌, ap, arith, to_z-of_z, rules}
use Rattle.std.proofs.lemmas.Int.{ints}
use mir.Syntax.{w128}
use mir.Val.{SFits}
use lib.Signed.{shr_z}
use Rattle.interval_num.proofs.rounding.scale_floor.Goals as goal

pub returns : goal.returns
returns c =
    let fz : SFits w128 c.args.z = c.ranges.z in
    let fr : SFits w128 c.raise.result = omega (arith, ints, c.raise.ensures.range.low, c.raise.ensures.range.high) in
    let fs : SFits w128 (shr_z c.raise.result (2 ^ c.args.s)) = search rules in
    simp to_z-of_z (ap (λ t. shr_z t (2 ^ c.args.s)) (simp to_z-of_z at c.raise.ensures.value))
