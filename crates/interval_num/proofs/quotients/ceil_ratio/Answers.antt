use Rattle.std.proofs.Common.{◌∙◌, pos, neg_ℤ, ap, arith, to_z-of_z}
use Rattle.std.proofs.lemmas.Int.{ints}
use mir.Syntax.{w128}
use mir.Val.{SFits}
use lib.IntN.{◌-ℤ◌, +ℤ_idl}
use Rattle.interval_num.proofs.QuotientLemmas.{quotient_floor-neg}
use Rattle.interval_num.proofs.quotients.ceil_ratio.Goals as goal

pub returns : goal.returns
returns c =
    let fa : SFits w128 c.args.a = c.ranges.a in
    let fb : SFits w128 c.args.b = c.ranges.b in
    let fn : SFits w128 (pos 0 -ℤ c.args.a) = omega (arith, ints) in
    let fr : SFits w128 c.floor_ratio.result = omega (arith, ints, c.floor_ratio.ensures.range.low, c.floor_ratio.ensures.range.high) in
    let ff : SFits w128 (pos 0 -ℤ c.floor_ratio.result) = omega (arith, ints, c.floor_ratio.ensures.range.low, c.floor_ratio.ensures.range.high) in
    let value = simp to_z-of_z at c.floor_ratio.ensures.value in
    simp to_z-of_z (+ℤ_idl (neg_ℤ c.floor_ratio.result) ∙ ap neg_ℤ value ∙ quotient_floor-neg c.args.s c.args.a c.args.b)
