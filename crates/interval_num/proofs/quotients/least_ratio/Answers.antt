use Rattle.std.proofs.Common.{◌∙◌, pos, ◌≤ℤ◌, ◌<ℤ◌, arith, to_z-of_z}
use Rattle.std.proofs.lemmas.Int.{ints}
use mir.Syntax.{w128}
use mir.Val.{SFits}
use Rattle.interval_num.proofs.QuotientLemmas.{quotient_floor-least_negative, quotient_floor-least_nonnegative}
use Rattle.interval_num.proofs.quotients.least_ratio.Goals as goal

pub returns-then-a-lt0-clause-value : goal.returns-then-a-lt0-clause-value
returns-then-a-lt0-clause-value c =
    let fa : SFits w128 c.args.a = c.ranges.a in
    let fm : SFits w128 c.args.m = c.ranges.m in
    let ff : SFits w128 c.floor_ratio.result = omega (arith, ints, c.floor_ratio.ensures.range.low, c.floor_ratio.ensures.range.high) in
    let value = simp to_z-of_z at c.floor_ratio.ensures.value in
    let negative : c.args.a <ℤ pos 0 = omega (arith, ints, c.if-a-lt0.true) in
    simp to_z-of_z (value ∙ quotient_floor-least_negative c.args.s c.args.a c.args.m c.args.k c.requires.den c.requires.ordered negative)

pub returns-else-a-lt0-clause-value : goal.returns-else-a-lt0-clause-value
returns-else-a-lt0-clause-value c =
    let fa : SFits w128 c.args.a = c.ranges.a in
    let fk : SFits w128 c.args.k = c.ranges.k in
    let ff : SFits w128 c.floor_ratio-else-a-lt0.result = omega (arith, ints, c.floor_ratio-else-a-lt0.ensures.range.low, c.floor_ratio-else-a-lt0.ensures.range.high) in
    let value = simp to_z-of_z at c.floor_ratio-else-a-lt0.ensures.value in
    let positive : pos 0 ≤ℤ c.args.a = omega (arith, ints, c.if-a-lt0.false) in
    simp to_z-of_z (value ∙ quotient_floor-least_nonnegative c.args.s c.args.a c.args.m c.args.k c.requires.den c.requires.ordered positive)
