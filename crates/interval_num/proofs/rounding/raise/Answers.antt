use Rattle.std.proofs.Common.{◌^◌, ◌*ℤ◌, ap, arith, to_z-of_z, rules}
use Rattle.std.proofs.lemmas.Int.{ints}
use mir.Syntax.{w128}
use mir.Val.{SFits}
use Rattle.number_model.specs.Rounding.{IsWithin}
use Rattle.interval_num.proofs.EndsLemmas.{IsWithin-raised}
use Rattle.interval_num.proofs.rounding.raise.Goals as goal

within : (c : goal.After-power_of_two) → IsWithin (2 ^ 122) (c.args.z *ℤ c.power_of_two.result)
within c = rw c.power_of_two.ensures (IsWithin-raised c.args.z c.args.t c.requires.mantissa c.requires.scale)

product_fits : (c : goal.After-power_of_two) → SFits w128 (c.args.z *ℤ c.power_of_two.result)
product_fits c = let w = within c in omega (arith, ints, w.low, w.high)

pub overflow_mul-result : goal.overflow_mul-result
overflow_mul-result c =
    let fz : SFits w128 c.args.z = c.ranges.z in
    let fp : SFits w128 c.power_of_two.result = search rules in
    simp to_z-of_z (product_fits c)

pub returns-clause-value : goal.returns-clause-value
returns-clause-value c =
    let fz : SFits w128 c.args.z = c.ranges.z in
    let fp : SFits w128 c.power_of_two.result = search rules in
    let f : SFits w128 (c.args.z *ℤ c.power_of_two.result) = product_fits c in
    simp to_z-of_z (ap (λ t. c.args.z *ℤ t) c.power_of_two.ensures)

pub returns-clause-range : goal.returns-clause-range
returns-clause-range c =
    let fz : SFits w128 c.args.z = c.ranges.z in
    let fp : SFits w128 c.power_of_two.result = search rules in
    let f : SFits w128 (c.args.z *ℤ c.power_of_two.result) = product_fits c in
    simp to_z-of_z (within c)
