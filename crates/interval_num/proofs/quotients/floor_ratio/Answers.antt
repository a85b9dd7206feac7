use Rattle.std.proofs.Common.{◌≡◌, ◌∙◌, ◌^◌, pos, ◌*ℤ◌, ap, arith, to_z-of_z, rules}
use Rattle.std.proofs.lemmas.Int.{ints}
use Rattle.std.specs.Int.{int_div_euclid}
use mir.Syntax.{w128}
use mir.Val.{SFits}
use Rattle.number_model.proofs.Roundings.{floor_div-euclid}
use Rattle.interval_num.specs.Ends.{quotient_floor}
use Rattle.interval_num.proofs.EndsLemmas.{IsWithin-raised}
use Rattle.interval_num.proofs.QuotientLemmas.{unsigned_abs-positive, IsWithin-floor}
use Rattle.interval_num.proofs.quotients.floor_ratio.Goals as goal

value_is : (c : goal.After-div_euclid) → c.div_euclid.result ≡ quotient_floor c.args.s c.args.a c.args.b
value_is c =
    let fa : SFits w128 c.args.a = c.ranges.a in
    let fb : SFits w128 c.args.b = c.ranges.b in
    let fr : SFits w128 c.raise.result = omega (arith, ints, c.raise.ensures.range.low, c.raise.ensures.range.high) in
    let e = simp to_z-of_z at c.div_euclid.ensures in
    let value = simp to_z-of_z at c.raise.ensures.value in
    e ∙ ap (λ t. int_div_euclid t c.args.b) value ∙ floor_div-euclid (c.args.a *ℤ pos (2 ^ c.args.s)) c.args.b c.requires.den

pub returns-clause-value : goal.returns-clause-value
returns-clause-value c =
    let fd : SFits w128 c.div_euclid.result = search rules in
    simp to_z-of_z (value_is c)

pub returns-clause-range : goal.returns-clause-range
returns-clause-range c =
    let fd : SFits w128 c.div_euclid.result = search rules in
    simp to_z-of_z (rw (value_is c) (IsWithin-floor (2 ^ 122) _ _ (unsigned_abs-positive c.args.b c.requires.den) (IsWithin-raised c.args.a c.args.s c.requires.num c.requires.scale)))
