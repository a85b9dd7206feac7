use Rattle.std.proofs.Common.{◌≡◌, ◌∙◌, pos, neg_ℤ, ap, arith, unsigned_abs, to_z-of_z}
use Rattle.std.proofs.lemmas.Int.{ints}
use mir.Syntax.{w128}
use mir.Val.{SFits}
use lib.IntN.{◌-ℤ◌, +ℤ_idl}
use Rattle.heat_coeff.specs.Quotients.{least_floor, greatest_ceil}
use Rattle.heat_coeff.proofs.Quotients.{least_floor-neg}
use Rattle.heat_coeff.proofs.quotient.ceil_quotient.Goals as goal

pub returns : goal.returns
returns c =
    let fn : SFits w128 c.args.n = c.ranges.n in
    let fl : SFits w128 c.args.least = c.ranges.least in
    let fm : SFits w128 c.args.most = c.ranges.most in
    let ff : SFits w128 (pos 0 -ℤ c.args.n) = omega (arith, ints, c.requires.num.low, c.requires.num.high) in
    let fr : SFits w128 c.floor_quotient.result = omega (arith, ints, c.floor_quotient.ensures.range.low, c.floor_quotient.ensures.range.high) in
    let fz : SFits w128 (pos 0 -ℤ c.floor_quotient.result) = omega (arith, ints, c.floor_quotient.ensures.range.low, c.floor_quotient.ensures.range.high) in
    let lesser = simp to_z-of_z at c.floor_quotient.ensures.value in
    let value : c.floor_quotient.result ≡ least_floor (pos 0 -ℤ c.args.n) (unsigned_abs c.args.least) (unsigned_abs c.args.most) = cc in
    let greater : pos 0 -ℤ c.floor_quotient.result ≡ greatest_ceil c.args.n (unsigned_abs c.args.least) (unsigned_abs c.args.most) =
    +ℤ_idl (neg_ℤ c.floor_quotient.result) ∙ ap neg_ℤ value ∙ least_floor-neg c.args.n (unsigned_abs c.args.least) (unsigned_abs c.args.most) in
    simp to_z-of_z (cc)
