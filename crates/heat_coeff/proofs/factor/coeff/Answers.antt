use Rattle.std.proofs.Common.{◌≡◌, ◌-◌, ◌*◌, ◌^◌, ◌<◌, ◌≤◌, pos, ◌*ℤ◌, ◌≤ℤ◌, arith, unsigned_abs, to_z-of_z, rules}
use Rattle.std.proofs.lemmas.Int.{ints}
use Rattle.std.proofs.Math.Nat.{mul-pos}
use mir.Syntax.{w128}
use mir.Val.{SFits}
use lib.IntN.{◌-ℤ◌}
use Rattle.number_model.proofs.Ints.{mul-le_pos}
use Rattle.platinum_model.specs.Element.{microdegrees}
use Rattle.heat_model.specs.Heat.{heat_coefficient}
use Rattle.heat_coeff.specs.Quotients.{least_floor, greatest_ceil}
use Rattle.heat_coeff.proofs.Quotients.{ends_ordered}
use Rattle.heat_coeff.proofs.Widths.{factor_ends}
use Rattle.heat_coeff.proofs.Holding.{factor_between, SpanHolds-point}
use Rattle.heat_coeff.proofs.factor.coeff.Goals as goal

pub returns-clause-holds : goal.returns-clause-holds
unfolding heat_coefficient
returns-clause-holds c =
    let fl : SFits w128 c.quotient_ends-ends.result.lo = search rules in
    let fh : SFits w128 c.quotient_ends-ends.result.hi = search rules in
    let above : pos 1 ≤ℤ c.metered_volume-volume.result.lo = omega (arith, ints, c.metered_volume-volume.ensures.least) in
    let flow = SpanHolds-point c.point-f.result.span.lo c.point-f.result.span.hi c.args.tf_udeg (omega arith) (omega arith) in
    let ret = SpanHolds-point c.point-r.result.span.lo c.point-r.result.span.hi c.args.tr_udeg (omega arith) (omega arith) in
    let lo_is : c.quotient_ends-ends.result.lo ≡ least_floor (c.heat_given-given.result.lo *ℤ pos 256000000000000) (unsigned_abs c.metered_volume-volume.result.lo * (c.args.tf_udeg - c.args.tr_udeg)) (unsigned_abs c.metered_volume-volume.result.hi * (c.args.tf_udeg - c.args.tr_udeg)) = cc in
    let hi_is : c.quotient_ends-ends.result.hi ≡ greatest_ceil (c.heat_given-given.result.hi *ℤ pos 256000000000000) (unsigned_abs c.metered_volume-volume.result.lo * (c.args.tf_udeg - c.args.tr_udeg)) (unsigned_abs c.metered_volume-volume.result.hi * (c.args.tf_udeg - c.args.tr_udeg)) = cc in
    simp to_z-of_z (rw (lo_is, hi_is)
    (factor_between c.args.tf_udeg c.args.tr_udeg (c.args.tf_udeg - c.args.tr_udeg) _ _ _ _ _ _ (omega arith) (omega arith) above c.metered_volume-volume.result.ordered
    (c.heat_given-given.ensures.holds (microdegrees c.args.tf_udeg) (microdegrees c.args.tr_udeg) flow ret)
    (c.metered_volume-volume.ensures.holds (microdegrees c.args.tf_udeg) (microdegrees c.args.tr_udeg) flow ret)))

pub returns-clause-ordered : goal.returns-clause-ordered
returns-clause-ordered c =
    let fl : SFits w128 c.quotient_ends-ends.result.lo = search rules in
    let fh : SFits w128 c.quotient_ends-ends.result.hi = search rules in
    let volume : 0 < unsigned_abs c.metered_volume-volume.result.lo = omega (arith, ints, c.metered_volume-volume.ensures.least) in
    let apart : 0 < c.args.tf_udeg - c.args.tr_udeg = omega arith in
    let lo_is : c.quotient_ends-ends.result.lo ≡ least_floor (c.heat_given-given.result.lo *ℤ pos 256000000000000) (unsigned_abs c.metered_volume-volume.result.lo * (c.args.tf_udeg - c.args.tr_udeg)) (unsigned_abs c.metered_volume-volume.result.hi * (c.args.tf_udeg - c.args.tr_udeg)) = cc in
    let hi_is : c.quotient_ends-ends.result.hi ≡ greatest_ceil (c.heat_given-given.result.hi *ℤ pos 256000000000000) (unsigned_abs c.metered_volume-volume.result.lo * (c.args.tf_udeg - c.args.tr_udeg)) (unsigned_abs c.metered_volume-volume.result.hi * (c.args.tf_udeg - c.args.tr_udeg)) = cc in
    simp to_z-of_z (rw (lo_is, hi_is)
    (ends_ordered (c.heat_given-given.result.lo *ℤ pos 256000000000000) (c.heat_given-given.result.hi *ℤ pos 256000000000000) _ _ (mul-pos volume apart) (mul-le_pos 256000000000000 c.heat_given-given.result.ordered)))

pub returns-clause-closer : goal.returns-clause-closer
returns-clause-closer c =
    let fl : SFits w128 c.quotient_ends-ends.result.lo = search rules in
    let fh : SFits w128 c.quotient_ends-ends.result.hi = search rules in
    let flow : c.point-f.result.span.hi - c.point-f.result.span.lo ≤ 0 = omega (arith, c.point-f.ensures.lo, c.point-f.ensures.hi) in
    let ret : c.point-r.result.span.hi - c.point-r.result.span.lo ≤ 0 = omega (arith, c.point-r.ensures.lo, c.point-r.ensures.hi) in
    let narrow : ((c.heat_given-given.result.hi -ℤ c.heat_given-given.result.lo) *ℤ pos (10 ^ 9)) ≤ℤ pos (74 * 2 ^ 48) = omega (arith, ints, c.heat_given-given.ensures.width, flow, ret) in
    let lo_is : c.quotient_ends-ends.result.lo ≡ least_floor (c.heat_given-given.result.lo *ℤ pos 256000000000000) (unsigned_abs c.metered_volume-volume.result.lo * (c.args.tf_udeg - c.args.tr_udeg)) (unsigned_abs c.metered_volume-volume.result.hi * (c.args.tf_udeg - c.args.tr_udeg)) = cc in
    let hi_is : c.quotient_ends-ends.result.hi ≡ greatest_ceil (c.heat_given-given.result.hi *ℤ pos 256000000000000) (unsigned_abs c.metered_volume-volume.result.lo * (c.args.tf_udeg - c.args.tr_udeg)) (unsigned_abs c.metered_volume-volume.result.hi * (c.args.tf_udeg - c.args.tr_udeg)) = cc in
    simp to_z-of_z (rw (lo_is, hi_is)
    (factor_ends (c.args.tf_udeg - c.args.tr_udeg) _ _ _ _ (omega arith) c.metered_volume-volume.result.ordered c.metered_volume-volume.ensures.least
    (c.metered_volume-volume.ensures.width 0 flow ret)
    c.heat_given-given.result.ordered c.heat_given-given.ensures.least c.heat_given-given.ensures.most narrow).0)

pub returns-clause-width : goal.returns-clause-width
returns-clause-width c =
    let fl : SFits w128 c.quotient_ends-ends.result.lo = search rules in
    let fh : SFits w128 c.quotient_ends-ends.result.hi = search rules in
    let flow : c.point-f.result.span.hi - c.point-f.result.span.lo ≤ 0 = omega (arith, c.point-f.ensures.lo, c.point-f.ensures.hi) in
    let ret : c.point-r.result.span.hi - c.point-r.result.span.lo ≤ 0 = omega (arith, c.point-r.ensures.lo, c.point-r.ensures.hi) in
    let narrow : ((c.heat_given-given.result.hi -ℤ c.heat_given-given.result.lo) *ℤ pos (10 ^ 9)) ≤ℤ pos (74 * 2 ^ 48) = omega (arith, ints, c.heat_given-given.ensures.width, flow, ret) in
    let lo_is : c.quotient_ends-ends.result.lo ≡ least_floor (c.heat_given-given.result.lo *ℤ pos 256000000000000) (unsigned_abs c.metered_volume-volume.result.lo * (c.args.tf_udeg - c.args.tr_udeg)) (unsigned_abs c.metered_volume-volume.result.hi * (c.args.tf_udeg - c.args.tr_udeg)) = cc in
    let hi_is : c.quotient_ends-ends.result.hi ≡ greatest_ceil (c.heat_given-given.result.hi *ℤ pos 256000000000000) (unsigned_abs c.metered_volume-volume.result.lo * (c.args.tf_udeg - c.args.tr_udeg)) (unsigned_abs c.metered_volume-volume.result.hi * (c.args.tf_udeg - c.args.tr_udeg)) = cc in
    simp to_z-of_z (rw (lo_is, hi_is)
    (factor_ends (c.args.tf_udeg - c.args.tr_udeg) _ _ _ _ (omega arith) c.metered_volume-volume.result.ordered c.metered_volume-volume.ensures.least
    (c.metered_volume-volume.ensures.width 0 flow ret)
    c.heat_given-given.result.ordered c.heat_given-given.ensures.least c.heat_given-given.ensures.most narrow).1)
