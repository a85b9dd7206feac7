use Rattle.std.proofs.Common.{◌≡◌, pos, ◌*ℤ◌, arith, to_z, to_z-of_z, rules}
use Rattle.std.proofs.lemmas.Int.{ints}
use mir.Syntax.{w128}
use mir.Val.{SFits}
use Rattle.number_model.proofs.Ints.{≤ℤ_trans}
use Rattle.heat_coeff.proofs.Quotients.{AreDivisors-products, unsigned_abs-product, IsNumerator-product}
use Rattle.heat_coeff.proofs.quotient.quotient_ends.Goals as goal

pub floor_quotient-requires : goal.floor_quotient-requires
floor_quotient-requires c =
    let fv : SFits w128 c.args.volume.lo = omega (arith, ints) in
    let fw : SFits w128 c.args.volume.hi = omega (arith, ints) in
    let em : to_z w128 c.args.m ≡ pos c.args.m = omega (arith, ints) in
    let d = AreDivisors-products c.args.volume.lo c.args.volume.hi c.args.m c.requires.positive c.args.volume.ordered c.args.volume.high c.requires.divisor c.ranges.m.fits in
    let fp : SFits w128 (c.args.volume.lo *ℤ pos c.args.m) = d.low_fits in
    let fq : SFits w128 (c.args.volume.hi *ℤ pos c.args.m) = d.high_fits in
    let fg : SFits w128 c.args.given.lo = omega (arith, ints) in
    let ek : to_z w128 c.args.k ≡ pos c.args.k = omega (arith, ints) in
    let n = IsNumerator-product c.args.given.lo c.args.k c.requires.factor c.requires.low (≤ℤ_trans c.args.given.ordered c.requires.high) in
    let fn : SFits w128 (c.args.given.lo *ℤ pos c.args.k) = n.fits in
    record {
      num = simp (to_z-of_z, ek) n.within;
      positive = simp (to_z-of_z, em) d.above;
      ordered = simp (to_z-of_z, em) d.ordered;
    }

pub ceil_quotient-requires : goal.ceil_quotient-requires
ceil_quotient-requires c =
    let fv : SFits w128 c.args.volume.lo = omega (arith, ints) in
    let fw : SFits w128 c.args.volume.hi = omega (arith, ints) in
    let em : to_z w128 c.args.m ≡ pos c.args.m = omega (arith, ints) in
    let d = AreDivisors-products c.args.volume.lo c.args.volume.hi c.args.m c.requires.positive c.args.volume.ordered c.args.volume.high c.requires.divisor c.ranges.m.fits in
    let fp : SFits w128 (c.args.volume.lo *ℤ pos c.args.m) = d.low_fits in
    let fq : SFits w128 (c.args.volume.hi *ℤ pos c.args.m) = d.high_fits in
    let fg : SFits w128 c.args.given.hi = omega (arith, ints) in
    let ek : to_z w128 c.args.k ≡ pos c.args.k = omega (arith, ints) in
    let n = IsNumerator-product c.args.given.hi c.args.k c.requires.factor (≤ℤ_trans c.requires.low c.args.given.ordered) c.requires.high in
    let fn : SFits w128 (c.args.given.hi *ℤ pos c.args.k) = n.fits in
    record {
      num = simp (to_z-of_z, ek) n.within;
      positive = simp (to_z-of_z, em) d.above;
      ordered = simp (to_z-of_z, em) d.ordered;
    }

pub overflow_mul-given-2 : goal.overflow_mul-given-2
overflow_mul-given-2 c =
    let fg : SFits w128 c.args.given.hi = omega (arith, ints) in
    let ek : to_z w128 c.args.k ≡ pos c.args.k = omega (arith, ints) in
    let n = IsNumerator-product c.args.given.hi c.args.k c.requires.factor (≤ℤ_trans c.requires.low c.args.given.ordered) c.requires.high in
    let fn : SFits w128 (c.args.given.hi *ℤ pos c.args.k) = n.fits in
    simp (to_z-of_z, ek) fn

pub returns-clause-lo : goal.returns-clause-lo
returns-clause-lo c =
    let fv : SFits w128 c.args.volume.lo = omega (arith, ints) in
    let fw : SFits w128 c.args.volume.hi = omega (arith, ints) in
    let em : to_z w128 c.args.m ≡ pos c.args.m = omega (arith, ints) in
    let d = AreDivisors-products c.args.volume.lo c.args.volume.hi c.args.m c.requires.positive c.args.volume.ordered c.args.volume.high c.requires.divisor c.ranges.m.fits in
    let fp : SFits w128 (c.args.volume.lo *ℤ pos c.args.m) = d.low_fits in
    let fq : SFits w128 (c.args.volume.hi *ℤ pos c.args.m) = d.high_fits in
    let fg : SFits w128 c.args.given.lo = omega (arith, ints) in
    let ek : to_z w128 c.args.k ≡ pos c.args.k = omega (arith, ints) in
    let n = IsNumerator-product c.args.given.lo c.args.k c.requires.factor c.requires.low (≤ℤ_trans c.args.given.ordered c.requires.high) in
    let fn : SFits w128 (c.args.given.lo *ℤ pos c.args.k) = n.fits in
    let fr : SFits w128 c.floor_quotient.result = search rules in
    let low_is = unsigned_abs-product c.args.volume.lo c.args.m c.requires.positive in
    let high_is = unsigned_abs-product c.args.volume.hi c.args.m (≤ℤ_trans c.requires.positive c.args.volume.ordered) in
    let value = simp (to_z-of_z, em, ek, low_is, high_is) at c.floor_quotient.ensures.value in
    simp to_z-of_z value

pub returns-clause-hi : goal.returns-clause-hi
returns-clause-hi c =
    let fv : SFits w128 c.args.volume.lo = omega (arith, ints) in
    let fw : SFits w128 c.args.volume.hi = omega (arith, ints) in
    let em : to_z w128 c.args.m ≡ pos c.args.m = omega (arith, ints) in
    let d = AreDivisors-products c.args.volume.lo c.args.volume.hi c.args.m c.requires.positive c.args.volume.ordered c.args.volume.high c.requires.divisor c.ranges.m.fits in
    let fp : SFits w128 (c.args.volume.lo *ℤ pos c.args.m) = d.low_fits in
    let fq : SFits w128 (c.args.volume.hi *ℤ pos c.args.m) = d.high_fits in
    let fg : SFits w128 c.args.given.hi = omega (arith, ints) in
    let ek : to_z w128 c.args.k ≡ pos c.args.k = omega (arith, ints) in
    let n = IsNumerator-product c.args.given.hi c.args.k c.requires.factor (≤ℤ_trans c.requires.low c.args.given.ordered) c.requires.high in
    let fn : SFits w128 (c.args.given.hi *ℤ pos c.args.k) = n.fits in
    let fr : SFits w128 c.ceil_quotient.result = search rules in
    let low_is = unsigned_abs-product c.args.volume.lo c.args.m c.requires.positive in
    let high_is = unsigned_abs-product c.args.volume.hi c.args.m (≤ℤ_trans c.requires.positive c.args.volume.ordered) in
    let value = simp (to_z-of_z, em, ek, low_is, high_is) at c.ceil_quotient.ensures in
    simp to_z-of_z value
