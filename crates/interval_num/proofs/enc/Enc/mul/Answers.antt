use Rattle.std.proofs.Common.{arith, to_z-of_z, rules}
use Rattle.std.proofs.lemmas.Int.{ints}
use mir.Val.{SFits}
use mir.Syntax.{w128}
use Rattle.number_model.proofs.Enclosures.{Holds-mul_is}
use Rattle.interval_num.proofs.ProductLemmas.{ProductsWithin-wider, AreEnds-products, Encloses4-products}
use Rattle.interval_num.proofs.enc.Enc.mul.Goals as goal

pub product_floor-requires-clause-range : goal.product_floor-requires-clause-range
product_floor-requires-clause-range g c =
    let fl : SFits w128 c.args.self.lo = omega (arith, ints) in
    let fh : SFits w128 c.args.self.hi = omega (arith, ints) in
    let fm : SFits w128 c.args.o.lo = omega (arith, ints) in
    let fk : SFits w128 c.args.o.hi = omega (arith, ints) in
    simp to_z-of_z (ProductsWithin-wider g.row.S _ _ _ _ c.args.self.scale c.requires.range)

pub product_ceil-requires-clause-range : goal.product_ceil-requires-clause-range
product_ceil-requires-clause-range g c =
    let fl : SFits w128 c.args.self.lo = omega (arith, ints) in
    let fh : SFits w128 c.args.self.hi = omega (arith, ints) in
    let fm : SFits w128 c.args.o.lo = omega (arith, ints) in
    let fk : SFits w128 c.args.o.hi = omega (arith, ints) in
    simp to_z-of_z (ProductsWithin-wider g.row.S _ _ _ _ c.args.self.scale c.requires.range)

pub invariant_of-result : goal.invariant_of-result
invariant_of-result g c =
    let fl : SFits w128 c.args.self.lo = omega (arith, ints) in
    let fh : SFits w128 c.args.self.hi = omega (arith, ints) in
    let fm : SFits w128 c.args.o.lo = omega (arith, ints) in
    let fk : SFits w128 c.args.o.hi = omega (arith, ints) in
    let ff : SFits w128 c.product_floor.result = search rules in
    let fc : SFits w128 c.product_ceil.result = search rules in
    let low_is = simp to_z-of_z at c.product_floor.ensures in
    let high_is = simp to_z-of_z at c.product_ceil.ensures in
    let good = AreEnds-products g.row.S _ _ _ _ c.requires.range in
    record {
      ordered = simp to_z-of_z (rw (low_is, high_is) good.ordered);
      low = simp to_z-of_z (rw low_is good.low);
      high = simp to_z-of_z (rw high_is good.high);
      scale = c.args.self.scale;
    }

pub returns-clause-holds : goal.returns-clause-holds
returns-clause-holds g c = λ x y p q.
    let fl : SFits w128 c.args.self.lo = omega (arith, ints) in
    let fh : SFits w128 c.args.self.hi = omega (arith, ints) in
    let fm : SFits w128 c.args.o.lo = omega (arith, ints) in
    let fk : SFits w128 c.args.o.hi = omega (arith, ints) in
    let ff : SFits w128 c.product_floor.result = search rules in
    let fc : SFits w128 c.product_ceil.result = search rules in
    let low_is = simp to_z-of_z at c.product_floor.ensures in
    let high_is = simp to_z-of_z at c.product_ceil.ensures in
    simp to_z-of_z (Holds-mul_is g.row.S _ _ _ _ _ _ _ _ x y low_is high_is (Encloses4-products g.row.S c.args.self.lo c.args.self.hi c.args.o.lo c.args.o.hi) p q)
