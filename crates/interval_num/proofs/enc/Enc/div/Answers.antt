use Rattle.std.proofs.Common.{arith, to_z-of_z, rules}
use Rattle.std.proofs.lemmas.Int.{ints}
use mir.Syntax.{w128}
use mir.Val.{SFits}
use Rattle.number_model.proofs.Enclosures.{Holds-div}
use Rattle.interval_num.proofs.QuotientLemmas.{least_quotient_is, greatest_quotient_is, EnclosesQuotients-ratios, AreEnds-quotients}
use Rattle.interval_num.proofs.enc.Enc.div.Goals as goal

pub invariant_of-result : goal.invariant_of-result
invariant_of-result g c =
    let fl : SFits w128 c.args.self.lo = omega (arith, ints) in
    let fh : SFits w128 c.args.self.hi = omega (arith, ints) in
    let fm : SFits w128 c.args.o.lo = omega (arith, ints) in
    let fk : SFits w128 c.args.o.hi = omega (arith, ints) in
    let ff : SFits w128 c.least_ratio.result = search rules in
    let fc : SFits w128 c.greatest_ratio.result = search rules in
    let low_is = simp to_z-of_z at c.least_ratio.ensures.value in
    let high_is = simp to_z-of_z at c.greatest_ratio.ensures in
    let ends = AreEnds-quotients g.row.S c.args.self.lo c.args.self.hi c.args.o.lo c.args.o.hi c.args.self.ordered c.requires.positive c.args.o.ordered c.requires.range in
    record {
      ordered = simp to_z-of_z (rw (low_is, high_is) ends.ordered);
      low = simp to_z-of_z (rw low_is ends.low);
      high = simp to_z-of_z (rw high_is ends.high);
      scale = c.args.self.scale;
    }

pub returns-clause-lo : goal.returns-clause-lo
returns-clause-lo g c =
    let fl : SFits w128 c.args.self.lo = omega (arith, ints) in
    let fm : SFits w128 c.args.o.lo = omega (arith, ints) in
    let fk : SFits w128 c.args.o.hi = omega (arith, ints) in
    let ff : SFits w128 c.least_ratio.result = search rules in
    let low_is = simp to_z-of_z at c.least_ratio.ensures.value in
    simp to_z-of_z (rw low_is (least_quotient_is g.row.S _ _ _ _ c.args.self.ordered c.requires.positive c.args.o.ordered))

pub returns-clause-hi : goal.returns-clause-hi
returns-clause-hi g c =
    let fh : SFits w128 c.args.self.hi = omega (arith, ints) in
    let fm : SFits w128 c.args.o.lo = omega (arith, ints) in
    let fk : SFits w128 c.args.o.hi = omega (arith, ints) in
    let fc : SFits w128 c.greatest_ratio.result = search rules in
    let high_is = simp to_z-of_z at c.greatest_ratio.ensures in
    simp to_z-of_z (rw high_is (greatest_quotient_is g.row.S _ _ _ _ c.args.self.ordered c.requires.positive c.args.o.ordered))

pub returns-clause-holds : goal.returns-clause-holds
returns-clause-holds g c = λ x y p q.
    let fl : SFits w128 c.args.self.lo = omega (arith, ints) in
    let fh : SFits w128 c.args.self.hi = omega (arith, ints) in
    let fm : SFits w128 c.args.o.lo = omega (arith, ints) in
    let fk : SFits w128 c.args.o.hi = omega (arith, ints) in
    let ff : SFits w128 c.least_ratio.result = search rules in
    let fc : SFits w128 c.greatest_ratio.result = search rules in
    let low_is = simp to_z-of_z at c.least_ratio.ensures.value in
    let high_is = simp to_z-of_z at c.greatest_ratio.ensures in
    simp to_z-of_z (rw (low_is, high_is) (Holds-div g.row.S _ _ _ _ _ _ x y c.requires.positive (EnclosesQuotients-ratios g.row.S _ _ _ _ c.requires.positive c.args.o.ordered) p q))
