use Rattle.std.proofs.Common.{arith, to_z-of_z, rules}
use Rattle.std.proofs.lemmas.Int.{ints}
use mir.Syntax.{w128}
use mir.Val.{SFits}
use Rattle.number_model.proofs.Enclosures.{Holds-scale}
use Rattle.interval_num.proofs.EndsLemmas.{AreEnds-scaled}
use Rattle.interval_num.proofs.enc.Enc.scale_to.Goals as goal

pub invariant_of-result : goal.invariant_of-result
invariant_of-result g c =
    let fl : SFits w128 c.args.self.lo = omega (arith, ints) in
    let fh : SFits w128 c.args.self.hi = omega (arith, ints) in
    let ff : SFits w128 c.scale_floor.result = search rules in
    let fc : SFits w128 c.scale_ceil.result = search rules in
    let low_is = simp to_z-of_z at c.scale_floor.ensures in
    let high_is = simp to_z-of_z at c.scale_ceil.ensures in
    let ends = AreEnds-scaled g.row.S g.row.T c.args.self.lo c.args.self.hi c.args.self.ordered c.requires.low c.requires.high in
    record {
      ordered = simp to_z-of_z (rw (low_is, high_is) ends.ordered);
      low = simp to_z-of_z (rw low_is ends.low);
      high = simp to_z-of_z (rw high_is ends.high);
      scale = c.requires.scale;
    }

pub returns-clause-holds : goal.returns-clause-holds
returns-clause-holds g c = λ x p.
    let fl : SFits w128 c.args.self.lo = omega (arith, ints) in
    let fh : SFits w128 c.args.self.hi = omega (arith, ints) in
    let ff : SFits w128 c.scale_floor.result = search rules in
    let fc : SFits w128 c.scale_ceil.result = search rules in
    let low_is = simp to_z-of_z at c.scale_floor.ensures in
    let high_is = simp to_z-of_z at c.scale_ceil.ensures in
    simp to_z-of_z (rw (low_is, high_is) (Holds-scale g.row.S g.row.T _ _ x p))
