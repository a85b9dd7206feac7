use Rattle.std.proofs.Common.{to_z-of_z, rules}
use mir.Syntax.{w128}
use mir.Val.{SFits}
use Rattle.number_model.proofs.Enclosures.{Holds-ratio}
use Rattle.interval_num.proofs.QuotientLemmas.{AreEnds-ratio}
use Rattle.interval_num.proofs.enc.Enc.of_ratio.Goals as goal

pub invariant_of-result : goal.invariant_of-result
invariant_of-result g c =
    let fa : SFits w128 c.args.a = c.ranges.a in
    let fb : SFits w128 c.args.b = c.ranges.b in
    let ff : SFits w128 c.floor_ratio.result = search rules in
    let fc : SFits w128 c.ceil_ratio.result = search rules in
    let low_is = simp to_z-of_z at c.floor_ratio.ensures.value in
    let high_is = simp to_z-of_z at c.ceil_ratio.ensures in
    let good = AreEnds-ratio g.row.S c.args.a c.args.b c.requires.positive c.requires.size in
    record {
      ordered = simp to_z-of_z (rw (low_is, high_is) good.ordered);
      low = simp to_z-of_z (rw low_is good.low);
      high = simp to_z-of_z (rw high_is good.high);
      scale = c.requires.scale;
    }

pub returns-clause-holds : goal.returns-clause-holds
returns-clause-holds g c = λ x p.
    let fa : SFits w128 c.args.a = c.ranges.a in
    let fb : SFits w128 c.args.b = c.ranges.b in
    let ff : SFits w128 c.floor_ratio.result = search rules in
    let fc : SFits w128 c.ceil_ratio.result = search rules in
    let low_is = simp to_z-of_z at c.floor_ratio.ensures.value in
    let high_is = simp to_z-of_z at c.ceil_ratio.ensures in
    simp to_z-of_z (rw (low_is, high_is) (Holds-ratio g.row.S c.args.a c.args.b x c.requires.positive p))
