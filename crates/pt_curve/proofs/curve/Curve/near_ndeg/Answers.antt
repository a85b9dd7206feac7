use Rattle.std.proofs.Common.{arith}
use Rattle.pt_curve.specs.Curve.{element}
use Rattle.platinum_model.proofs.Fitting.{AreFitting, fitting}
use Rattle.pt_curve.proofs.FittingCurve.{bend_small, bend_square}
use Rattle.pt_curve.proofs.curve.Curve.near_ndeg.Goals as goal

pub overflow_mul-bend-2 : goal.overflow_mul-bend-2
overflow_mul-bend-2 c =
    let ranges : AreFitting (element c.args.self.now) = fitting (element c.args.self.now) c.args.self.now.fit in
    omega (arith, bend_square c.from-b.result c.min-chord_udeg.result (omega (arith, c.from-b.ensures, ranges.b_most)) (omega (arith, c.min-chord_udeg.ensures)))

pub overflow_sub-a-2 : goal.overflow_sub-a-2
overflow_sub-a-2 c =
    let ranges : AreFitting (element c.args.self.now) = fitting (element c.args.self.now) c.args.self.now.fit in
    omega (arith, c.from-a.ensures, ranges.a_least, bend_small c.from-b.result c.min-chord_udeg.result (omega (arith, c.from-b.ensures, ranges.b_most)) (omega (arith, c.min-chord_udeg.ensures)))

pub nonzero_div-rest : goal.nonzero_div-rest
nonzero_div-rest c =
    let ranges : AreFitting (element c.args.self.now) = fitting (element c.args.self.now) c.args.self.now.fit in
    omega (arith, c.from-a.ensures, ranges.a_least, bend_small c.from-b.result c.min-chord_udeg.result (omega (arith, c.from-b.ensures, ranges.b_most)) (omega (arith, c.min-chord_udeg.ensures)))
