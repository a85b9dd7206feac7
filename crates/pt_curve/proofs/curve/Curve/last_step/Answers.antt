use Rattle.std.proofs.Common.{arith, ◌*◌}
use Rattle.std.proofs.lemmas.Int.{ints}
use Rattle.pt_curve.specs.Curve.{element}
use Rattle.pt_curve.proofs.FittingCurve.{scaled_resistance-limit}
use Rattle.pt_curve.proofs.curve.Curve.last_step.Goals as goal

pub tangent_ndeg-requires-clause-high : goal.tangent_ndeg-requires-clause-high
tangent_ndeg-requires-clause-high c =
    omega (arith, ints, c.requires.high, scaled_resistance-limit (element c.args.self.now) (c.args.step * c.args.steps) c.args.self.now.fit c.requires.range)
