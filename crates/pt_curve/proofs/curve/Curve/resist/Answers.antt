use Rattle.platinum_model.specs.Element.{scaled_resistance}
use Rattle.pt_curve.specs.Curve.{element}
use Rattle.pt_curve.proofs.FittingCurve.{scaled_resistance-cast, scaled_resistance-cast_limit}
use Rattle.pt_curve.proofs.curve.Curve.resist.Goals as goal

pub returns-clause-exact : goal.returns-clause-exact
unfolding scaled_resistance
returns-clause-exact c =
    rw (c.from.ensures, c.from-t.ensures, c.from-a.ensures, c.from-b.ensures) (scaled_resistance-cast (element c.args.self.now) c.args.t_ndeg c.args.self.now.fit c.requires)

pub returns-clause-limit : goal.returns-clause-limit
unfolding scaled_resistance
returns-clause-limit c =
    rw (c.from.ensures, c.from-t.ensures, c.from-a.ensures, c.from-b.ensures) (scaled_resistance-cast_limit (element c.args.self.now) c.args.t_ndeg c.args.self.now.fit c.requires)
