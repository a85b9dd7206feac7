use Rattle.std.proofs.Common.{arith}
use Rattle.std.proofs.lemmas.Int.{ints}
use Rattle.pt_curve.specs.Curve.{element}
use Rattle.pt_curve.proofs.FittingCurve.{rise_bounds}
use Rattle.pt_curve.proofs.curve.Curve.rise.Goals as goal

pub returns-clause-least : goal.returns-clause-least
returns-clause-least c =
    let bounds = rise_bounds (element c.args.self.now) c.args.near c.args.self.now.fit c.requires in
    rw (c.from.ensures, c.from-a.ensures, c.from-b.ensures, c.from-2.ensures) (omega (arith, ints, bounds.0, bounds.1))

pub returns-clause-most : goal.returns-clause-most
returns-clause-most c =
    let bounds = rise_bounds (element c.args.self.now) c.args.near c.args.self.now.fit c.requires in
    rw (c.from.ensures, c.from-a.ensures, c.from-b.ensures, c.from-2.ensures) (omega (arith, ints, bounds.0, bounds.1))
