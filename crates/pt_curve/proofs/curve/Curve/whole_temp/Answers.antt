use Rattle.std.proofs.Common.{arith, refl}
use Rattle.std.proofs.lemmas.Int.{ints}
use Rattle.platinum_model.specs.Sample.{IsInRange}
use Rattle.platinum_model.proofs.Curve.{IsRising}
use Rattle.platinum_model.proofs.Samples.{IsInRange-low, IsInRange-high, IsWholeTemp-found}
use Rattle.platinum_model.proofs.Fitting.{fitting-steep}
use Rattle.pt_curve.specs.Curve.{element}
use Rattle.pt_curve.proofs.curve.Curve.whole_temp.Goals as goal

pub last_step-requires-clause-low : goal.last_step-requires-clause-low
last_step-requires-clause-low c =
    let rising : IsRising (element c.args.self.now) = (fitting-steep (element c.args.self.now) c.args.self.now.fit).rising in
    let range : IsInRange (element c.args.self.now) c.args.r = c.if-not-is_in_range.ensures.0 refl in
    omega (arith, ints, c.from.ensures, IsInRange-low (element c.args.self.now) c.args.r rising range)

pub last_step-requires-clause-high : goal.last_step-requires-clause-high
last_step-requires-clause-high c =
    let rising : IsRising (element c.args.self.now) = (fitting-steep (element c.args.self.now) c.args.self.now.fit).rising in
    let range : IsInRange (element c.args.self.now) c.args.r = c.if-not-is_in_range.ensures.0 refl in
    omega (arith, ints, c.from.ensures, IsInRange-high (element c.args.self.now) c.args.r rising range)

pub returns-clause-whole : goal.returns-clause-whole
returns-clause-whole c =
    let rising : IsRising (element c.args.self.now) = (fitting-steep (element c.args.self.now) c.args.self.now.fit).rising in
    IsWholeTemp-found (element c.args.self.now) c.args.r c.last_step.result rising c.last_step.ensures.inside
    (omega (arith, ints, c.from.ensures, c.last_step.ensures.reached))
    (omega (arith, ints, c.from.ensures, c.last_step.ensures.passed))
