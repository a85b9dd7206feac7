use Rattle.std.proofs.Common.{◌≡◌, pos, arith, lit≤}
use Rattle.std.proofs.lemmas.Int.{ints}
use Rattle.platinum_model.specs.Element.{scaled_resistance}
use Rattle.platinum_model.proofs.Curve.{IsRising}
use Rattle.platinum_model.proofs.Scaled.{scaled_resistance-unique}
use Rattle.platinum_model.proofs.Samples.{IsInRange-found, IsInRange-low, IsInRange-high}
use Rattle.platinum_model.proofs.Fitting.{fitting-steep}
use Rattle.pt_curve.proofs.Tests.{below_top}
use Rattle.pt_curve.specs.Curve.{element}
use Rattle.pt_curve.proofs.curve.Curve.is_in_range.Goals as goal

pub returns-then-low-resistance : goal.returns-then-low-resistance
returns-then-low-resistance c =
    let rising : IsRising (element c.args.self.now) = (fitting-steep (element c.args.self.now) c.args.self.now.fit).rising in
    let low : c.resist-low.result ≡ pos (scaled_resistance (element c.args.self.now) 0) =
    scaled_resistance-unique (element c.args.self.now) 0 c.resist-low.result rising (lit≤ tt) c.resist-low.ensures.exact in
    let high : c.resist-high.result ≡ pos (scaled_resistance (element c.args.self.now) 180000000000) =
    scaled_resistance-unique (element c.args.self.now) 180000000000 c.resist-high.result rising (lit≤ tt) c.resist-high.ensures.exact in
    let top = below_top c.args.r (scaled_resistance (element c.args.self.now) 180000000000) c.from-resistance.result c.resist-high.result c.ranges.r.fits c.from-resistance.ensures high c.resist-high.ensures.limit in (
      λ t. IsInRange-found (element c.args.self.now) c.args.r rising
          (omega (arith, ints, low, c.resist-low.ensures.limit, c.from-resistance.ensures, c.if-low-resistance.true)) (top.0 t),
      λ h. top.1 (IsInRange-high (element c.args.self.now) c.args.r rising h),
    )

pub returns-else-low-resistance : goal.returns-else-low-resistance
returns-else-low-resistance c =
    let rising : IsRising (element c.args.self.now) = (fitting-steep (element c.args.self.now) c.args.self.now.fit).rising in
    let low : c.resist-low.result ≡ pos (scaled_resistance (element c.args.self.now) 0) =
    scaled_resistance-unique (element c.args.self.now) 0 c.resist-low.result rising (lit≤ tt) c.resist-low.ensures.exact in (
      λ t. absurd (grind (arith, ints, low, c.resist-low.ensures.limit, c.from-resistance.ensures, c.if-low-resistance.false, t)),
      λ h. grind (arith, ints, low, c.resist-low.ensures.limit, c.from-resistance.ensures, IsInRange-low (element c.args.self.now) c.args.r rising h),
    )
