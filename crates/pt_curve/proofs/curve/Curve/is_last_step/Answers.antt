use Rattle.std.proofs.Common.{◌≡◌, ◌+◌, ◌*◌, ◌≤◌, pos, arith}
use Rattle.std.proofs.lemmas.Int.{ints, to_z-of_z}
use Rattle.std.specs.Int.{w128}
use native.Mathlib.Nat.{mul-le-mul_left}
use Rattle.platinum_model.specs.Element.{scaled_resistance}
use Rattle.platinum_model.proofs.Scaled.{scaled_resistance-unique}
use Rattle.platinum_model.proofs.Fitting.{fitting-steep}
use Rattle.pt_curve.proofs.Tests.{below, at_most}
use Rattle.pt_curve.specs.Curve.{element}
use Rattle.pt_curve.proofs.curve.Curve.is_last_step.Goals as goal

pub returns-then-here-target : goal.returns-then-here-target
returns-then-here-target c =
    let e = element c.args.self.now in
    let next_in : c.args.k + 1 ≤ c.args.steps = omega (arith, c.if-k-steps.false) in
    let here_at : c.args.step * c.args.k ≤ 180000000000 = omega (arith, c.requires, mul-le-mul_left c.args.step next_in) in
    let next_at : c.args.step * (c.args.k + 1) ≤ 180000000000 = omega (arith, c.requires, mul-le-mul_left c.args.step next_in) in
    let here : c.resist-here.result ≡ pos (scaled_resistance e (c.args.step * c.args.k)) =
    scaled_resistance-unique e (c.args.step * c.args.k) c.resist-here.result (fitting-steep e c.args.self.now.fit).rising here_at c.resist-here.ensures.exact in
    let next : c.resist-next.result ≡ pos (scaled_resistance e (c.args.step * (c.args.k + 1))) =
    scaled_resistance-unique e (c.args.step * (c.args.k + 1)) c.resist-next.result (fitting-steep e c.args.self.now.fit).rising next_at c.resist-next.ensures.exact in
    let test = below c.args.target c.resist-next.result _ (to_z-of_z w128 c.args.target c.ranges.target) next c.resist-next.ensures.limit in (
      λ t. record {
        inside = omega (arith, next_in);
        reached = omega (arith, ints, here, c.resist-here.ensures.limit, c.if-here-target.true);
        passed = test.0 t;
      },
      λ h. test.1 h.passed,
    )

pub returns-else-here-target : goal.returns-else-here-target
returns-else-here-target c =
    let e = element c.args.self.now in
    let next_in : c.args.k + 1 ≤ c.args.steps = omega (arith, c.if-k-steps.false) in
    let here_at : c.args.step * c.args.k ≤ 180000000000 = omega (arith, c.requires, mul-le-mul_left c.args.step next_in) in
    let here : c.resist-here.result ≡ pos (scaled_resistance e (c.args.step * c.args.k)) =
    scaled_resistance-unique e (c.args.step * c.args.k) c.resist-here.result (fitting-steep e c.args.self.now.fit).rising here_at c.resist-here.ensures.exact in
    let test = at_most c.args.target c.resist-here.result _ (to_z-of_z w128 c.args.target c.ranges.target) here c.resist-here.ensures.limit in (
      λ t. absurd (omega (arith, ints, here, c.resist-here.ensures.limit, c.if-here-target.false, test.0 t)),
      λ h. test.1 h.reached,
    )
