use Rattle.std.proofs.Common.{◌≡◌, ◌+◌, ◌*◌, ◌≤◌, pos, ◌-◌, ◌/◌, arith}
use Rattle.std.proofs.lemmas.Int.{ints}
use native.Mathlib.Nat.{mul-le-mul_left}
use Rattle.platinum_model.specs.Element.{scaled_resistance}
use Rattle.platinum_model.proofs.Scaled.{scaled_resistance-unique}
use Rattle.platinum_model.proofs.Fitting.{fitting-steep}
use Rattle.pt_curve.proofs.Bisection.{Between-upper, Between-lower}
use Rattle.pt_curve.specs.Curve.{element}
use Rattle.pt_curve.proofs.curve.Curve.last_step_by_halving.Goals as goal
use Rattle.pt_curve.proofs.curve.Curve.last_step_by_halving.Goals.{then-resist-target, else-resist-target}

pub loop-halving-preserved : goal.loop-halving-preserved
loop-halving-preserved c =
    let middle_in : c.loop-halving.last + (c.loop-halving.past - c.loop-halving.last) / 2 ≤ c.args.steps = omega (arith, c.loop-halving.invariant.order, c.loop-halving.invariant.range) in
    let at : c.resist.result ≡ pos (scaled_resistance (element c.args.self.now) (c.args.step * (c.loop-halving.last + (c.loop-halving.past - c.loop-halving.last) / 2))) =
    scaled_resistance-unique (element c.args.self.now) (c.args.step * (c.loop-halving.last + (c.loop-halving.past - c.loop-halving.last) / 2)) c.resist.result
    (fitting-steep (element c.args.self.now) c.args.self.now.fit).rising
    (omega (arith, c.requires.range, mul-le-mul_left c.args.step middle_in)) c.resist.ensures.exact in
    elim c.if-resist-target.branch [
      | then-resist-target w ↦ rw (w.last-is, w.past-is)
          (Between-upper _ _ _ _ _ _ _ _ c.loop-halving-test.true c.loop-halving.invariant (omega (arith, ints, at, c.resist.ensures.limit, w.if-resist-target.true)))
      | else-resist-target w ↦ rw (w.last-is, w.past-is)
          (Between-lower _ _ _ _ _ _ _ _ c.loop-halving-test.true c.loop-halving.invariant (omega (arith, ints, at, c.resist.ensures.limit, w.if-resist-target.false)))
    ]
