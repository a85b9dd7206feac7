use Rattle.std.proofs.Common.{◌^◌, ◌-◌}
use Rattle.pt_curve.proofs.Bisection.{Between}
use Rattle.pt_curve.specs.Curve.{element}
use Rattle.pt_curve.proofs.curve.Curve.last_step_by_halving.Given as goal

abbrev pub invariant-loop-halving : goal.invariant-loop-halving
invariant-loop-halving l = Between (element l.self) l.target l.step l.steps (2 ^ (l.halvings - l._halving)) l.last l.past
