use Rattle.std.proofs.Common.{lit<}
use Rattle.region1_terms.proofs.Temperatures.{x_holds, x_spread, Sized-hull, hull_low}
use Rattle.region1_terms.proofs.pressure.PressureVariable.at.Goals as goal

pub invariant_of-result : goal.invariant_of-result
invariant_of-result c =
    let lo = c.x_eighth_at.ensures.lo in
    let hi = c.x_eighth_at.ensures.hi in
    record {
      holds = rw (lo, hi) (x_holds c.args.pressure c.requires.high);
      sized = λ d. rw (lo, hi) (Sized-hull _ _ _ _ _ _ _ _ _ (x_spread c.args.pressure d c.requires.low c.requires.high));
      low = rw lo (hull_low _ _ (lit< tt));
    }
