use Rattle.std.proofs.Common.{lit<, lit≤}
use Rattle.region1_terms.specs.Variables.{y_size}
use Rattle.if97_region1.proofs.Facts.{coarser}
use Rattle.if97_region1.proofs.Scales.{room_at_48, zero_at_48, one_at_48}
use Rattle.if97_region1.proofs.variables.at_48.Goals as goal

pub scale_to-requires : goal.scale_to-requires
scale_to-requires c =
    let r = room_at_48 c.args.e.lo c.args.e.hi c.requires.low c.requires.high in
    (lit< tt, (lit< tt, (lit≤ tt, (r.0, r.1))))

pub returns-clause-low : goal.returns-clause-low
returns-clause-low c = rw c.scale_to.ensures.lo (zero_at_48 c.args.e.lo c.requires.low)

pub returns-clause-high : goal.returns-clause-high
returns-clause-high c = rw c.scale_to.ensures.hi (one_at_48 c.args.e.hi c.requires.high)

pub returns-clause-sized : goal.returns-clause-sized
returns-clause-sized c = λ d z. rw (c.scale_to.ensures.lo, c.scale_to.ensures.hi) (coarser 56 48 (lit≤ tt) y_size d c.args.e.lo c.args.e.hi z)
