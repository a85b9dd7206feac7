use Rattle.std.proofs.Common.{◌-◌, take}
use Rattle.enclosure_sizes.specs.Size.{SizedBy}
use Rattle.dec_tables.specs.Sizes.{total_size}
use Rattle.slope_cert.specs.Curvature.{curvature_size}
use Rattle.slope_cert.proofs.Sums.{ChangesHeld}
use Rattle.slope_cert.proofs.curvature.curvature_sum.Given as goal

abbrev pub invariant-loop-term : goal.invariant-loop-term
invariant-loop-term l = record {
  holds : ChangesHeld l.x.pressure l.v.span.lo l.v.span.hi (take l.term-index l.term-items) l.sum.lo l.sum.hi;
  size : SizedBy (total_size curvature_size (take l.term-index l.term-items)) (l.v.span.hi - l.v.span.lo) l.sum.lo l.sum.hi;
}
