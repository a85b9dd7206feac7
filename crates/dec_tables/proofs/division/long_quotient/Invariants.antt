use Rattle.std.proofs.Common.{◌≡◌, ◌+◌, ◌*◌, ◌^◌, ◌-◌, ◌<◌, ◌≤◌}
use Rattle.dec_tables.proofs.division.long_quotient.Given as goal

abbrev pub invariant-loop-left : goal.invariant-loop-left
invariant-loop-left l = record {
  exact : l.whole * l.d + l.rest ≡ l.m * 2 ^ (l.shift - l.left);
  rest : l.rest < l.d;
  left : l.left ≤ l.shift;
}

abbrev pub decreases-loop-left : goal.decreases-loop-left
decreases-loop-left l = l.left
