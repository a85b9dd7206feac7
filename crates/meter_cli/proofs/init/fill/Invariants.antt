use Rattle.std.proofs.Common.{◌≡◌, ◌≤◌, ◌-◌, ◌++◌, length, take}
use Rattle.meter_cli.proofs.init.fill.Given as goal

-- what was read, and what is left
abbrev pub invariant-loop-filled : goal.invariant-loop-filled
invariant-loop-filled g l = record {
  size : length l.into ≡ length l.fn.into;
  fits : l.filled ≤ length l.into;
  bytes : g.S.Source.tells → g.S.Source.left l.fn.source ≡ take l.filled l.into ++ g.S.Source.left l.source;
  later : g.S.Source.faults l.fn.source ≤ g.S.Source.faults l.source;
}

abbrev pub decreases-loop-filled : goal.decreases-loop-filled
decreases-loop-filled g l = length l.into - l.filled
