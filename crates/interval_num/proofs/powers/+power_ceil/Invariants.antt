use Rattle.interval_num.proofs.powers.+power_ceil.Given as goal

abbrev pub decreases-power_ceil : goal.decreases-power_ceil
decreases-power_ceil l = l.n
