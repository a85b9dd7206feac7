use Rattle.interval_num.proofs.powers.+power_floor.Given as goal

abbrev pub decreases-power_floor : goal.decreases-power_floor
decreases-power_floor l = l.n
