use Rattle.std.proofs.Common.{◌∙◌, ap, ◌/◌}
use Rattle.dec_tables.proofs.Divisions.{next_quotient}
use Rattle.dec_tables.proofs.division.repeated_quotient.Goals as goal

pub loop-i-preserved : goal.loop-i-preserved
loop-i-preserved c = ap (λ t. t / c.args.d) c.loop-i.invariant ∙ next_quotient c.args.q c.args.d c.loop-i._i
