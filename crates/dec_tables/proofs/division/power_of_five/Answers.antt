use Rattle.std.proofs.Common.{arith}
use Rattle.dec_tables.proofs.Divisions.{five_small}
use Rattle.dec_tables.proofs.division.power_of_five.Goals as goal

pub pow-requires : goal.pow-requires
pow-requires c = omega (arith, five_small c.args.n c.requires)
