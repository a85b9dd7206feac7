use Rattle.std.proofs.Common.{arith, ap, length, lit<}
use Rattle.meter_cli.proofs.Keys.{name_short}
use Rattle.meter_cli.proofs.status.key_line.Goals as goal

pub push_str-requires : goal.push_str-requires
push_str-requires c = (lit< tt, omega (arith, ap length c.fixed-line.ensures, ap length c.key_name.ensures, name_short c.args.key, c.requires))
