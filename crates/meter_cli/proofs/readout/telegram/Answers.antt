use Rattle.std.proofs.Common.{arith}
use Rattle.meter_cli.proofs.Readings.{further}
use Rattle.meter_cli.proofs.readout.telegram.Goals as goal

pub returns-clause-decides : goal.returns-clause-decides
returns-clause-decides c = λ rest many. further c.args.bytes.now rest (omega (arith, c.type_inv.bytes 1)) many
