use Rattle.meter_cli.proofs.Further.{further_message}
use Rattle.meter_cli.proofs.readout.message.Goals as goal

pub returns-clause-decides : goal.returns-clause-decides
returns-clause-decides c = λ rest many. further_message c.args.bytes.now rest many
