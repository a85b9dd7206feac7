use Rattle.std.proofs.Common.{arith}
use Rattle.std.proofs.lemmas.Grind.{common_steps}
use Rattle.mbus_link.proofs.Parts.{no_other}
use Rattle.mbus_link.proofs.reading.parse.Goals as goal

pub returns-in-104-clause-only : goal.returns-in-104-clause-only
returns-in-104-clause-only c = no_other c.long_frame.result c.args.bytes.now (grind (arith, common_steps))
