use Rattle.std.proofs.Common.{arith}
use Rattle.reading_model.proofs.Taken.{places_near}
use Rattle.readout_reader.proofs.message.read_optical.Goals as goal

pub overflow_sub-result : goal.overflow_sub-result
overflow_sub-result c = (places_near c.args.bytes.now c.in-Err.e.left c.in-Err.ensures).0

pub overflow_cast-result : goal.overflow_cast-result
overflow_cast-result c = omega (arith, places_near c.args.bytes.now c.in-Err.e.left c.in-Err.ensures)
