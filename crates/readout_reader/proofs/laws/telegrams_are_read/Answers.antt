use Rattle.readout_reader.proofs.Written.{telegrams_read}
use Rattle.readout_reader.proofs.laws.telegrams_are_read.Goals as goal

pub returns : goal.returns
returns c = telegrams_read
