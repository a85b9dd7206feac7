use Rattle.reading_model.proofs.WrittenMessages.{message_whole}
use Rattle.readout_reader.proofs.laws.data_messages_are_read.Goals as goal

pub returns : goal.returns
returns c = message_whole
