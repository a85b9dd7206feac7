use Rattle.reading_model.proofs.Mended.{number_mended, same_mended, serial_mended}
use Rattle.reading_model.proofs.MendedDays.{day_mended}
use Rattle.readout_reader.proofs.laws.an_end_can_be_mended.Goals as goal

pub returns-clause-serial : goal.returns-clause-serial
returns-clause-serial c = serial_mended

pub returns-clause-number : goal.returns-clause-number
returns-clause-number c = number_mended

pub returns-clause-day : goal.returns-clause-day
returns-clause-day c = day_mended

pub returns-clause-second_day : goal.returns-clause-second_day
returns-clause-second_day c = same_mended
