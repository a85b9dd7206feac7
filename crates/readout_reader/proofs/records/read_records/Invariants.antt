use Rattle.std.proofs.Common.{◌≡◌, ◌≤◌, ◌+◌, ◌*◌, length}
use Rattle.arrayvec.specs.ArrayVec.{array_vec_len}
use Rattle.reading_model.specs.Records.{records_in}
use Rattle.readout_reader.specs.Views.{recs_view}
use Rattle.reading_model.proofs.Spelled.{in_front}
use Rattle.readout_reader.proofs.records.read_records.Given as goal

-- the records so far and those in the rest are those of all the bytes, and there is room
abbrev pub invariant-loop-rest : goal.invariant-loop-rest
invariant-loop-rest l = record {
  said : records_in 0 l.bytes ≡ in_front (recs_view l.records.items) (records_in 0 l.rest);
  room : 4 * array_vec_len l.records + length l.rest ≤ 240;
}

abbrev pub decreases-loop-rest : goal.decreases-loop-rest
decreases-loop-rest l = length l.rest
