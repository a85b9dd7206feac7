use Rattle.std.proofs.Common.{◌≡◌, ◌≤◌, ◌+◌, ◌-◌}
use Rattle.arrayvec.specs.ArrayVec.{array_vec_len}
use Rattle.reading_model.specs.Messages.{entries_of, marks_of}
use Rattle.readout_reader.specs.Views.{shown_list}
use Rattle.readout_reader.proofs.Entering.{with_front}
use Rattle.readout_reader.proofs.entries.read_entries.Given as goal

-- the entries so far and those in the rest are those of all the bytes, and there is room
abbrev pub invariant-loop-mark : goal.invariant-loop-mark
invariant-loop-mark l = record {
  said : entries_of (marks_of l.bytes) l.bytes ≡ with_front (shown_list l.entries.items) (entries_of (26 - l.mark) l.rest);
  room : array_vec_len l.entries + 1 ≤ l.mark;
}
