-- What a contract sees of a history in memory.
use Rattle.std.specs.Prelude.{ℕ, ◌+◌, ◌<◌, ◌≤◌, vec_len}
use Rattle.trace_model.specs.Trace.{Trace, Start}
use Rattle.meter_board.specs.declared.history.History.{History}
use Rattle.meter_board.specs.Told.{told}

abbrev pub history_trace : History → Trace
history_trace h = told (Start h.base.items) h.marks.items h.stored.items h.output.items

-- an entry of so many bytes fits
pub record HistoryHasRoom (h : History) (count : ℕ) : Type 0 where
  pub entries : vec_len h.marks < h.entry_room
  pub bytes : vec_len h.stored + vec_len h.output + count ≤ h.byte_room

-- two entries of so many bytes together fit
pub record HistoryHasRoomForTwo (h : History) (count : ℕ) : Type 0 where
  pub entries : vec_len h.marks + 2 ≤ h.entry_room
  pub bytes : vec_len h.stored + vec_len h.output + count ≤ h.byte_room
