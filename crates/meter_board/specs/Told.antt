-- The trace that a board in memory keeps as marks, and the bytes that belong to them, end to end: those that were stored or
-- are a cut's image, and those that were put out.
use Rattle.std.specs.Prelude.{ℕ, List, [], ◌∷◌, take, drop, sum_by}
use Rattle.trace_model.specs.Trace.{Entry, Store, Sync, Missed, Put, Arm, Cut, Trace, ◌▷◌}
use Rattle.meter_board.specs.declared.mark.Mark.{Mark}
use Rattle.meter_board.specs.declared.mark.Mark.TheVariants as marks

-- how many bytes belong to a mark
abbrev pub size_of : Mark → ℕ
size_of (marks.Store at len) = len
size_of marks.Sync = 0
size_of marks.Missed = 0
size_of (marks.Put len) = len
size_of (marks.Arm n keep fill) = 0
size_of (marks.Cut forced len) = len

-- how many of the bytes that were stored, or of the images
abbrev pub stored_of : Mark → ℕ
stored_of (marks.Store at len) = len
stored_of marks.Sync = 0
stored_of marks.Missed = 0
stored_of (marks.Put len) = 0
stored_of (marks.Arm n keep fill) = 0
stored_of (marks.Cut forced len) = len

-- how many of the bytes that were put out
abbrev pub put_of : Mark → ℕ
put_of (marks.Store at len) = 0
put_of marks.Sync = 0
put_of marks.Missed = 0
put_of (marks.Put len) = len
put_of (marks.Arm n keep fill) = 0
put_of (marks.Cut forced len) = 0

abbrev pub stored_by : List Mark → ℕ
stored_by ms = sum_by stored_of ms

abbrev pub put_by : List Mark → ℕ
put_by ms = sum_by put_of ms

-- the entry of a mark with these bytes
abbrev pub entry_with : Mark → List ℕ → Entry
entry_with (marks.Store at len) bytes = Store at bytes
entry_with marks.Sync bytes = Sync
entry_with marks.Missed bytes = Missed
entry_with (marks.Put len) bytes = Put bytes
entry_with (marks.Arm n keep fill) bytes = Arm n keep fill
entry_with (marks.Cut forced len) bytes = Cut forced bytes

-- the entry whose bytes stand first
abbrev pub entry_of : Mark → List ℕ → List ℕ → Entry
entry_of (marks.Store at len) stored output = Store at (take len stored)
entry_of marks.Sync stored output = Sync
entry_of marks.Missed stored output = Missed
entry_of (marks.Put len) stored output = Put (take len output)
entry_of (marks.Arm n keep fill) stored output = Arm n keep fill
entry_of (marks.Cut forced len) stored output = Cut forced (take len stored)

-- the trace goes on by these marks
abbrev pub told : Trace → List Mark → List ℕ → List ℕ → Trace
told t [] stored output = t
told t (m ∷ ms) stored output = told (t ▷ entry_of m stored output) ms (drop (stored_of m) stored) (drop (put_of m) output)
