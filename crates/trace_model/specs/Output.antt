-- The output of a board: its bytes, its lines, and what happened before each line.
use Rattle.std.specs.Prelude.{ℕ, Bool, false, cond, List, [], ◌∷◌, ◌++◌, ◌==◌}
use Rattle.trace_model.specs.Trace.{Entry, Store, Sync, Missed, Put, Arm, Cut, Trace, Start, ◌▷◌}

-- the bytes that an entry put out
abbrev pub bytes_put : Entry → List ℕ
bytes_put (Put bytes) = bytes
bytes_put (Store at bytes) = []
bytes_put Sync = []
bytes_put Missed = []
bytes_put (Arm n keep fill) = []
bytes_put (Cut forced image) = []

-- all bytes that went out
abbrev pub output_of : Trace → List ℕ
output_of (Start base) = []
output_of (t ▷ e) = output_of t ++ bytes_put e

-- the last byte is LF (10)
abbrev pub ends_line : List ℕ → Bool
ends_line [] = false
ends_line (c ∷ []) = c == 10
ends_line (c ∷ d ∷ ds) = ends_line (d ∷ ds)

-- an output line goes out whole, by one put
abbrev pub is_output_line : Entry → Bool
is_output_line e = ends_line (bytes_put e)

-- an output line, and its segment: the entries between the output line before it and itself
pub record OutputLine : Type 0 where
  pub segment : List Entry
  pub text : List ℕ

-- the entries after the last output line
abbrev pub open_segment : Trace → List Entry
open_segment (Start base) = []
open_segment (t ▷ e) = cond (is_output_line e) [] (open_segment t ++ e ∷ [])

-- the output lines, each with its segment
abbrev pub output_lines : Trace → List OutputLine
output_lines (Start base) = []
output_lines (t ▷ e) = cond (is_output_line e) (output_lines t ++ record { segment = open_segment t; text = bytes_put e } ∷ []) (output_lines t)

-- nothing happened but that bytes went out
abbrev pub PutsAlone : Trace → Type 0
PutsAlone (Start base) = Unit {0}
PutsAlone (t ▷ Put bytes) = PutsAlone t
PutsAlone (t ▷ Store at bytes) = ⊥
PutsAlone (t ▷ Sync) = ⊥
PutsAlone (t ▷ Missed) = ⊥
PutsAlone (t ▷ Arm n keep fill) = ⊥
PutsAlone (t ▷ Cut forced image) = ⊥
