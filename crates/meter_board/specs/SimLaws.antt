-- The memory of a board in memory had its size at first.
use Rattle.std.specs.Prelude.{◌≡◌, ℕ, List, [], ◌∷◌, length, drop, refl}
use Rattle.std.proofs.Common.{ap, ◌∙◌}
use Rattle.trace_model.specs.Images.{memory_size}
use Rattle.trace_model.specs.Trace.{Trace, Start, ◌▷◌, base_of}
use Rattle.meter_board.specs.declared.mark.Mark.{Mark}
use Rattle.meter_board.specs.declared.sim_board.SimBoard.{SimBoard}
use Rattle.meter_board.specs.Told.{stored_of, put_of, entry_of, told}
use Rattle.meter_board.specs.Sim.{sim_trace}

pub base_of-told : (t : Trace) (ms : List Mark) (stored output : List ℕ) → base_of (told t ms stored output) ≡ base_of t
base_of-told t [] stored output = refl
base_of-told t (m ∷ ms) stored output = base_of-told (t ▷ entry_of m stored output) ms (drop (stored_of m) stored) (drop (put_of m) output)

pub sim_whole : (b : SimBoard) → length (base_of (sim_trace b)) ≡ memory_size
sim_whole b = ap length (base_of-told (Start b.history.base.items) b.history.marks.items b.history.stored.items b.history.output.items) ∙ b.history.base_whole
