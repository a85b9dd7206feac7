use Rattle.std.proofs.Common.{◌≡◌, ◌≤◌, drop}
use Rattle.trace_model.specs.Trace.{Trace}
use Rattle.meter_cli.specs.Puts.{PutsLines}
use Rattle.answer_lines.specs.Texts.{bytes_of}
use Rattle.meter_cli.specs.declared.status.Status.{Status}
use Rattle.meter_cli.proofs.puts.put_lines.Given as goal

-- what happens to the lines that are left completes what happened to those before
abbrev pub invariant-loop-line : goal.invariant-loop-line
invariant-loop-line g l = record {
  goes_on : g.B.Board.tells → (new : Trace) (status : Status) → PutsLines (bytes_of (drop l.line-index l.lines)) (g.B.Board.trace l.board) new status → PutsLines (bytes_of l.lines) (g.B.Board.trace l.fn.board) new status;
  memory_untouched : g.B.Board.memory_calls l.board ≡ g.B.Board.memory_calls l.fn.board;
  later : (g.B.Board.faults l.fn.board).output ≤ (g.B.Board.faults l.board).output;
}
