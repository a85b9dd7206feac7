use Rattle.std.proofs.Common.{◌≡◌, ◌≤◌}
use Rattle.trace_model.specs.Trace.{Trace}
use Rattle.meter_cli.specs.Cert.{CertFrom}
use Rattle.meter_cli.specs.declared.status.Status.{Status}
use Rattle.meter_cli.proofs.Certs.{RisesBelow}
use Rattle.meter_cli.proofs.cert.cert.Given as goal

-- what happens to the segments that are left completes what happened to those before, which rise
abbrev pub invariant-loop-segment : goal.invariant-loop-segment
invariant-loop-segment g l = record {
  goes_on : g.B.Board.tells → (new : Trace) (status : Status) → CertFrom l.p_kpa l.segment (g.B.Board.trace l.board) new status → CertFrom l.p_kpa 0 (g.B.Board.trace l.fn.board) new status;
  rising : RisesBelow l.p_kpa l.segment;
  memory_untouched : g.B.Board.memory_calls l.board ≡ g.B.Board.memory_calls l.fn.board;
  later : (g.B.Board.faults l.fn.board).output ≤ (g.B.Board.faults l.board).output;
}
