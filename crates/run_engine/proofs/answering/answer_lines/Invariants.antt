use Rattle.std.proofs.Common.{◌≡◌, ◌-◌, ◌≤◌, ◌++◌, false}
use Rattle.event_script.specs.Held.{held}
use Rattle.meter_board.specs.Causes.{OnlyRises}
use Rattle.run_engine.proofs.answering.answer_lines.Given as goal

abbrev pub invariant-loop-said : goal.invariant-loop-said
invariant-loop-said g l = record {
  ready : g.S.Source.tells → g.B.Board.tells → (opening : g.A.Answerer.Opening) → g.A.Answerer.Readiness l.fn.answerer l.fn.board opening (g.S.Source.left l.fn.source) (g.S.Source.left l.fn.source) 0
      → g.A.Answerer.Readiness l.answerer l.board opening (g.S.Source.left l.fn.source) (held l.lines.buffer ++ g.S.Source.left l.source) l.lines.given;
  settled : g.A.Answerer.IsSettled l.answerer l.board;
  goes_on : g.A.Answerer.GoesOn l.fn.board l.board;
  fresh : l.lines.has_ended ≡ false;
  faults : g.S.Source.faults l.fn.source ≤ g.S.Source.faults l.source;
  board_faults : OnlyRises (g.B.Board.faults l.fn.board) (g.B.Board.faults l.board);
}

abbrev pub decreases-loop-said : goal.decreases-loop-said
decreases-loop-said g l = 1000000 - l.lines.given
