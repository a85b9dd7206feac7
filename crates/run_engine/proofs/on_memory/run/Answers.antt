use Rattle.std.proofs.Common.{◌≡◌, ◌∙◌, ap, arith, subst, sym}
use Rattle.memory_model.specs.Stored.{Holds, stored}
use Rattle.trace_model.specs.Trace.{IsFresh, base_of}
use Rattle.trace_model.proofs.Images.{fresh_image}
use Rattle.billing_memory.specs.Records.{record_view}
use Rattle.meter_config.specs.Views.{config_view}
use Rattle.register_store.specs.Recovered.{side_view}
use Rattle.register_store.specs.Works.{count_of, is_forced_cut}
use Rattle.pairing_model.specs.Setup.{on_memory}
use Rattle.run_engine.specs.OutcomeOnMemory.{OutcomeByMemory}
use Rattle.run_engine.specs.Stops.{ended_unread}
use Rattle.run_engine.proofs.Stops.{memory_unread, unread_not_done, unread_not_read, unread_not_write}
use Rattle.run_engine.proofs.FewLost.{few_lost, no_cut}
use Rattle.run_engine.specs.Progress.{Readiness}
use Rattle.run_engine.proofs.Reading.{over_on, stops_at_read}
use Rattle.run_engine.proofs.Starts.{station_ready, station_settled}
use Rattle.run_engine.proofs.Unanswered.{complete_from, never_foreign, never_unformatted, unread_leaves}
use Rattle.run_engine.proofs.on_memory.run.Goals as goal

pub answer_lines-requires : goal.answer_lines-requires
answer_lines-requires g c = record {
  settled = λ tells.
      station_settled c.in-Ok.config c.in-Ok.opening c.in-Ok.side c.start.result c.start-station.result (g.B.Board.reads c.recover.new.board) (g.B.Board.trace c.recover.new.board)
      c.start.ensures.config c.start.ensures.record c.start-station.ensures.meter c.start-station.ensures.side
      (subst IsFresh (sym (c.recover.ensures.trace tells)) (c.requires tells)) (ap stored (c.recover.ensures.reads tells) ∙ c.in-Ok.ensures.gives tells);
}

pub returns-in-Ok-clause-leaves : goal.returns-in-Ok-clause-leaves
returns-in-Ok-clause-leaves g c = λ reads tells.
    let t = g.B.Board.trace c.args.board.now in
    let base = fresh_image t (g.B.Board.reads c.args.board.now) (c.requires tells) (g.met.B.Board.whole c.args.board.now tells) (g.met.B.Board.possible c.args.board.now tells) in
    let config = config_view c.in-Ok.config in
    let opening = record_view c.in-Ok.opening in
    let held : stored (base_of t) ≡ Holds config opening (side_view c.in-Ok.side) = ap stored (sym base) ∙ c.in-Ok.ensures.gives tells in
    subst (λ m. OutcomeByMemory m (g.S.Source.left c.args.source.now) (g.B.Board.trace c.answer_lines.new.board) c.answer_lines.result) (sym held)
    (over_on config opening (g.S.Source.left c.args.source.now) (g.S.Source.left c.answer_lines.new.source) c.answer_lines.new.answerer (g.B.Board.reads c.answer_lines.new.board) (g.B.Board.trace c.answer_lines.new.board) c.answer_lines.result
    (c.answer_lines.ensures.over reads tells (config, opening)
    (station_ready c.in-Ok.config c.in-Ok.opening c.in-Ok.side c.start.result c.start-station.result (g.B.Board.reads c.recover.new.board) (g.B.Board.trace c.recover.new.board)
    c.start.ensures.config c.start.ensures.record c.start-station.ensures.meter c.start-station.ensures.side
    (subst IsFresh (sym (c.recover.ensures.trace tells)) (c.requires tells)) (ap stored (c.recover.ensures.reads tells) ∙ c.in-Ok.ensures.gives tells)
    (g.S.Source.left c.args.source.now) c.start-station.ensures.head c.start-station.ensures.bus (g.met.B.Board.possible c.recover.new.board tells))))

pub returns-in-Ok-clause-delivered : goal.returns-in-Ok-clause-delivered
returns-in-Ok-clause-delivered g c = λ reads tells is.
    let config = config_view c.in-Ok.config in
    let opening = record_view c.in-Ok.opening in
    let script = g.S.Source.left c.args.source.now in
    let station = c.answer_lines.new.answerer in
    let reads' = g.B.Board.reads c.answer_lines.new.board in
    let u = g.B.Board.trace c.answer_lines.new.board in
    stops_at_read (on_memory config) opening script (g.S.Source.left c.answer_lines.new.source) (record_view station.meter.record) u (λ rest n. Readiness config opening script rest n station reads' u) (λ rest n h. (h.journal, h.progress.progress)) c.answer_lines.result is
    (c.answer_lines.ensures.over reads tells (config, opening)
    (station_ready c.in-Ok.config c.in-Ok.opening c.in-Ok.side c.start.result c.start-station.result (g.B.Board.reads c.recover.new.board) (g.B.Board.trace c.recover.new.board)
    c.start.ensures.config c.start.ensures.record c.start-station.ensures.meter c.start-station.ensures.side
    (subst IsFresh (sym (c.recover.ensures.trace tells)) (c.requires tells)) (ap stored (c.recover.ensures.reads tells) ∙ c.in-Ok.ensures.gives tells)
    (g.S.Source.left c.args.source.now) c.start-station.ensures.head c.start-station.ensures.bus (g.met.B.Board.possible c.recover.new.board tells)))

pub returns-in-Ok-clause-unformatted_unread : goal.returns-in-Ok-clause-unformatted_unread
returns-in-Ok-clause-unformatted_unread g c = λ reads tells byte e.
    let t = g.B.Board.trace c.args.board.now in
    let base = fresh_image t (g.B.Board.reads c.args.board.now) (c.requires tells) (g.met.B.Board.whole c.args.board.now tells) (g.met.B.Board.possible c.args.board.now tells) in
    absurd (never_unformatted (stored (base_of t)) (config_view c.in-Ok.config) (record_view c.in-Ok.opening) (side_view c.in-Ok.side) (g.S.Source.left c.args.source.now) (g.B.Board.trace c.answer_lines.new.board) c.answer_lines.result (ap stored (sym base) ∙ c.in-Ok.ensures.gives tells) (returns-in-Ok-clause-leaves g c reads tells) byte e)

pub returns-in-Ok-clause-foreign_unread : goal.returns-in-Ok-clause-foreign_unread
returns-in-Ok-clause-foreign_unread g c = λ reads tells at e.
    let t = g.B.Board.trace c.args.board.now in
    let base = fresh_image t (g.B.Board.reads c.args.board.now) (c.requires tells) (g.met.B.Board.whole c.args.board.now tells) (g.met.B.Board.possible c.args.board.now tells) in
    absurd (never_foreign (stored (base_of t)) (config_view c.in-Ok.config) (record_view c.in-Ok.opening) (side_view c.in-Ok.side) (g.S.Source.left c.args.source.now) (g.B.Board.trace c.answer_lines.new.board) c.answer_lines.result (ap stored (sym base) ∙ c.in-Ok.ensures.gives tells) (returns-in-Ok-clause-leaves g c reads tells) at e)

pub returns-in-Ok-clause-complete : goal.returns-in-Ok-clause-complete
returns-in-Ok-clause-complete g c = λ reads tells config o side is no_read no_memory no_write.
    complete_from (stored (base_of (g.B.Board.trace c.args.board.now))) config o side (g.S.Source.left c.args.source.now) (g.B.Board.trace c.answer_lines.new.board) c.answer_lines.result is (returns-in-Ok-clause-leaves g c reads tells)
    (λ e. no_read (c.answer_lines.ensures.read e)) (λ e. no_write (omega (arith, c.answer_lines.ensures.write e, c.recover.ensures.cause.later.output))) (λ e. no_memory (omega (arith, c.answer_lines.ensures.memory e, c.recover.ensures.cause.later.memory)))

pub returns-in-Ok-clause-few_lost : goal.returns-in-Ok-clause-few_lost
returns-in-Ok-clause-few_lost g c = λ reads tells config o side j is pairs.
    few_lost (on_memory config) o (g.S.Source.left c.args.source.now) (g.B.Board.trace c.args.board.now) (g.B.Board.trace c.answer_lines.new.board) j (g.B.Board.faults c.args.board.now).cuts (g.B.Board.faults c.answer_lines.new.board).cuts (c.requires tells)
    (λ first enough. c.answer_lines.ensures.goes_on.1 tells first (no_cut (g.B.Board.trace c.args.board.now) (g.B.Board.trace c.recover.new.board) (g.B.Board.faults c.args.board.now).cuts (g.B.Board.faults c.recover.new.board).cuts (ap (count_of is_forced_cut) (c.recover.ensures.trace tells)) c.recover.ensures.cause.later.cuts first enough)) pairs

pub returns-in-Err-clause-few_lost : goal.returns-in-Err-clause-few_lost
returns-in-Err-clause-few_lost g c = λ reads tells config o side j is pairs.
    few_lost (on_memory config) o (g.S.Source.left c.args.source.now) (g.B.Board.trace c.args.board.now) (g.B.Board.trace c.recover.new.board) j (g.B.Board.faults c.args.board.now).cuts (g.B.Board.faults c.recover.new.board).cuts (c.requires tells)
    (no_cut (g.B.Board.trace c.args.board.now) (g.B.Board.trace c.recover.new.board) (g.B.Board.faults c.args.board.now).cuts (g.B.Board.faults c.recover.new.board).cuts (ap (count_of is_forced_cut) (c.recover.ensures.trace tells)) c.recover.ensures.cause.later.cuts) pairs

pub returns-in-Err-clause-leaves : goal.returns-in-Err-clause-leaves
returns-in-Err-clause-leaves g c = λ reads tells.
    let t = g.B.Board.trace c.args.board.now in
    let fresh = c.requires tells in
    let of = g.met.B.Board.possible c.args.board.now tells in
    let base = fresh_image t (g.B.Board.reads c.args.board.now) fresh (g.met.B.Board.whole c.args.board.now tells) of in
    subst (λ e. OutcomeByMemory (stored (base_of t)) (g.S.Source.left c.args.source.now) (g.B.Board.trace c.recover.new.board) e) (sym c.from.ensures)
    (subst (λ u. OutcomeByMemory (stored (base_of t)) (g.S.Source.left c.args.source.now) u (ended_unread c.in-Err.fault)) (sym (c.recover.ensures.trace tells))
    (subst (λ m. OutcomeByMemory m (g.S.Source.left c.args.source.now) t (ended_unread c.in-Err.fault)) (ap stored base)
    (unread_leaves (g.B.Board.reads c.args.board.now) (g.S.Source.left c.args.source.now) t fresh of c.in-Err.fault (c.in-Err.ensures.gives tells))))

pub returns-in-Err-clause-complete : goal.returns-in-Err-clause-complete
returns-in-Err-clause-complete g c = λ reads tells config o side is no_read no_memory no_write.
    complete_from (stored (base_of (g.B.Board.trace c.args.board.now))) config o side (g.S.Source.left c.args.source.now) (g.B.Board.trace c.recover.new.board) c.from.result is (returns-in-Err-clause-leaves g c reads tells)
    (λ e. unread_not_read c.in-Err.fault (sym c.from.ensures ∙ e)) (λ e. unread_not_write c.in-Err.fault (sym c.from.ensures ∙ e)) (λ e. no_memory (memory_unread _ _ c.in-Err.fault c.in-Err.ensures.cause.failed (sym c.from.ensures ∙ e)))

pub returns-in-Err-clause-memory : goal.returns-in-Err-clause-memory
returns-in-Err-clause-memory g c = λ e. memory_unread _ _ c.in-Err.fault c.in-Err.ensures.cause.failed (sym c.from.ensures ∙ e)

pub returns-in-Err-clause-read : goal.returns-in-Err-clause-read
returns-in-Err-clause-read g c = λ e. absurd (unread_not_read c.in-Err.fault (sym c.from.ensures ∙ e))

pub returns-in-Err-clause-write : goal.returns-in-Err-clause-write
returns-in-Err-clause-write g c = λ e. absurd (unread_not_write c.in-Err.fault (sym c.from.ensures ∙ e))

pub returns-in-Err-clause-end : goal.returns-in-Err-clause-end
returns-in-Err-clause-end g c = λ reads tells e. absurd (unread_not_done c.in-Err.fault (sym c.from.ensures ∙ e))

pub returns-in-Err-clause-delivered : goal.returns-in-Err-clause-delivered
returns-in-Err-clause-delivered g c = λ reads tells e. absurd (unread_not_read c.in-Err.fault (sym c.from.ensures ∙ e))
