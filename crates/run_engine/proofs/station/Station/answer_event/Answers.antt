use Rattle.std.proofs.Common.{◌∙◌, Ok, Err, ap, subst}
use Rattle.billing_memory.specs.Records.{record_view}
use Rattle.event_script.specs.Views.{event_view}
use Rattle.register_store.specs.Recovered.{side_view}
use Rattle.run_engine.specs.Steps.{HoldGives}
use Rattle.run_engine.proofs.NextOrOutcome.{cut_leads, event_refused, hold_stops, show_leads, show_stops}
use Rattle.run_engine.proofs.station.Station.answer_event.Goals as goal

pub returns-in-Err-clause-leads : goal.returns-in-Err-clause-leads
returns-in-Err-clause-leads g c = λ tells config o script rest line after taken ready first says.
    event_refused ready first ready.config
    (event_view c.args.event.now) says c.in-Err.kind c.in-Err.ensures.takes

pub returns-in-Ok-acknowledge-clause-leads : goal.returns-in-Ok-acknowledge-clause-leads
returns-in-Ok-acknowledge-clause-leads g c = λ tells config o script rest line after taken ready first says.
    show_leads ready first ready.config
    (event_view c.args.event.now) says c.take_event.new.meter c.take_event.ensures.config c.in-Ok.ensures.takes.0 c.in-Ok.ensures.takes.1
    (g.B.Board.trace c.hold.new.board) (g.B.Board.reads c.hold.new.board) c.in-Ok-hold.side
    (c.in-Ok-hold.ensures.holds tells config (record_view c.args.self.now.meter.record) ready.progress.holds)
    (g.B.Board.trace c.acknowledge.new.board) (g.B.Board.reads c.acknowledge.new.board) (c.acknowledge.ensures.reads tells) (g.met.B.Board.possible c.acknowledge.new.board tells) (c.in-Ok-acknowledge.ensures.shows tells)

pub returns-in-Err-acknowledge-clause-leads : goal.returns-in-Err-acknowledge-clause-leads
returns-in-Err-acknowledge-clause-leads g c = λ tells config o script rest line after taken ready first says.
    show_stops ready first ready.config
    (event_view c.args.event.now) says c.take_event.new.meter c.take_event.ensures.config c.in-Ok.ensures.takes.0 c.in-Ok.ensures.takes.1
    (g.B.Board.trace c.hold.new.board) (g.B.Board.reads c.hold.new.board) c.in-Ok-hold.side
    (c.in-Ok-hold.ensures.holds tells config (record_view c.args.self.now.meter.record) ready.progress.holds)
    (g.B.Board.trace c.acknowledge.new.board) (g.B.Board.reads c.acknowledge.new.board) (c.acknowledge.ensures.reads tells) (g.met.B.Board.possible c.acknowledge.new.board tells) (c.in-Err-acknowledge.ensures.shows tells)

pub returns-in-Err-Failed-clause-leads : goal.returns-in-Err-Failed-clause-leads
returns-in-Err-Failed-clause-leads g c = λ tells config o script rest line after taken ready first says.
    hold_stops ready first ready.config
    (event_view c.args.event.now) says c.take_event.new.meter c.take_event.ensures.config c.in-Ok.ensures.takes.0 c.in-Ok.ensures.takes.1
    (g.B.Board.trace c.hold.new.board) (g.B.Board.reads c.hold.new.board) (subst (λ e. HoldGives config (side_view c.args.self.now.side) (record_view c.args.self.now.meter.record) (record_view c.take_event.new.meter.record) (g.B.Board.trace c.args.board.now) (Err e) (g.B.Board.trace c.hold.new.board) (g.B.Board.reads c.hold.new.board)) c.in-Err-Failed.field-0-is
    (c.in-Err-Failed.ensures.holds tells config (record_view c.args.self.now.meter.record) ready.progress.holds))

pub returns-in-Ok-restart-clause-leads : goal.returns-in-Ok-restart-clause-leads
returns-in-Ok-restart-clause-leads g c = λ tells config o script rest line after taken ready first says.
    cut_leads ready first ready.config
    (event_view c.args.event.now) says c.take_event.new.meter c.take_event.ensures.config c.in-Ok.ensures.takes.0 c.in-Ok.ensures.takes.1
    (g.B.Board.trace c.hold.new.board) (g.B.Board.reads c.hold.new.board) (subst (λ e. HoldGives config (side_view c.args.self.now.side) (record_view c.args.self.now.meter.record) (record_view c.take_event.new.meter.record) (g.B.Board.trace c.args.board.now) (Err e) (g.B.Board.trace c.hold.new.board) (g.B.Board.reads c.hold.new.board)) c.in-Err-Cut.field-0-is
    (c.in-Err-Cut.ensures.holds tells config (record_view c.args.self.now.meter.record) ready.progress.holds)) (g.met.B.Board.possible c.hold.new.board tells)
    {T = Unit {0}} c.restart.new.self (g.B.Board.trace c.restart.new.board) (g.B.Board.reads c.restart.new.board) (Ok c.in-Ok-restart.field-0) (c.restart.ensures.reads tells) (g.met.B.Board.possible c.restart.new.board tells) (c.in-Ok-restart.ensures.gives tells)

pub returns-in-Err-restart-clause-leads : goal.returns-in-Err-restart-clause-leads
returns-in-Err-restart-clause-leads g c = λ tells config o script rest line after taken ready first says.
    cut_leads ready first ready.config
    (event_view c.args.event.now) says c.take_event.new.meter c.take_event.ensures.config c.in-Ok.ensures.takes.0 c.in-Ok.ensures.takes.1
    (g.B.Board.trace c.hold.new.board) (g.B.Board.reads c.hold.new.board) (subst (λ e. HoldGives config (side_view c.args.self.now.side) (record_view c.args.self.now.meter.record) (record_view c.take_event.new.meter.record) (g.B.Board.trace c.args.board.now) (Err e) (g.B.Board.trace c.hold.new.board) (g.B.Board.reads c.hold.new.board)) c.in-Err-Cut.field-0-is
    (c.in-Err-Cut.ensures.holds tells config (record_view c.args.self.now.meter.record) ready.progress.holds)) (g.met.B.Board.possible c.hold.new.board tells)
    {T = Unit {0}} c.restart.new.self (g.B.Board.trace c.restart.new.board) (g.B.Board.reads c.restart.new.board) (Err c.in-Err-restart.halt) (c.restart.ensures.reads tells) (g.met.B.Board.possible c.restart.new.board tells) (c.in-Err-restart.ensures.gives tells)

pub returns-in-Ok-acknowledge-clause-goes_on : goal.returns-in-Ok-acknowledge-clause-goes_on
returns-in-Ok-acknowledge-clause-goes_on g c = λ tells. record {
  base = (c.acknowledge.ensures.goes_on tells).base ∙ (c.hold.ensures.goes_on tells).base;
  counted = λ first enough. (c.acknowledge.ensures.goes_on tells).counted first ((c.hold.ensures.goes_on tells).counted first enough);
  settled = λ none. (c.in-Ok-acknowledge.ensures.goes_on tells).settled ((c.in-Ok-hold.ensures.goes_on tells).settled none);
}

pub returns-in-Err-acknowledge-clause-goes_on : goal.returns-in-Err-acknowledge-clause-goes_on
returns-in-Err-acknowledge-clause-goes_on g c = λ tells. record {
  base = (c.acknowledge.ensures.goes_on tells).base ∙ (c.hold.ensures.goes_on tells).base;
  counted = λ first enough. (c.acknowledge.ensures.goes_on tells).counted first ((c.hold.ensures.goes_on tells).counted first enough);
  settled = λ none. tt;
}

pub returns-in-Ok-restart-clause-goes_on : goal.returns-in-Ok-restart-clause-goes_on
returns-in-Ok-restart-clause-goes_on g c = λ tells. record {
  base = (c.restart.ensures.goes_on tells).base ∙ (c.hold.ensures.goes_on tells).base;
  counted = λ first enough. (c.restart.ensures.goes_on tells).counted first ((c.hold.ensures.goes_on tells).counted first enough);
  settled = λ none. (c.in-Ok-restart.ensures.goes_on tells).settled (c.in-Err-Cut.ensures.cut_settled tells (ap Err c.in-Err-Cut.field-0-is));
}

pub returns-in-Err-restart-clause-goes_on : goal.returns-in-Err-restart-clause-goes_on
returns-in-Err-restart-clause-goes_on g c = λ tells. record {
  base = (c.restart.ensures.goes_on tells).base ∙ (c.hold.ensures.goes_on tells).base;
  counted = λ first enough. (c.restart.ensures.goes_on tells).counted first ((c.hold.ensures.goes_on tells).counted first enough);
  settled = λ none. tt;
}
