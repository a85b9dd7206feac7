use Rattle.std.proofs.Common.{◌+◌, subst, sym}
use Rattle.config_model.specs.Configuration.{Configuration}
use Rattle.event_script.specs.Views.{line_view}
use Rattle.optical_readout.specs.Heard.{Heard}
use Rattle.mbus_records.specs.State.{IsAfter}
use Rattle.run_engine.specs.OutcomeOnMemory.{OutcomeOnMemory}
use Rattle.run_engine.specs.Stops.{ended_by}
use Rattle.event_script.specs.Next.{SaysAt}
use Rattle.run_engine.proofs.NextOrOutcome.{bytes_lead, message_leads, order_leads, order_stops}
use Rattle.run_engine.proofs.station.StationAnswerer.answer.Goals as goal

pub returns-in-Metering-clause-leads : goal.returns-in-Metering-clause-leads
returns-in-Metering-clause-leads g c = λ tells opening script rest line after taken ready first says.
    c.answer_event.ensures.leads tells opening.0 opening.1 script rest line after taken ready first (subst (λ said. SaysAt taken line (line_view said c.args.message.now)) c.in-Metering.is says)

pub returns-in-Ok-clause-leads : goal.returns-in-Ok-clause-leads
returns-in-Ok-clause-leads g c = λ tells opening script rest line after taken ready first says.
    c.in-Ok.ensures.leads tells opening.0 opening.1 script rest line after taken ready first (subst (λ said. SaysAt taken line (line_view said c.args.message.now)) c.in-Power.is says)

pub returns-in-Err-clause-leads : goal.returns-in-Err-clause-leads
returns-in-Err-clause-leads g c = λ tells opening script rest line after taken ready first says.
    c.in-Err.ensures.leads tells opening.0 opening.1 script rest line after taken ready first (subst (λ said. SaysAt taken line (line_view said c.args.message.now)) c.in-Power.is says)

pub returns-in-Ok-order_cut-clause-leads : goal.returns-in-Ok-order_cut-clause-leads
returns-in-Ok-order_cut-clause-leads g c = λ tells opening script rest line after taken ready first says.
    order_leads ready first ready.config
    (g.B.Board.trace c.order_cut.new.board) (g.B.Board.reads c.order_cut.new.board) (c.order_cut.ensures.reads tells) (g.met.B.Board.possible c.order_cut.new.board tells)
    c.in-Cut.n c.in-Cut.keep c.in-Cut.fill (subst (λ said. SaysAt taken line (line_view said c.args.message.now)) c.in-Cut.is says) (c.in-Ok-order_cut.ensures.gives tells)

pub returns-in-Err-order_cut-clause-leads : goal.returns-in-Err-order_cut-clause-leads
returns-in-Err-order_cut-clause-leads g c = λ tells opening script rest line after taken ready first says.
    subst (λ stop. OutcomeOnMemory opening.0 opening.1 script (g.B.Board.trace c.order_cut.new.board) (ended_by (taken + 1) stop)) (sym c.from.ensures)
    (order_stops ready first ready.config
    (g.B.Board.trace c.order_cut.new.board) (g.B.Board.reads c.order_cut.new.board) (c.order_cut.ensures.reads tells) (g.met.B.Board.possible c.order_cut.new.board tells)
    c.in-Cut.n c.in-Cut.keep c.in-Cut.fill c.in-Err-order_cut.fault (subst (λ said. SaysAt taken line (line_view said c.args.message.now)) c.in-Cut.is says) (c.in-Err-order_cut.ensures.gives tells))

pub returns-in-Ok-answer_message-clause-leads : goal.returns-in-Ok-answer_message-clause-leads
returns-in-Ok-answer_message-clause-leads g c = λ tells opening script rest line after taken ready first says.
    message_leads ready first ready.config
    (g.B.Board.trace c.answer_message.new.board) (g.B.Board.reads c.answer_message.new.board) (c.answer_message.ensures.reads tells) (g.met.B.Board.possible c.answer_message.new.board tells)
    c.args.message.now c.answer_message.new.optical _ (subst (λ said. SaysAt taken line (line_view said c.args.message.now)) c.in-Opt.is says) c.answer_message.ensures.heard
    (c.in-Ok-answer_message.ensures.shows tells ready.journal.last_message (subst (λ (k : Configuration). Heard k ready.journal.last_message c.args.self.now.optical) ready.config ready.head))

pub returns-in-Err-answer_message-clause-leads : goal.returns-in-Err-answer_message-clause-leads
returns-in-Err-answer_message-clause-leads g c = λ tells opening script rest line after taken ready first says.
    message_leads ready first ready.config
    (g.B.Board.trace c.answer_message.new.board) (g.B.Board.reads c.answer_message.new.board) (c.answer_message.ensures.reads tells) (g.met.B.Board.possible c.answer_message.new.board tells)
    c.args.message.now c.answer_message.new.optical _ (subst (λ said. SaysAt taken line (line_view said c.args.message.now)) c.in-Opt.is says) c.answer_message.ensures.heard
    (c.in-Err-answer_message.ensures.shows tells ready.journal.last_message (subst (λ (k : Configuration). Heard k ready.journal.last_message c.args.self.now.optical) ready.config ready.head))

pub returns-in-Ok-answer_bytes-clause-leads : goal.returns-in-Ok-answer_bytes-clause-leads
returns-in-Ok-answer_bytes-clause-leads g c = λ tells opening script rest line after taken ready first says.
    bytes_lead ready first ready.config
    (g.B.Board.trace c.answer_bytes.new.board) (g.B.Board.reads c.answer_bytes.new.board) (c.answer_bytes.ensures.reads tells) (g.met.B.Board.possible c.answer_bytes.new.board tells)
    c.args.message.now c.answer_bytes.new.slave _ (subst (λ said. SaysAt taken line (line_view said c.args.message.now)) c.in-Mbus.is says)
    (c.in-Ok-answer_bytes.ensures.shows tells ready.journal.frames (subst (λ (k : Configuration). IsAfter k ready.journal.frames c.args.self.now.slave) ready.config ready.bus))

pub returns-in-Err-answer_bytes-clause-leads : goal.returns-in-Err-answer_bytes-clause-leads
returns-in-Err-answer_bytes-clause-leads g c = λ tells opening script rest line after taken ready first says.
    bytes_lead ready first ready.config
    (g.B.Board.trace c.answer_bytes.new.board) (g.B.Board.reads c.answer_bytes.new.board) (c.answer_bytes.ensures.reads tells) (g.met.B.Board.possible c.answer_bytes.new.board tells)
    c.args.message.now c.answer_bytes.new.slave _ (subst (λ said. SaysAt taken line (line_view said c.args.message.now)) c.in-Mbus.is says)
    (c.in-Err-answer_bytes.ensures.shows tells ready.journal.frames (subst (λ (k : Configuration). IsAfter k ready.journal.frames c.args.self.now.slave) ready.config ready.bus))

pub returns-in-Ok-answer_message-clause-goes_on : goal.returns-in-Ok-answer_message-clause-goes_on
returns-in-Ok-answer_message-clause-goes_on g c = ((λ tells. (c.answer_message.ensures.goes_on tells).base), (λ tells. (c.answer_message.ensures.goes_on tells).counted))

pub returns-in-Err-answer_message-clause-goes_on : goal.returns-in-Err-answer_message-clause-goes_on
returns-in-Err-answer_message-clause-goes_on g c = ((λ tells. (c.answer_message.ensures.goes_on tells).base), (λ tells. (c.answer_message.ensures.goes_on tells).counted))
