use Rattle.std.proofs.Common.{subst, sym}
use Rattle.trace_model.specs.Trace.{Trace}
use Rattle.trace_model.specs.Images.{IsImage}
use Rattle.run_engine.specs.OutcomeOnMemory.{OutcomeOnMemory}
use Rattle.run_engine.specs.Steps.{RestartGives}
use Rattle.run_engine.specs.declared.Ended.TheVariants.{Memory}
use Rattle.run_engine.proofs.NextOrOutcome.{power_leads, power_stops}
use Rattle.run_engine.proofs.station.Station.answer_power.Goals as goal

pub returns-in-Ok-clause-leads : goal.returns-in-Ok-clause-leads
returns-in-Ok-clause-leads g c = λ tells config o script rest line after taken ready first says.
    let gives = c.in-Ok.ensures.gives tells in
    let reads = g.B.Board.reads c.power.new.self in
    power_leads ready first ready.config says
    reads (subst (λ (u : Trace). IsImage u reads) gives.0 (g.met.B.Board.possible c.power.new.self tells)) gives.1 c.restart.new.self (g.B.Board.trace c.restart.new.board) (g.B.Board.reads c.restart.new.board) c.restart.result
    (c.restart.ensures.reads tells) (g.met.B.Board.possible c.restart.new.board tells)
    (subst (λ (u : Trace). RestartGives reads u c.restart.new.self (g.B.Board.trace c.restart.new.board) c.restart.result) gives.0 (c.restart.ensures.gives tells))

pub returns-in-Err-clause-leads : goal.returns-in-Err-clause-leads
returns-in-Err-clause-leads g c = λ tells config o script rest line after taken ready first says.
    let gives = c.in-Err.ensures.gives tells in
    subst (λ (u : Trace). OutcomeOnMemory config o script u Memory) (sym gives.0)
    (power_stops ready first ready.config says)
