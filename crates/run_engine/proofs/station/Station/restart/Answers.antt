use Rattle.std.proofs.Common.{◌∙◌}
use Rattle.meter_config.specs.Views.{config_view}
use Rattle.billing_memory.specs.Records.{record_view}
use Rattle.run_engine.proofs.PowerFailures.{on_side}
use Rattle.run_engine.proofs.station.Station.restart.Goals as goal

pub returns-in-Ok-tell_recovered-clause-stands : goal.returns-in-Ok-tell_recovered-clause-stands
returns-in-Ok-tell_recovered-clause-stands g c = λ tells.
    on_side (config_view c.in-Ok.config) (record_view c.in-Ok.recovered) c.in-Ok.side c.start-in-Ok.result.side (g.B.Board.reads c.args.board.now) (g.B.Board.reads c.tell_recovered.new.board)
    (c.in-Ok.ensures.gives tells) c.start-in-Ok.ensures.side (c.tell_recovered.ensures.reads tells ∙ c.recover.ensures.reads tells)
