use Rattle.std.proofs.Common.{refl, subst}
use Rattle.meter_config.specs.Views.{settings_of}
use Rattle.meter_board.specs.Puts.{PutGives}
use Rattle.run_engine.proofs.Progress.{recovered_text, some_recovered_text}
use Rattle.run_engine.proofs.answers.tell_recovered.Goals as goal

pub show-requires : goal.show-requires
show-requires g c =
    some_recovered_text (settings_of c.args.meter.now.config) c.as_bytes.result.now c.args.meter.now.record
    (recovered_text (settings_of c.args.meter.now.config) c.as_bytes.result.now _ c.args.meter.now.record _ c.args.meter.now.config _ c.as_bytes.ensures c.power_line.ensures c.state.ensures c.config.ensures refl)

pub returns-clause-shows : goal.returns-clause-shows
returns-clause-shows g c = λ tells.
    subst (λ bytes. PutGives (g.B.Board.trace c.args.board.now) bytes c.show.result (g.B.Board.trace c.show.new.board))
    (recovered_text (settings_of c.args.meter.now.config) c.as_bytes.result.now _ c.args.meter.now.record _ c.args.meter.now.config _ c.as_bytes.ensures c.power_line.ensures c.state.ensures c.config.ensures refl)
    (c.show.ensures.gives tells)
