use Rattle.std.proofs.Common.{refl, subst}
use Rattle.meter_config.specs.Views.{settings_of}
use Rattle.meter_board.specs.Puts.{PutGives}
use Rattle.run_engine.proofs.Progress.{some_text, text_of}
use Rattle.run_engine.proofs.answers.acknowledge.Goals as goal

pub show-requires : goal.show-requires
show-requires g c =
    some_text (settings_of c.args.meter.now.config) c.as_bytes.result.now c.args.meter.now.record
    (text_of (settings_of c.args.meter.now.config) c.as_bytes.result.now _ c.args.meter.now.record _ c.args.meter.now.config _ c.as_bytes.ensures c.ok_line.ensures c.state.ensures c.config.ensures refl)

pub returns-clause-shows : goal.returns-clause-shows
returns-clause-shows g c = λ tells.
    subst (λ bytes. PutGives (g.B.Board.trace c.args.board.now) bytes c.show.result (g.B.Board.trace c.show.new.board))
    (text_of (settings_of c.args.meter.now.config) c.as_bytes.result.now _ c.args.meter.now.record _ c.args.meter.now.config _ c.as_bytes.ensures c.ok_line.ensures c.state.ensures c.config.ensures refl)
    (c.show.ensures.gives tells)
