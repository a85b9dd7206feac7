use Rattle.std.proofs.Common.{◌≡◌, ◌∙◌, subst, take, Ok}
use Rattle.reading_model.specs.Messages.{message_in}
use Rattle.readout_reader.specs.Views.{message_view}
use Rattle.meter_cli.specs.Puts.{PutsLines}
use Rattle.answer_lines.specs.ReadLines.{AreMessageLines}
use Rattle.answer_lines.specs.Texts.{bytes_of}
use Rattle.answer_lines.proofs.Legible.{legible}
use Rattle.meter_cli.proofs.Lines.{alone_lines, lines_base}
use Rattle.meter_cli.proofs.Readings.{decides, answered, unread, refused, left_said, left_refused}
use Rattle.meter_cli.proofs.readout.optical.Goals as goal

pub message_lines-requires : goal.message_lines-requires
message_lines-requires g c = legible (take c.in-Ok.len c.fill.new.into) (message_view c.in-Ok-message.fields) c.in-Ok-message.ensures.said

pub returns-in-Ok-message-clause-leaves : goal.returns-in-Ok-message-clause-leaves
returns-in-Ok-message-clause-leaves g c = λ told tells.
    let said : message_in (g.S.Source.left c.args.source.now) ≡ Ok (message_view c.in-Ok-message.fields) = decides message_in 2049 c.fill.new.into _ _ c.in-Ok.len c.in-Ok.ensures.size c.in-Ok.ensures.fits c.message.ensures.decides (c.in-Ok.ensures.bytes told) (c.in-Ok.ensures.end told) ∙ c.in-Ok-message.ensures.said in
    let lines = bytes_of c.message_lines.result.items in
    left_said AreMessageLines (message_in (g.S.Source.left c.args.source.now)) (message_view c.in-Ok-message.fields) lines (g.B.Board.trace c.args.board.now) (g.B.Board.trace c.put_lines.new.board) c.put_lines.result said c.message_lines.ensures.lines
    (subst (λ ls. PutsLines (bytes_of ls) (g.B.Board.trace c.args.board.now) (g.B.Board.trace c.put_lines.new.board) c.put_lines.result) c.as_slice.ensures.value (c.put_lines.ensures.puts tells))

pub returns-in-Ok-message-clause-alone : goal.returns-in-Ok-message-clause-alone
returns-in-Ok-message-clause-alone g c = λ tells alone.
    alone_lines (bytes_of c.as_slice.result.now) (g.B.Board.trace c.args.board.now) (g.B.Board.trace c.put_lines.new.board) c.put_lines.result (c.put_lines.ensures.puts tells) alone

pub returns-in-Ok-message-clause-base : goal.returns-in-Ok-message-clause-base
returns-in-Ok-message-clause-base g c = λ tells.
    lines_base (bytes_of c.as_slice.result.now) (g.B.Board.trace c.args.board.now) (g.B.Board.trace c.put_lines.new.board) c.put_lines.result (c.put_lines.ensures.puts tells)

pub returns-in-Ok-message-clause-answers : goal.returns-in-Ok-message-clause-answers
returns-in-Ok-message-clause-answers g c = λ told.
    answered (message_in (g.S.Source.left c.args.source.now)) (message_view c.in-Ok-message.fields) c.put_lines.result
    (decides message_in 2049 c.fill.new.into _ _ c.in-Ok.len c.in-Ok.ensures.size c.in-Ok.ensures.fits c.message.ensures.decides (c.in-Ok.ensures.bytes told) (c.in-Ok.ensures.end told) ∙ c.in-Ok-message.ensures.said) c.put_lines.ensures.kind

pub returns-in-Err-message-clause-leaves : goal.returns-in-Err-message-clause-leaves
returns-in-Err-message-clause-leaves g c = λ told tells.
    left_refused AreMessageLines (message_in (g.S.Source.left c.args.source.now)) c.in-Err-message.place.at (g.B.Board.trace c.args.board.now)
    (decides message_in 2049 c.fill.new.into _ _ c.in-Ok.len c.in-Ok.ensures.size c.in-Ok.ensures.fits c.message.ensures.decides (c.in-Ok.ensures.bytes told) (c.in-Ok.ensures.end told) ∙ c.in-Err-message.ensures.said)

pub returns-in-Err-message-clause-answers : goal.returns-in-Err-message-clause-answers
returns-in-Err-message-clause-answers g c = λ told.
    refused (message_in (g.S.Source.left c.args.source.now)) c.in-Err-message.place.at
    (decides message_in 2049 c.fill.new.into _ _ c.in-Ok.len c.in-Ok.ensures.size c.in-Ok.ensures.fits c.message.ensures.decides (c.in-Ok.ensures.bytes told) (c.in-Ok.ensures.end told) ∙ c.in-Err-message.ensures.said)

pub returns-in-Err-clause-answers : goal.returns-in-Err-clause-answers
returns-in-Err-clause-answers g c = λ told. unread (message_in (g.S.Source.left c.args.source.now))
