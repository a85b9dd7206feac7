use Rattle.std.proofs.Common.{◌≡◌, ◌∙◌, subst, take, Ok}
use Rattle.reading_model.specs.Telegrams.{telegram_in}
use Rattle.readout_reader.specs.Views.{telegram_view}
use Rattle.meter_cli.specs.Puts.{PutsLines}
use Rattle.answer_lines.specs.ReadLines.{AreTelegramLines}
use Rattle.answer_lines.specs.Texts.{bytes_of}
use Rattle.meter_cli.proofs.Lines.{alone_lines, lines_base}
use Rattle.answer_lines.proofs.Readable.{readable}
use Rattle.meter_cli.proofs.Readings.{decides, answered, unread, refused, left_said, left_refused}
use Rattle.meter_cli.proofs.readout.mbus.Goals as goal

pub telegram_lines-requires : goal.telegram_lines-requires
telegram_lines-requires g c = readable (take c.in-Ok.len c.fill.new.into) (telegram_view c.in-Ok-telegram.fields) c.in-Ok-telegram.ensures.said

pub returns-in-Ok-telegram-clause-leaves : goal.returns-in-Ok-telegram-clause-leaves
returns-in-Ok-telegram-clause-leaves g c = λ told tells.
    let said : telegram_in (g.S.Source.left c.args.source.now) ≡ Ok (telegram_view c.in-Ok-telegram.fields) = decides telegram_in 262 c.fill.new.into _ _ c.in-Ok.len c.in-Ok.ensures.size c.in-Ok.ensures.fits c.telegram.ensures.decides (c.in-Ok.ensures.bytes told) (c.in-Ok.ensures.end told) ∙ c.in-Ok-telegram.ensures.said in
    let lines = bytes_of c.telegram_lines.result.items in
    left_said AreTelegramLines (telegram_in (g.S.Source.left c.args.source.now)) (telegram_view c.in-Ok-telegram.fields) lines (g.B.Board.trace c.args.board.now) (g.B.Board.trace c.put_lines.new.board) c.put_lines.result said c.telegram_lines.ensures.lines
    (subst (λ ls. PutsLines (bytes_of ls) (g.B.Board.trace c.args.board.now) (g.B.Board.trace c.put_lines.new.board) c.put_lines.result) c.as_slice.ensures.value (c.put_lines.ensures.puts tells))

pub returns-in-Ok-telegram-clause-alone : goal.returns-in-Ok-telegram-clause-alone
returns-in-Ok-telegram-clause-alone g c = λ tells alone.
    alone_lines (bytes_of c.as_slice.result.now) (g.B.Board.trace c.args.board.now) (g.B.Board.trace c.put_lines.new.board) c.put_lines.result (c.put_lines.ensures.puts tells) alone

pub returns-in-Ok-telegram-clause-base : goal.returns-in-Ok-telegram-clause-base
returns-in-Ok-telegram-clause-base g c = λ tells.
    lines_base (bytes_of c.as_slice.result.now) (g.B.Board.trace c.args.board.now) (g.B.Board.trace c.put_lines.new.board) c.put_lines.result (c.put_lines.ensures.puts tells)

pub returns-in-Ok-telegram-clause-answers : goal.returns-in-Ok-telegram-clause-answers
returns-in-Ok-telegram-clause-answers g c = λ told.
    answered (telegram_in (g.S.Source.left c.args.source.now)) (telegram_view c.in-Ok-telegram.fields) c.put_lines.result
    (decides telegram_in 262 c.fill.new.into _ _ c.in-Ok.len c.in-Ok.ensures.size c.in-Ok.ensures.fits c.telegram.ensures.decides (c.in-Ok.ensures.bytes told) (c.in-Ok.ensures.end told) ∙ c.in-Ok-telegram.ensures.said) c.put_lines.ensures.kind

pub returns-in-Err-telegram-clause-leaves : goal.returns-in-Err-telegram-clause-leaves
returns-in-Err-telegram-clause-leaves g c = λ told tells.
    left_refused AreTelegramLines (telegram_in (g.S.Source.left c.args.source.now)) c.in-Err-telegram.e.at (g.B.Board.trace c.args.board.now)
    (decides telegram_in 262 c.fill.new.into _ _ c.in-Ok.len c.in-Ok.ensures.size c.in-Ok.ensures.fits c.telegram.ensures.decides (c.in-Ok.ensures.bytes told) (c.in-Ok.ensures.end told) ∙ c.in-Err-telegram.ensures.said)

pub returns-in-Err-telegram-clause-answers : goal.returns-in-Err-telegram-clause-answers
returns-in-Err-telegram-clause-answers g c = λ told.
    refused (telegram_in (g.S.Source.left c.args.source.now)) c.in-Err-telegram.e.at
    (decides telegram_in 262 c.fill.new.into _ _ c.in-Ok.len c.in-Ok.ensures.size c.in-Ok.ensures.fits c.telegram.ensures.decides (c.in-Ok.ensures.bytes told) (c.in-Ok.ensures.end told) ∙ c.in-Err-telegram.ensures.said)

pub returns-in-Err-clause-answers : goal.returns-in-Err-clause-answers
returns-in-Err-clause-answers g c = λ told. unread (telegram_in (g.S.Source.left c.args.source.now))
