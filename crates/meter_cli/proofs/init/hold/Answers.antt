use Rattle.std.proofs.Common.{◌∙◌, ◌∷◌, [], subst}
use Rattle.meter_config.specs.Views.{config_view}
use Rattle.metering_model.specs.Records.{MeterRecord}
use Rattle.trace_model.specs.Moments.{Grew, Leaves}
use Rattle.register_store.specs.Formatted.{HoldsInA, UnformattedOr}
use Rattle.trace_model.proofs.Moments.{Grew-base}
use Rattle.meter_cli.proofs.Lines.{lines_base}
use Rattle.meter_cli.proofs.Inits.{formats, formats_moments, never}
use Rattle.meter_cli.proofs.init.hold.Goals as goal

pub returns-in-Ok-clause-leaves : goal.returns-in-Ok-clause-leaves
returns-in-Ok-clause-leaves g c = λ tells.
    let config = config_view c.args.config.now in
    formats config _ _ (g.B.Board.trace c.format.new.board) _ c.put_line.result c.as_bytes.result.now (c.as_bytes.ensures.value ∙ c.as_str.ensures.value ∙ c.line.ensures.text)
    (c.put_line.ensures.puts tells)
    (subst (λ (r : MeterRecord). Leaves (HoldsInA config r) (g.B.Board.trace c.format.new.board)) c.opening.ensures (c.in-Ok.ensures.ok tells))
    c.put_line.ensures.kind (λ marked. never _ _ _ (c.in-Ok.ensures.refused tells marked)) (c.in-Ok.ensures.works tells)

pub returns-in-Ok-clause-moments : goal.returns-in-Ok-clause-moments
returns-in-Ok-clause-moments g c = λ tells.
    let config = config_view c.args.config.now in
    formats_moments config (g.B.Board.reads c.args.board.now) _ (g.B.Board.trace c.format.new.board) _ c.put_line.result c.as_bytes.result.now (c.as_bytes.ensures.value ∙ c.as_str.ensures.value ∙ c.line.ensures.text)
    (c.put_line.ensures.puts tells)
    (subst (λ (r : MeterRecord). Leaves (HoldsInA config r) (g.B.Board.trace c.format.new.board)) c.opening.ensures (c.in-Ok.ensures.ok tells))
    (subst (λ (r : MeterRecord). Grew (Leaves (UnformattedOr config r)) (g.B.Board.trace c.args.board.now) (g.B.Board.trace c.format.new.board)) c.opening.ensures (c.in-Ok.ensures.moments tells))

pub returns-in-Ok-clause-base : goal.returns-in-Ok-clause-base
returns-in-Ok-clause-base g c = λ tells. lines_base (c.as_bytes.result.now ∷ []) (g.B.Board.trace c.format.new.board) (g.B.Board.trace c.put_line.new.board) c.put_line.result (c.put_line.ensures.puts tells) ∙ Grew-base (c.in-Ok.ensures.moments tells)

pub returns-in-Err-clause-base : goal.returns-in-Err-clause-base
returns-in-Err-clause-base g c = λ tells. Grew-base (c.format.ensures.moments tells)
