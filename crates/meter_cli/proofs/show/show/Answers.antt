use Rattle.std.proofs.Common.{subst}
use Rattle.trace_model.specs.Trace.{Trace}
use Rattle.billing_memory.specs.Records.{record_view}
use Rattle.meter_config.specs.Views.{config_view}
use Rattle.meter_cli.specs.Puts.{PutsLines}
use Rattle.answer_lines.specs.Texts.{bytes_of}
use Rattle.meter_cli.proofs.Shows.{looks_status}
use Rattle.meter_cli.proofs.show.show.Goals as goal

pub returns-in-Ok-clause-leaves : goal.returns-in-Ok-clause-leaves
returns-in-Ok-clause-leaves g c = λ tells.
    let new = g.B.Board.trace c.put_lines.new.board in
    looks_status _ _ _ _ new c.put_lines.result c.put_lines.ensures.kind (record {
      lines = bytes_of c.show_lines.result.items;
      are = record { c = config_view c.in-Ok.config; r = record_view c.in-Ok.meter_record; side = _; held = c.in-Ok.ensures.gives tells; are = c.show_lines.ensures.lines };
      puts = subst (λ (old : Trace). PutsLines (bytes_of c.show_lines.result.items) old new c.put_lines.result) (c.in-Ok.ensures.trace tells)
          (subst (λ ls. PutsLines (bytes_of ls) (g.B.Board.trace c.recover.new.board) new c.put_lines.result) c.as_slice.ensures.value (c.put_lines.ensures.puts tells));
    })
