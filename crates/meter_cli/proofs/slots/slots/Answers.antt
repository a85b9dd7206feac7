use Rattle.std.proofs.Common.{subst, sym}
use Rattle.trace_model.specs.Trace.{Trace}
use Rattle.memory_model.specs.Slots.{Look}
use Rattle.meter_cli.specs.Puts.{PutsLines}
use Rattle.answer_lines.specs.Texts.{bytes_of}
use Rattle.meter_cli.specs.Slots.{AreSlotLines}
use Rattle.meter_cli.proofs.Shows.{looks_status}
use Rattle.meter_cli.proofs.slots.slots.Goals as goal

pub returns-in-Ok-clause-leaves : goal.returns-in-Ok-clause-leaves
returns-in-Ok-clause-leaves g c = λ tells.
    let new = g.B.Board.trace c.put_lines.new.board in
    let lines = bytes_of c.slots_lines.result in
    looks_status _ _ _ _ new c.put_lines.result c.put_lines.ensures.kind (record {
      lines = lines;
      are = subst (λ (l : Look). AreSlotLines l lines) (sym (c.in-Ok.ensures.gives tells)) c.slots_lines.ensures.lines;
      puts = subst (λ (old : Trace). PutsLines lines old new c.put_lines.result) (c.in-Ok.ensures.trace tells)
          (subst (λ ls. PutsLines (bytes_of ls) (g.B.Board.trace c.look.new.board) new c.put_lines.result) c.as_slice.ensures (c.put_lines.ensures.puts tells));
    })
