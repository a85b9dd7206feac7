use Rattle.std.proofs.Common.{◌∙◌, sym}
use Rattle.trace_model.specs.Trace.{Start}
use Rattle.meter_board.proofs.ToldLemmas.{output_of-told}
use Rattle.meter_board.proofs.history.History.output.Goals as goal

pub returns : goal.returns
returns c =
    let h = c.args.self.now in
    c.as_slice.ensures.value ∙ sym (output_of-told (Start h.base.items) h.marks.items h.stored.items h.output.items h.output_whole)
