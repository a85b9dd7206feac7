use Rattle.std.proofs.Common.{ap, arith, subst, length-append, ◌++◌, List, reverse}
use Rattle.optical_model.specs.Messages.{AreEntryLines}
use Rattle.billing_memory.specs.Entries.{entries_view}
use Rattle.billing_memory.specs.declared.entry.Entry.{Entry}
use Rattle.meter_config.specs.Views.{config_view}
use Rattle.optical_readout.proofs.Pushes.{three_texts}
use Rattle.optical_readout.proofs.block.push_block.Goals as goal

pub returns : goal.returns
returns c =
    let first = c.push_first_lines.ensures in
    let set_day = c.push_set_day.ensures in
    let months = c.push_months.ensures in
    record {
      text = first.text ++ set_day.text ++ months.text;
      kind = record {
        day = first.kind.day;
        set_day = set_day.text;
        months = months.text;
        day_text = first.kind.dated;
        set_day_lines = set_day.kind;
        month_lines = subst (λ (es : List Entry). AreEntryLines (config_view c.args.c.now) 2 (reverse (entries_view es)) months.text) c.as_slice.ensures.value months.kind;
        is = ap (λ t. t ++ set_day.text ++ months.text) first.kind.is;
      };
      is = three_texts c.args.message.now.items c.push_first_lines.new.message.items c.push_set_day.new.message.items c.push_months.new.message.items first.text set_day.text months.text first.is set_day.is months.is;
      short = omega (arith, first.short, set_day.short, months.short, length-append first.text set_day.text, length-append (first.text ++ set_day.text) months.text);
    }
