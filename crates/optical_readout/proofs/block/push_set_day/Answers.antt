use Rattle.std.proofs.Common.{sym, subst, Option}
use Rattle.std.specs.Option.{option_to_list}
use Rattle.optical_model.specs.Messages.{AreEntryLines}
use Rattle.billing_memory.specs.Entries.{entry_view, set_day_view}
use Rattle.billing_memory.specs.declared.entry.Entry.{Entry}
use Rattle.meter_config.specs.Views.{config_view}
use Rattle.optical_readout.proofs.EntryLines.{one_entry}
use Rattle.optical_readout.proofs.block.push_set_day.Goals as goal

pub returns-in-Some : goal.returns-in-Some
returns-in-Some c =
    let h = c.push_entry.ensures in
    record {
      text = h.text;
      kind = subst (λ (e : Option Entry). AreEntryLines (config_view c.args.c.now) 1 (option_to_list (set_day_view e)) h.text) (sym c.in-Some.is) (one_entry (config_view c.args.c.now) (entry_view c.in-Some.entry) 1 h.text h.kind);
      is = h.is;
      short = h.short;
    }
