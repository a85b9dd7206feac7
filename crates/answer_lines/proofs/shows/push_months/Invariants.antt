use Rattle.std.proofs.Common.{◌≡◌, ◌+◌, List, ℕ, ◌++◌, length, drop}
use Rattle.billing_memory.specs.Entries.{entries_view}
use Rattle.meter_config.specs.Views.{config_view}
use Rattle.show_model.specs.Lines.{AreMonthLines}
use Rattle.answer_lines.specs.Texts.{NoneEmpty, bytes_of}
use Rattle.answer_lines.proofs.shows.push_months.Given as goal

-- these lines were added, and with those of the entries that are left they are the lines of all
abbrev pub invariant-loop-entry : goal.invariant-loop-entry
invariant-loop-entry l = record {
  count : length l.lines.items ≡ length l.initial.lines.items + l.entry-index;
  some : NoneEmpty l.initial.lines.items → NoneEmpty l.lines.items;
  added : (shown : List (List ℕ)) × (bytes_of l.lines.items ≡ bytes_of l.initial.lines.items ++ shown)
      × ((rest : List (List ℕ)) → AreMonthLines (config_view l.config) (entries_view (drop l.entry-index l.months)) rest → AreMonthLines (config_view l.config) (entries_view l.months) (shown ++ rest));
}
