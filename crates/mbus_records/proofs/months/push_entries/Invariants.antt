use Rattle.std.proofs.Common.{◌≡◌, ◌+◌, ◌*◌, ◌≤◌, ◌++◌, length, reverse}
use Rattle.std.specs.Iterator.Adapters.{rev_source}
use Rattle.std.specs.Slice.Iter.{iter_rest}
use Rattle.telegram_model.specs.Telegram.{records_from}
use Rattle.billing_memory.specs.Entries.{entries_view}
use Rattle.meter_config.specs.Views.{config_view}
use Rattle.mbus_records.proofs.months.push_entries.Given as goal

-- what is written, and what is left, make the whole
abbrev pub invariant-loop-entry : goal.invariant-loop-entry
invariant-loop-entry l =
    let left = iter_rest (rev_source l.entry-iterator) in
    (goal.iterator-loop-entry).can_next l.entry-iterator
    × (goal.iterator-loop-entry).is_finite l.entry-iterator
    × (l.body.items ++ records_from (config_view l.c) l.storage (reverse (entries_view left))
    ≡ l.initial.body.items ++ records_from (config_view l.c) l.first (reverse (entries_view l.entries)))
    × (length l.body.items + 19 * length left ≤ length l.initial.body.items + 152)
    × (l.storage + length left ≤ 208)
