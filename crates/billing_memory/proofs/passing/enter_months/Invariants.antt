use Rattle.std.proofs.Common.{◌≡◌, ◌-◌, ◌≤◌, ◌++◌, map, length, max}
use Rattle.std.specs.List.{range_with_len}
use Rattle.calendar_model.specs.Entries.{latest, entry_of}
use Rattle.energy_register.specs.Register.{register_view}
use Rattle.billing_memory.specs.Entries.{entries_view}
use Rattle.billing_memory.proofs.passing.enter_months.Given as goal

abbrev pub invariant-loop-month : goal.invariant-loop-month
invariant-loop-month l =
    (entries_view l.months.items ≡ latest 24 (entries_view l.initial.months.items
    ++ map (entry_of (register_view l.register)) (range_with_len l.initial.month (l.month - l.initial.month))))
    × (length l.months.items ≤ 24)
    × (l.month ≤ max l.initial.month l.to)
