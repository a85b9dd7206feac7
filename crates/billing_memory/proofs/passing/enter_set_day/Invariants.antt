use Rattle.std.proofs.Common.{◌≡◌, ◌-◌, ◌==◌, [], filter, min, ◌≤◌}
use Rattle.std.specs.List.{range_with_len}
use Rattle.calendar_model.specs.Calendar.{month_of_year}
use Rattle.billing_memory.proofs.passing.enter_set_day.Given as goal

abbrev pub invariant-loop-month : goal.invariant-loop-month
invariant-loop-month l =
    (l.set_day ≡ l.initial.set_day)
    × (filter (λ month. month_of_year month == l.set_month) (range_with_len l.month (l.to - l.month)) ≡ [])
    × (min l.from l.to ≤ l.month)
