use Rattle.std.proofs.Common.{◌≡◌, ◌+◌, ◌-◌, ◌==◌, ◌∙◌, sym, ap, map, arith, Some, ℕ, Bool, true, [], filter}
use Rattle.std.specs.List.{range_with_len}
use Rattle.calendar_model.specs.Calendar.{month_of_year}
use Rattle.calendar_model.specs.Entries.{last_or, entry_of}
use Rattle.energy_register.specs.Register.{register_view}
use Rattle.billing_memory.specs.Entries.{set_day_view}
use Rattle.billing_memory.proofs.LatestLemmas.{filter_to_last, filter_to_none, last_or_of_last}
use Rattle.billing_memory.proofs.passing.enter_set_day.Goals as goal

pub returns-then-month-from : goal.returns-then-month-from
returns-then-month-from c =
    let set : ℕ → Bool = λ month. month_of_year month == c.args.set_month in
    let last = c.loop-month.month - 1 in
    let next : last + 1 ≡ c.loop-month.month = omega (arith, c.loop-month-test.true) in
    let after : filter set (range_with_len (last + 1) (c.args.to - (last + 1))) ≡ [] =
    ap (λ m. filter set (range_with_len m (c.args.to - m))) next ∙ c.loop-month.invariant.1 in
    let yes : set last ≡ true = grind (arith, c.if-month-from.true, c.from.ensures) in
    let parts = filter_to_last set c.args.from c.args.to last (omega (arith, c.loop-month-test.true)) (omega (arith, c.loop-month-test.true, c.loop-month.auto.month)) yes after in
    ap Some c.entry_at.ensures
    ∙ sym (ap (λ months. last_or (set_day_view c.args.set_day.now) (map (λ month. Some (entry_of (register_view c.args.register) month)) months)) parts
    ∙ last_or_of_last (λ month. Some (entry_of (register_view c.args.register) month)) (set_day_view c.args.set_day.now) (filter set (range_with_len c.args.from (last - c.args.from))) last)

pub returns : goal.returns
returns c =
    let set : ℕ → Bool = λ month. month_of_year month == c.args.set_month in
    let none = filter_to_none set c.args.from c.args.to c.loop-month.month (omega (arith, c.loop-month-test.false)) c.loop-month.invariant.2 c.loop-month.invariant.1 in
    ap set_day_view c.loop-month.invariant.0
    ∙ sym (ap (λ months. last_or (set_day_view c.args.set_day.now) (map (λ month. Some (entry_of (register_view c.args.register) month)) months)) none)
