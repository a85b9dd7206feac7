use Rattle.std.proofs.Common.{ℕ, ◌+◌, ◌-◌, ◌<◌, ◌≤◌, length, sym, subst, Option, ◌++◌, ◌==◌, ◌∙◌, ap, map, filter, arith, Some}
use Rattle.std.specs.Option.{ForSome}
use Rattle.std.proofs.lemmas.List.{length-map}
use Rattle.metering_model.specs.Records as records
use Rattle.calendar_model.specs.Calendar.{month_of_year, first_day, months_to}
use Rattle.calendar_model.specs.Entries.{latest, last_or, entry_of, MonthEntry}
use Rattle.energy_register.specs.Register.{register_view}
use Rattle.billing_memory.specs.Entries.{entry_view, entries_view, set_day_view}
use Rattle.billing_memory.proofs.RuleLemmas.{days_in_row, pulses_in_order, set_day_keeps, passed_begun}
use Rattle.billing_memory.proofs.LatestLemmas.{passed_range}
use Rattle.billing_memory.proofs.meter_record.MeterRecord.move_to.Goals as goal

pub returns-clause-months : goal.returns-clause-months
returns-clause-months c =
    let old = c.args.self.now in
    let passed = passed_range old.day.number c.args.day.number c.month.result c.month-2.result c.month.ensures c.month-2.ensures (omega (arith, c.if-day-self.false)) in
    c.enter_months.ensures.entered
    ∙ ap (λ months. latest 24 (entries_view old.months.items ++ map (entry_of (register_view old.register)) months)) passed

pub returns-clause-set_day : goal.returns-clause-set_day
returns-clause-set_day c =
    let old = c.args.self.now in
    let passed = passed_range old.day.number c.args.day.number c.month.result c.month-2.result c.month.ensures c.month-2.ensures (omega (arith, c.if-day-self.false)) in
    c.enter_set_day.ensures
    ∙ ap (λ months. last_or (set_day_view old.set_day) (map (λ month. Some (entry_of (register_view old.register) month)) (filter (λ month. month_of_year month == c.args.set_month) months))) passed

pub invariant_of-self-clause-months_in_row : goal.invariant_of-self-clause-months_in_row
invariant_of-self-clause-months_in_row c =
    let old = c.args.self.now in
    let news = c.enter_months.new.months.items in
    days_in_row (register_view old.register) old.day.number c.args.day.number c.month.result c.month-2.result (length old.months.items) (entries_view old.months.items) (entries_view news) c.month.ensures c.month-2.ensures (omega (arith, c.if-day-self.false)) old.months_in_row c.enter_months.ensures.entered
    ∙ ap (λ n. map first_day (latest n (months_to c.args.day.number))) (length-map news entry_view)

pub invariant_of-self-clause-pulses_in_order : goal.invariant_of-self-clause-pulses_in_order
invariant_of-self-clause-pulses_in_order c =
    let old = c.args.self.now in
    pulses_in_order (register_view old.register) 24 (entries_view old.months.items) (entries_view c.enter_months.new.months.items) _ old.pulses_in_order c.enter_months.ensures.entered

pub invariant_of-self-clause-set_day_passed : goal.invariant_of-self-clause-set_day_passed
invariant_of-self-clause-set_day_passed c =
    let old = c.args.self.now in
    let register = register_view old.register in
    let P : MonthEntry records.Register → Type 0 = λ e. (e.day ≤ c.args.day.number) × (e.register.pulses ≤ old.register.pulses) in
    let from = c.month.result + 1 in
    let to = c.month-2.result + 1 in
    let kept : ForSome (set_day_view old.set_day) P = λ e is. (omega (arith, (old.set_day_passed e is).0, c.if-day-self.false), (old.set_day_passed e is).1) in
    let made : (m : ℕ) → from ≤ m → m < from + (to - from) → P (entry_of register m) =
    λ m low high. (passed_begun c.args.day.number c.month-2.result m c.month-2.ensures (omega arith), omega arith) in
    let Q : Option (MonthEntry records.Register) → Type 0 = λ e. ForSome e P in
    subst Q (sym c.enter_set_day.ensures) (set_day_keeps P (entry_of register) (λ month. month_of_year month == c.args.set_month) from (to - from) (set_day_view old.set_day) kept made)
