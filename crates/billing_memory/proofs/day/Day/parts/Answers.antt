use Rattle.std.proofs.Common.{arith, rules, w16, FitsSigned, to_z-of_z, unsigned_abs, ◌≤◌}
use Rattle.jiff_core.proofs.SignedLemmas.{signed_arith}
use Rattle.calendar_model.proofs.DayLemmas.{year_positive, IsDay-date}
use Rattle.billing_memory.proofs.day.Day.parts.Goals as goal

pub overflow_cast-result : goal.overflow_cast-result
overflow_cast-result c =
    let date = c.date-date.result in
    let fits : FitsSigned w16 date.year = search rules in
    let is = year_positive date.year c.date-date.ensures.early in
    let small : unsigned_abs date.year ≤ 2099 = omega (arith, signed_arith, is, c.date-date.ensures.late) in
    simp to_z-of_z (rw is (tt, omega (arith, small)))

pub returns : goal.returns
returns c =
    let date = c.date-date.result in
    let fits : FitsSigned w16 date.year = search rules in
    let is = year_positive date.year c.date-date.ensures.early in
    simp to_z-of_z (IsDay-date date.year (unsigned_abs date.year) date.month date.day c.args.self.number is (date.year_in, date.month_in, date.day_in) c.date-date.ensures.early c.date-date.ensures.late c.date-date.ensures.counted)
