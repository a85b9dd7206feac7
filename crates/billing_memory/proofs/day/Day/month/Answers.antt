use Rattle.std.proofs.Common.{arith}
use Rattle.calendar_model.proofs.MonthLemmas.{IsMonthOf-date}
use Rattle.billing_memory.proofs.day.Day.month.Goals as goal

pub returns : goal.returns
returns c =
    let is = c.parts-year.ensures in
    IsMonthOf-date _ _ _ _ _ is (omega (arith, is.date.early, is.date.civil.1.0, c.from.ensures))
