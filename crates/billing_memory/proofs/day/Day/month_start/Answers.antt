use Rattle.calendar_model.proofs.MonthLemmas.{IsMonthStart-of}
use Rattle.billing_memory.proofs.day.Day.month_start.Goals as goal

pub returns : goal.returns
returns c = IsMonthStart-of _ _ _ c.month.ensures c.first_of.ensures
