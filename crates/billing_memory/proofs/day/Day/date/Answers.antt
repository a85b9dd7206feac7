use Rattle.std.proofs.Common.{arith, pos, ◌≤ℤ◌}
use Rattle.jiff_core.proofs.SignedLemmas.{signed_arith}
use Rattle.calendar_model.proofs.DayLemmas.{century_year}
use Rattle.billing_memory.proofs.day.Day.date.Goals as goal

in_century : (c : goal.After-from_days_since_min) → (pos 2000 ≤ℤ c.from_days_since_min.result.year) × (c.from_days_since_min.result.year ≤ℤ pos 2099)
in_century c =
    let date = c.from_days_since_min.result in
    century_year date.year date.month date.day c.args.self.number (date.year_in, date.month_in, date.day_in) c.args.self.in_century
    (omega (arith, signed_arith, c.from_days_since_min.ensures, c.from.ensures))

pub returns-clause-early : goal.returns-clause-early
returns-clause-early c = (in_century c).0

pub returns-clause-late : goal.returns-clause-late
returns-clause-late c = (in_century c).1
