use Rattle.std.proofs.Common.{arith, ◌≤◌}
use Rattle.jiff_core.proofs.SignedLemmas.{signed_arith}
use Rattle.calendar_model.proofs.DayLemmas.{century_number}
use Rattle.billing_memory.proofs.day.Day.at.Goals as goal

in_range : (c : goal.After-days_since_min) → (4382544 ≤ c.days_since_min.result) × (c.days_since_min.result ≤ 4419068)
in_range c =
    let date = c.args.date in
    let range = century_number date.year date.month date.day (date.year_in, date.month_in, date.day_in) c.requires.early c.requires.late in
    (omega (arith, signed_arith, range.0, c.days_since_min.ensures.value), omega (arith, signed_arith, range.1, c.days_since_min.ensures.value))

pub overflow_sub-result : goal.overflow_sub-result
overflow_sub-result c = (in_range c).0

pub overflow_cast-result : goal.overflow_cast-result
overflow_cast-result c = let range = in_range c in omega (arith, range.0, range.1)

pub invariant_of-result : goal.invariant_of-result
invariant_of-result c = let range = in_range c in record { in_century = omega (arith, range.0, range.1) }

pub returns : goal.returns
returns c =
    let date = c.args.date in
    let range = century_number date.year date.month date.day (date.year_in, date.month_in, date.day_in) c.requires.early c.requires.late in
    omega (arith, signed_arith, range.0, c.days_since_min.ensures.value)
