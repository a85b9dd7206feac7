use Rattle.calendar_model.proofs.MonthLemmas.{is_first_day-of}
use Rattle.billing_memory.proofs.passing.entry_at.Goals as goal

pub invariant_of-result : goal.invariant_of-result
invariant_of-result c = record { first_of_month = is_first_day-of c.args.month c.first_of.result.number c.requires c.first_of.ensures }
