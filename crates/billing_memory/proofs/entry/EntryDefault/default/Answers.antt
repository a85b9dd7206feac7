use Rattle.billing_memory.proofs.RuleLemmas.{is_first_day-zero}
use Rattle.billing_memory.proofs.entry.EntryDefault.default.Goals as goal

pub invariant_of-result-2 : goal.invariant_of-result-2
invariant_of-result-2 c = record { first_of_month = is_first_day-zero }
