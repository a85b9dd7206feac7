use Rattle.mbus_records.proofs.MonthEntries.{entries-behind}
use Rattle.mbus_records.proofs.months.entries_behind.Goals as goal

pub returns-clause-entries : goal.returns-clause-entries
returns-clause-entries c = entries-behind c.args.months.now c.args.newer c.saturating_sub.result c.requires c.saturating_sub.ensures
