use Rattle.std.proofs.Common.{◌∙◌, ◌+◌, ◌-◌, ◌*◌, ◌++◌, take, drop, length, sym, ap, arith, reverse}
use Rattle.telegram_model.specs.Telegram.{records_from}
use Rattle.billing_memory.specs.Entries.{entries_view}
use Rattle.billing_memory.specs.Records.{record_view}
use Rattle.meter_config.specs.Views.{config_view}
use Rattle.mbus_records.proofs.Composed.{records_of-later}
use Rattle.mbus_records.proofs.MonthEntries.{length-newest, newest-all}
use Rattle.mbus_records.proofs.compose.push_records.Goals as goal

pub push_months-requires-clause-there : goal.push_months-requires-clause-there
push_months-requires-clause-there c =
    omega (arith, c.requires.there, c.if-k-eq0.false, length-newest c.args.m.now.months.items c.args.m.now.months_kept, ap length c.as_slice.ensures.value)

pub returns-else-k-eq0-clause-items : goal.returns-else-k-eq0-clause-items
returns-else-k-eq0-clause-items c =
    let config = config_view c.args.c.now in
    let m = c.args.m.now in
    let newer = 8 * (c.args.k - 1) in
    let all = ap (λ es. reverse (entries_view es)) c.as_slice.ensures.value ∙ sym (newest-all m.months.items m.months_kept) in
    c.push_months.ensures.items
    ∙ ap (λ l. c.args.body.now.items ++ records_from config (newer + 2) (take 8 (drop newer l))) all
    ∙ ap (λ l. c.args.body.now.items ++ l) (records_of-later config (record_view m) c.args.k (omega (arith, c.if-k-eq0.false)))
