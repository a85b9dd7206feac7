use Rattle.std.proofs.Common.{◌≡◌, ◌∙◌, ◌+◌, ◌-◌, ◌*◌, ◌++◌, take, drop, reverse, sym, ap}
use Rattle.std.proofs.lemmas.List.{drop-map, take-map}
use Rattle.telegram_model.specs.Telegram.{records_from}
use Rattle.billing_memory.specs.Entries.{entry_view, entries_view}
use Rattle.meter_config.specs.Views.{config_view}
use Rattle.mbus_records.proofs.MonthEntries.{reverse-view}
use Rattle.mbus_records.proofs.months.push_months.Goals as goal

pub returns-clause-items : goal.returns-clause-items
returns-clause-items c =
    let config = config_view c.args.c.now in
    let newer = 8 * (c.args.k - 1) in
    let months = c.args.months.now in
    let entries = c.entries_behind-entries.result.now in
    let seen : reverse (entries_view entries) ≡ take 8 (drop newer (reverse (entries_view months))) =
    reverse-view entries ∙ ap entries_view (c.entries_behind-entries.ensures.entries ∙ ap (λ n. take 8 (drop n (reverse months))) c.from.ensures)
    ∙ sym (take-map entry_view 8 (drop newer (reverse months))) ∙ ap (take 8) (sym (drop-map entry_view newer (reverse months)))
    ∙ ap (λ l. take 8 (drop newer l)) (sym (reverse-view months)) in
    c.push_entries.ensures.items ∙ ap (λ l. c.args.body.now.items ++ records_from config (newer + 2) l) seen
