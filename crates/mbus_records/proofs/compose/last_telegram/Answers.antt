use Rattle.std.proofs.Common.{◌∙◌, ◌+◌, ◌/◌, sym, ap}
use Rattle.mbus_records.proofs.MonthEntries.{length-newest}
use Rattle.mbus_records.proofs.compose.last_telegram.Goals as goal

pub returns : goal.returns
returns c =
    let months = c.args.m.now.months.items in
    ap (λ n. (n + 7) / 8) (c.len.ensures.value ∙ sym (length-newest months c.args.m.now.months_kept))
