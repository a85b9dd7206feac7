use Rattle.std.proofs.Common.{sym}
use Rattle.telegram_model.proofs.Dates.{date_bytes-date}
use Rattle.mbus_records.proofs.push.date_bytes.Goals as goal

pub returns : goal.returns
returns c =
    let parts = c.parts-year.result in
    sym (date_bytes-date c.args.day.number parts.0 parts.1 parts.2 c.parts-year.ensures)
