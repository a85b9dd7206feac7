use Rattle.std.proofs.Common.{◌∙◌, ap, ◌++◌}
use Rattle.telegram_model.specs.Values.{information, date_bytes}
use Rattle.telegram_model.specs.Telegram.{date_record}
use Rattle.mbus_records.proofs.Pushes.{with_unit}
use Rattle.mbus_records.proofs.push.push_date.Goals as goal

pub returns-clause-items : goal.returns-clause-items
unfolding date_record
returns-clause-items c =
    with_unit c.args.body.now.items c.push_information.new.body.items c.push.new.self.items c.append.new.list.items
    (information 2 c.args.storage) (date_bytes c.args.day.number) 108
    c.push_information.ensures.items c.push.ensures.items
    (c.append.ensures.items ∙ ap (λ l. c.push.new.self.items ++ l) c.date_bytes.ensures)
