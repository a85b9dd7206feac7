use Rattle.std.proofs.Common.{◌∙◌, ap, ◌++◌}
use Rattle.telegram_model.specs.Values.{information, decimal_bytes}
use Rattle.mbus_records.proofs.Pushes.{with_unit}
use Rattle.mbus_records.proofs.push.push_digits.Goals as goal

pub returns-clause-items : goal.returns-clause-items
returns-clause-items c =
    with_unit c.args.body.now.items c.push_information.new.body.items c.push.new.self.items c.append.new.list.items
    (information 12 c.args.storage) (decimal_bytes c.args.digits) c.args.unit
    c.push_information.ensures.items c.push.ensures.items
    (c.append.ensures.items ∙ ap (λ l. c.push.new.self.items ++ l) c.decimal_bytes.ensures)
