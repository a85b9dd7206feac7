use Rattle.telegram_model.specs.Telegram.{difference, one_temp, temp_records}
use Rattle.mbus_records.proofs.Pushes.{three_parts}
use Rattle.mbus_records.proofs.temps.push_temps.Goals as goal

pub returns-clause-items : goal.returns-clause-items
unfolding temp_records
returns-clause-items c =
    three_parts c.args.body.now.items c.push_one_temp.new.body.items c.push_one_temp-2.new.body.items c.push_difference.new.body.items
    (one_temp 88 c.args.flow) (one_temp 92 c.args.ret) (difference c.args.flow c.args.ret)
    c.push_one_temp.ensures.items c.push_one_temp-2.ensures.items c.push_difference.ensures.items
