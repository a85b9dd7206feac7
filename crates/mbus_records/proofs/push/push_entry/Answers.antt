use Rattle.telegram_model.specs.Telegram.{date_record, energy_record, entry_records, volume_record}
use Rattle.energy_register.specs.Register.{register_view}
use Rattle.meter_config.specs.Views.{config_view}
use Rattle.mbus_records.proofs.Pushes.{three_parts}
use Rattle.mbus_records.proofs.push.push_entry.Goals as goal

pub returns-clause-items : goal.returns-clause-items
unfolding entry_records
returns-clause-items c =
    let config = config_view c.args.c.now in
    let register = register_view c.args.entry.now.register in
    three_parts c.args.body.now.items c.push_date.new.body.items c.push_energy.new.body.items c.push_volume.new.body.items
    (date_record c.args.storage c.args.entry.now.day.number) (energy_record config c.args.storage register) (volume_record config c.args.storage register)
    c.push_date.ensures.items c.push_energy.ensures.items c.push_volume.ensures.items
