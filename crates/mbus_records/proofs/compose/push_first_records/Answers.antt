use Rattle.config_model.specs.Configuration.{flow_element, return_element}
use Rattle.telegram_model.specs.Telegram.{date_record, energy_record, first_records, sample_records, set_day_records, volume_record}
use Rattle.billing_memory.specs.Entries.{set_day_view}
use Rattle.energy_register.specs.Register.{register_view}
use Rattle.meter_config.specs.Views.{config_view}
use Rattle.mbus_records.proofs.Pushes.{five_parts}
use Rattle.mbus_records.proofs.compose.push_first_records.Goals as goal

pub returns-clause-items : goal.returns-clause-items
unfolding first_records
returns-clause-items c =
    let config = config_view c.args.c.now in
    let m = c.args.m.now in
    five_parts c.args.body.now.items c.push_energy.new.body.items c.push_volume.new.body.items c.push_samples.new.body.items c.push_date.new.body.items c.push_set_day.new.body.items
    (energy_record config 0 (register_view m.register)) (volume_record config 0 (register_view m.register)) (sample_records (flow_element config) (return_element config) m.samples) (date_record 0 m.day.number) (set_day_records config (set_day_view m.set_day))
    c.push_energy.ensures.items c.push_volume.ensures.items c.push_samples.ensures.items c.push_date.ensures.items c.push_set_day.ensures.items
