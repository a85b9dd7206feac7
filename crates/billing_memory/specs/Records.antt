-- A meter's record, in the words of the definitions.
use Rattle.metering_model.specs.Records as records
use Rattle.energy_register.specs.Register.{register_view}
use Rattle.billing_memory.specs.Entries.{entries_view, set_day_view}
use Rattle.billing_memory.specs.declared.meter_record.MeterRecord.{MeterRecord}

abbrev pub record_view : MeterRecord → records.MeterRecord
record_view m = record {
  seq = m.seq;
  day = m.day.number;
  samples = m.samples;
  faulty = m.faulty;
  register = register_view m.register;
  months = entries_view m.months.items;
  set_day = set_day_view m.set_day;
}
