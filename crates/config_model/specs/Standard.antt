-- The configuration that a meter has where no other is asked for.
use Rattle.std.specs.Prelude.{codes, None}
use Rattle.parts_model.specs.Place.{Return}
use Rattle.config_model.specs.Configuration.{Configuration}

-- The first day is 2024-01-15.
abbrev pub standard : Configuration
standard = record {
  serial = 12345678;
  maker = codes "ABC";
  version = 1;
  address = 1;
  place = Return;
  pressure_kpa = 1600;
  sensor_ohm = 500;
  litres_per_pulse = 10;
  energy_decimals = 0;
  volume_decimals = 2;
  set_month = 1;
  opening_day = 8780;
  calibration = None;
}
