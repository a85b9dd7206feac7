-- A configuration as the definitions name it.
use Rattle.metering_model.specs.Limits.{max_months}
use Rattle.metering_model.specs.Settings.{Settings}
use Rattle.config_model.specs.Configuration.{Configuration, flow_or_nominal, return_or_nominal}
use Rattle.meter_parts.specs.Views.{calibration_view, place_view, sensor_ohm}
use Rattle.meter_config.specs.declared.config.Config.{Config}

-- what the definitions of metering need of a configuration
abbrev pub settings_of : Config → Settings
settings_of c = record {
  place = place_view c.place;
  pressure_kpa = c.pressure_kpa;
  flow = flow_or_nominal (sensor_ohm c.sensor) (calibration_view c.cal);
  ret = return_or_nominal (sensor_ohm c.sensor) (calibration_view c.cal);
  litres_per_pulse = c.per_pulse;
  set_month = c.set_month;
  kept_months = max_months;
}

abbrev pub config_view : Config → Configuration
config_view c = record {
  serial = c.serial;
  maker = c.maker;
  version = c.version;
  address = c.address;
  place = place_view c.place;
  pressure_kpa = c.pressure_kpa;
  sensor_ohm = sensor_ohm c.sensor;
  litres_per_pulse = c.per_pulse;
  energy_decimals = c.energy_decimals;
  volume_decimals = c.volume_decimals;
  set_month = c.set_month;
  opening_day = c.opening_day.number;
  calibration = calibration_view c.cal;
}
