-- What metering needs of a configuration.
use Rattle.metering_model.specs.Limits.{max_months}
use Rattle.metering_model.specs.Settings.{Settings}
use Rattle.config_model.specs.Configuration.{Configuration, flow_element, return_element}

abbrev pub settings_for : Configuration → Settings
settings_for c = record {
  place = c.place;
  pressure_kpa = c.pressure_kpa;
  flow = flow_element c;
  ret = return_element c;
  litres_per_pulse = c.litres_per_pulse;
  set_month = c.set_month;
  kept_months = max_months;
}
