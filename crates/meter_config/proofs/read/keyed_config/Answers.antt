use Rattle.std.proofs.Common.{refl}
use Rattle.std.specs.Prelude.{IsTrue}
use Rattle.parts_model.specs.Ranges.{is_sensor}
use Rattle.meter_parts.specs.declared.sensor.Sensor.{Sensor}
use Rattle.meter_parts.specs.declared.sensor.Sensor.TheVariants.{Pt100, Pt500, Pt1000}
use Rattle.meter_parts.specs.Views.{sensor_ohm}
use Rattle.std.proofs.lemmas.Result.{err_from_is_err_and}
use Rattle.accept_model.specs.Keys.{keys, key_names}
use Rattle.accept_model.specs.Accepted.{said_by}
use Rattle.meter_config.proofs.Steps.{Refuses-whole}
use Rattle.meter_config.proofs.read.keyed_config.Goals as goal

pub returns-in_err-serial-clause-said : goal.returns-in_err-serial-clause-said
unfolding said_by keys key_names
returns-in_err-serial-clause-said c =
    let p = err_from_is_err_and c.from_residual.result c.from_residual.ensures.1 in
    rw (p.1, p.2) (Refuses-whole c.in_err-serial.field-0.0 _ _ c.in_err-serial.ensures.said (λ f is. rw (is) refl))

pub returns-in_err-maker-clause-said : goal.returns-in_err-maker-clause-said
unfolding said_by keys key_names
returns-in_err-maker-clause-said c =
    let p = err_from_is_err_and c.from_residual-in_err-maker.result c.from_residual-in_err-maker.ensures.1 in
    rw (p.1, p.2) (Refuses-whole c.in_err-maker.field-0.0 _ _ c.in_err-maker.ensures.said (λ f is. rw (c.in_ok-serial.ensures.said, is) refl))

pub returns-in_err-version-clause-said : goal.returns-in_err-version-clause-said
unfolding said_by keys key_names
returns-in_err-version-clause-said c =
    let p = err_from_is_err_and c.from_residual-in_err-version.result c.from_residual-in_err-version.ensures.1 in
    rw (p.1, p.2) (Refuses-whole c.in_err-version.field-0.0 _ _ c.in_err-version.ensures.said (λ f is. rw (c.in_ok-serial.ensures.said, c.in_ok-maker.ensures.said, is) refl))

pub returns-in_err-address-clause-said : goal.returns-in_err-address-clause-said
unfolding said_by keys key_names
returns-in_err-address-clause-said c =
    let p = err_from_is_err_and c.from_residual-in_err-address.result c.from_residual-in_err-address.ensures.1 in
    rw (p.1, p.2) (Refuses-whole c.in_err-address.field-0.0 _ _ c.in_err-address.ensures.said (λ f is. rw (c.in_ok-serial.ensures.said, c.in_ok-maker.ensures.said, c.in_ok-version.ensures.said, is) refl))

pub returns-in_err-place-clause-said : goal.returns-in_err-place-clause-said
unfolding said_by keys key_names
returns-in_err-place-clause-said c =
    let p = err_from_is_err_and c.from_residual-in_err-place.result c.from_residual-in_err-place.ensures.1 in
    rw (p.1, p.2) (Refuses-whole c.in_err-place.field-0.0 _ _ c.in_err-place.ensures (λ f is. rw (c.in_ok-serial.ensures.said, c.in_ok-maker.ensures.said, c.in_ok-version.ensures.said, c.in_ok-address.ensures.said, is) refl))

pub returns-in_err-pressure_kpa-clause-said : goal.returns-in_err-pressure_kpa-clause-said
unfolding said_by keys key_names
returns-in_err-pressure_kpa-clause-said c =
    let p = err_from_is_err_and c.from_residual-in_err-pressure_kpa.result c.from_residual-in_err-pressure_kpa.ensures.1 in
    rw (p.1, p.2) (Refuses-whole c.in_err-pressure_kpa.field-0.0 _ _ c.in_err-pressure_kpa.ensures.said (λ f is. rw (c.in_ok-serial.ensures.said, c.in_ok-maker.ensures.said, c.in_ok-version.ensures.said, c.in_ok-address.ensures.said, c.in_ok-place.ensures, is) refl))

pub returns-in_err-sensor-clause-said : goal.returns-in_err-sensor-clause-said
unfolding said_by keys key_names
returns-in_err-sensor-clause-said c =
    let p = err_from_is_err_and c.from_residual-in_err-sensor.result c.from_residual-in_err-sensor.ensures.1 in
    rw (p.1, p.2) (Refuses-whole c.in_err-sensor.field-0.0 _ _ c.in_err-sensor.ensures (λ f is. rw (c.in_ok-serial.ensures.said, c.in_ok-maker.ensures.said, c.in_ok-version.ensures.said, c.in_ok-address.ensures.said, c.in_ok-place.ensures, c.in_ok-pressure_kpa.ensures.said, is) refl))

pub returns-in_err-per_pulse-clause-said : goal.returns-in_err-per_pulse-clause-said
unfolding said_by keys key_names
returns-in_err-per_pulse-clause-said c =
    let p = err_from_is_err_and c.from_residual-in_err-per_pulse.result c.from_residual-in_err-per_pulse.ensures.1 in
    rw (p.1, p.2) (Refuses-whole c.in_err-per_pulse.field-0.0 _ _ c.in_err-per_pulse.ensures.said (λ f is. rw (c.in_ok-serial.ensures.said, c.in_ok-maker.ensures.said, c.in_ok-version.ensures.said, c.in_ok-address.ensures.said, c.in_ok-place.ensures, c.in_ok-pressure_kpa.ensures.said, c.in_ok-sensor.ensures, is) refl))

pub returns-in_err-energy_decimals-clause-said : goal.returns-in_err-energy_decimals-clause-said
unfolding said_by keys key_names
returns-in_err-energy_decimals-clause-said c =
    let p = err_from_is_err_and c.from_residual-in_err-energy_decimals.result c.from_residual-in_err-energy_decimals.ensures.1 in
    rw (p.1, p.2) (Refuses-whole c.in_err-energy_decimals.field-0.0 _ _ c.in_err-energy_decimals.ensures.said (λ f is. rw (c.in_ok-serial.ensures.said, c.in_ok-maker.ensures.said, c.in_ok-version.ensures.said, c.in_ok-address.ensures.said, c.in_ok-place.ensures, c.in_ok-pressure_kpa.ensures.said, c.in_ok-sensor.ensures, c.in_ok-per_pulse.ensures.said, is) refl))

pub returns-in_err-volume_decimals-clause-said : goal.returns-in_err-volume_decimals-clause-said
unfolding said_by keys key_names
returns-in_err-volume_decimals-clause-said c =
    let p = err_from_is_err_and c.from_residual-in_err-volume_decimals.result c.from_residual-in_err-volume_decimals.ensures.1 in
    rw (p.1, p.2) (Refuses-whole c.in_err-volume_decimals.field-0.0 _ _ c.in_err-volume_decimals.ensures.said (λ f is. rw (c.in_ok-serial.ensures.said, c.in_ok-maker.ensures.said, c.in_ok-version.ensures.said, c.in_ok-address.ensures.said, c.in_ok-place.ensures, c.in_ok-pressure_kpa.ensures.said, c.in_ok-sensor.ensures, c.in_ok-per_pulse.ensures.said, c.in_ok-energy_decimals.ensures.said, is) refl))

pub returns-in_err-set_month-clause-said : goal.returns-in_err-set_month-clause-said
unfolding said_by keys key_names
returns-in_err-set_month-clause-said c =
    let p = err_from_is_err_and c.from_residual-in_err-set_month.result c.from_residual-in_err-set_month.ensures.1 in
    rw (p.1, p.2) (Refuses-whole c.in_err-set_month.field-0.0 _ _ c.in_err-set_month.ensures.said (λ f is. rw (c.in_ok-serial.ensures.said, c.in_ok-maker.ensures.said, c.in_ok-version.ensures.said, c.in_ok-address.ensures.said, c.in_ok-place.ensures, c.in_ok-pressure_kpa.ensures.said, c.in_ok-sensor.ensures, c.in_ok-per_pulse.ensures.said, c.in_ok-energy_decimals.ensures.said, c.in_ok-volume_decimals.ensures.said, is) refl))

pub returns-in_err-opening_day-clause-said : goal.returns-in_err-opening_day-clause-said
unfolding said_by keys key_names
returns-in_err-opening_day-clause-said c =
    let p = err_from_is_err_and c.from_residual-in_err-opening_day.result c.from_residual-in_err-opening_day.ensures.1 in
    rw (p.1, p.2) (Refuses-whole c.in_err-opening_day.field-0.0 _ _ c.in_err-opening_day.ensures (λ f is. rw (c.in_ok-serial.ensures.said, c.in_ok-maker.ensures.said, c.in_ok-version.ensures.said, c.in_ok-address.ensures.said, c.in_ok-place.ensures, c.in_ok-pressure_kpa.ensures.said, c.in_ok-sensor.ensures, c.in_ok-per_pulse.ensures.said, c.in_ok-energy_decimals.ensures.said, c.in_ok-volume_decimals.ensures.said, c.in_ok-set_month.ensures.said, is) refl))

pub returns-in_err-cal-clause-said : goal.returns-in_err-cal-clause-said
unfolding said_by keys key_names
returns-in_err-cal-clause-said c =
    let p = err_from_is_err_and c.from_residual-in_err-cal.result c.from_residual-in_err-cal.ensures.1 in
    rw (p.1, p.2) (Refuses-whole c.in_err-cal.field-0.0 _ _ c.in_err-cal.ensures.said (λ f is. rw (c.in_ok-serial.ensures.said, c.in_ok-maker.ensures.said, c.in_ok-version.ensures.said, c.in_ok-address.ensures.said, c.in_ok-place.ensures, c.in_ok-pressure_kpa.ensures.said, c.in_ok-sensor.ensures, c.in_ok-per_pulse.ensures.said, c.in_ok-energy_decimals.ensures.said, c.in_ok-volume_decimals.ensures.said, c.in_ok-set_month.ensures.said, c.in_ok-opening_day.ensures, is) refl))

pub returns-clause-said : goal.returns-clause-said
unfolding said_by keys key_names
returns-clause-said c = rw (c.in_ok-serial.ensures.said, c.in_ok-maker.ensures.said, c.in_ok-version.ensures.said, c.in_ok-address.ensures.said, c.in_ok-place.ensures, c.in_ok-pressure_kpa.ensures.said, c.in_ok-sensor.ensures, c.in_ok-per_pulse.ensures.said, c.in_ok-energy_decimals.ensures.said, c.in_ok-volume_decimals.ensures.said, c.in_ok-set_month.ensures.said, c.in_ok-opening_day.ensures, c.in_ok-cal.ensures.said) refl

a_sensor : (s : Sensor) → IsTrue (is_sensor (sensor_ohm s))
a_sensor Pt100 = refl
a_sensor Pt500 = refl
a_sensor Pt1000 = refl

pub returns-clause-range : goal.returns-clause-range
returns-clause-range c = record {
  serial = c.in_ok-serial.ensures.range;
  maker_length = c.in_ok-maker.ensures.three;
  maker = c.in_ok-maker.ensures.range;
  version = c.in_ok-version.ensures.range.1;
  address = c.in_ok-address.ensures.range.1;
  pressure_kpa = c.in_ok-pressure_kpa.ensures.range;
  sensor_ohm = a_sensor c.in_ok-sensor.sensor;
  litres_per_pulse = c.in_ok-per_pulse.ensures.range;
  energy_decimals = c.in_ok-energy_decimals.ensures.range.1;
  volume_decimals = c.in_ok-volume_decimals.ensures.range.1;
  set_month = c.in_ok-set_month.ensures.range;
  opening_day = c.in_ok-opening_day.opening_day.in_century;
  calibration = c.in_ok-cal.ensures.range;
}
