-- The configuration of a meter.
use Rattle.std.specs.Prelude.{◌≡◌, ℕ, ◌*◌, ◌≤◌, ◌&&◌, Bool, true, IsTrue, List, length, Option, None, Some}
use Rattle.std.specs.Int.{IsInRange}
use Rattle.std.specs.List.{list_all}
use Rattle.parts_model.specs.Place.{Place}
use Rattle.parts_model.specs.Ranges.{is_capital, is_pulse, is_sensor, last_month, max_address, max_decimals, max_pressure_kpa, max_serial, max_version, min_pressure_kpa}
use Rattle.calendar_model.specs.Calendar.{last_day}
use Rattle.platinum_model.specs.Element.{Element, nominal}
use Rattle.platinum_model.specs.Calibration.{fits}

-- The serial number of at most eight digits, the maker's letters in ASCII, the version, the address on the bus, where
-- the flow sensor sits, the pressure of the water in kPa, the nominal resistance at 0 °C of the temperature sensors in
-- ohms, the litres that a pulse stands for, the decimals that energy and volume are shown with, the month of the year of
-- the set day, the first day, counted from 2000-01-01, and the constants of the sensors in the flow and in the return
-- where they are calibrated.
pub record Configuration : Type 0 where
  pub serial : ℕ
  pub maker : List ℕ
  pub version : ℕ
  pub address : ℕ
  pub place : Place
  pub pressure_kpa : ℕ
  pub sensor_ohm : ℕ
  pub litres_per_pulse : ℕ
  pub energy_decimals : ℕ
  pub volume_decimals : ℕ
  pub set_month : ℕ
  pub opening_day : ℕ
  pub calibration : Option (Element × Element)

-- the constants of a calibration fit sensors of so many ohms
abbrev pub is_calibration : (sensor_ohm : ℕ) → Option (Element × Element) → Bool
is_calibration ohm None = true
is_calibration ohm (Some c) = fits c.0 (1000000 * ohm) && fits c.1 (1000000 * ohm)

-- the constants that a calibration gives, or else the nominal ones
abbrev pub flow_or_nominal : (sensor_ohm : ℕ) → Option (Element × Element) → Element
flow_or_nominal ohm None = nominal (1000000 * ohm)
flow_or_nominal ohm (Some c) = c.0

abbrev pub return_or_nominal : (sensor_ohm : ℕ) → Option (Element × Element) → Element
return_or_nominal ohm None = nominal (1000000 * ohm)
return_or_nominal ohm (Some c) = c.1

-- the elements of the sensors in the flow and in the return
abbrev pub flow_element : Configuration → Element
flow_element c = flow_or_nominal c.sensor_ohm c.calibration

abbrev pub return_element : Configuration → Element
return_element c = return_or_nominal c.sensor_ohm c.calibration

-- what two sensors have, where both have it
abbrev pub both : {A : Type 0} → Option A → Option A → Option (A × A)
both None ret = None
both (Some f) None = None
both (Some f) (Some r) = Some (f, r)

-- each part is in its range
pub record IsConfiguration (c : Configuration) : Type 0 where
  pub serial : c.serial ≤ max_serial
  pub maker_length : length c.maker ≡ 3
  pub maker : IsTrue (list_all is_capital c.maker)
  pub version : c.version ≤ max_version
  pub address : c.address ≤ max_address
  pub pressure_kpa : IsInRange min_pressure_kpa max_pressure_kpa c.pressure_kpa
  pub sensor_ohm : IsTrue (is_sensor c.sensor_ohm)
  pub litres_per_pulse : IsTrue (is_pulse c.litres_per_pulse)
  pub energy_decimals : c.energy_decimals ≤ max_decimals
  pub volume_decimals : c.volume_decimals ≤ max_decimals
  pub set_month : IsInRange 1 last_month c.set_month
  pub opening_day : c.opening_day ≤ last_day
  pub calibration : IsTrue (is_calibration c.sensor_ohm c.calibration)
