-- Constants of a calibration fit a sensor.
use Rattle.std.proofs.Common.{◌≡◌, ◌*◌, true, Option, Some, IsTrue}
use Rattle.std.proofs.lemmas.Bool.{and_parts}
use Rattle.platinum_model.specs.Element.{Element}
use Rattle.platinum_model.specs.Calibration.{fits, fits_a_sensor}
use Rattle.platinum_model.proofs.SensorKinds.{fits_pt100, fits_pt500, fits_pt1000}
use Rattle.config_model.specs.Configuration.{is_calibration}
use Rattle.meter_parts.specs.Views.{calibration_view, constants, sensor_ohm}
use Rattle.meter_parts.specs.declared.cal.Cal.{Cal}
use Rattle.meter_parts.specs.declared.sensor.Sensor.{Sensor}
use Rattle.meter_parts.specs.declared.sensor.Sensor.TheVariants.{Pt100, Pt500, Pt1000}

fits_kind : (e : Element) (s : Sensor) → fits e (1000000 * sensor_ohm s) ≡ true → fits_a_sensor e ≡ true
fits_kind e Pt100 h = fits_pt100 e h
fits_kind e Pt500 h = fits_pt500 e h
fits_kind e Pt1000 h = fits_pt1000 e h

pub flow_fits : (s : Sensor) (cal : Option (Cal × Cal)) (flow ret : Cal) → IsTrue (is_calibration (sensor_ohm s) (calibration_view cal)) → cal ≡ Some (flow, ret) → IsTrue (fits_a_sensor (constants flow))
flow_fits s cal flow ret h is =
    fits_kind (constants flow) s (and_parts (fits (constants flow) (1000000 * sensor_ohm s)) (fits (constants ret) (1000000 * sensor_ohm s)) (rw is at h)).0

pub ret_fits : (s : Sensor) (cal : Option (Cal × Cal)) (flow ret : Cal) → IsTrue (is_calibration (sensor_ohm s) (calibration_view cal)) → cal ≡ Some (flow, ret) → IsTrue (fits_a_sensor (constants ret))
ret_fits s cal flow ret h is =
    fits_kind (constants ret) s (and_parts (fits (constants flow) (1000000 * sensor_ohm s)) (fits (constants ret) (1000000 * sensor_ohm s)) (rw is at h)).1
