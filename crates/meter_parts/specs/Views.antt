-- The parts of a configuration as the definitions name them.
use Rattle.std.specs.Prelude.{ℕ, ◌*◌, Option, option_map}
use Rattle.platinum_model.specs.Element.{Element}
use Rattle.parts_model.specs.Place as model
use Rattle.meter_parts.specs.declared.cal.Cal.{Cal}
use Rattle.meter_parts.specs.declared.place.Place.{Place}
use Rattle.meter_parts.specs.declared.place.Place.TheVariants.{Flow, Return}
use Rattle.meter_parts.specs.declared.sensor.Sensor.{Sensor}
use Rattle.meter_parts.specs.declared.sensor.Sensor.TheVariants.{Pt100, Pt500, Pt1000}

-- the pipe in which the flow sensor sits
abbrev pub place_view : Place → model.Place
place_view Flow = model.Flow
place_view Return = model.Return

-- the nominal resistance at 0 °C in ohms, and in microohms
abbrev pub sensor_ohm : Sensor → ℕ
sensor_ohm Pt100 = 100
sensor_ohm Pt500 = 500
sensor_ohm Pt1000 = 1000

abbrev pub nominal_r0 : Sensor → ℕ
nominal_r0 s = 1000000 * sensor_ohm s

-- the element with these constants
abbrev pub constants : Cal → Element
constants c = record { r0_uohm = c.r0_uohm; a_e10 = c.a_e10; b_e10 = c.b_e10 }

abbrev pub constants_of_both : Cal × Cal → Element × Element
constants_of_both c = (constants c.0, constants c.1)

-- the constants of both sensors, where they are calibrated
abbrev pub calibration_view : Option (Cal × Cal) → Option (Element × Element)
calibration_view = option_map constants_of_both
