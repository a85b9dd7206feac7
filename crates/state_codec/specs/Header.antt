-- The parts of the header.
use Rattle.std.specs.Prelude.{ℕ, List, [], ◌∷◌, ◌++◌, replicate, Option, None, Some}
use Rattle.std.specs.Int.{w16, w32, to_le_bytes}
use Rattle.config_model.specs.Configuration.{Configuration, both}
use Rattle.parts_model.specs.Place as model
use Rattle.meter_parts.specs.Views.{place_view, sensor_ohm}
use Rattle.platinum_model.specs.Element.{Element}
use Rattle.memory_model.specs.Fields.{value}
use Rattle.memory_model.specs.Header.{serial_field, first_letter_field, second_letter_field, third_letter_field, version_field, address_field, place_field, place_of, pressure_field, sensor_field, litres_field, energy_decimals_field, volume_decimals_field, set_month_field, opening_day_field, constants_of}
use Rattle.state_codec.specs.declared.header_parts.Identity.{Identity}
use Rattle.state_codec.specs.declared.header_parts.Measuring.{Measuring}
use Rattle.state_codec.specs.declared.header_parts.Billing.{Billing}

abbrev pub identity_of : List ℕ → ℕ × List ℕ × ℕ × ℕ
identity_of bytes = (
  value serial_field bytes,
  value first_letter_field bytes ∷ value second_letter_field bytes ∷ value third_letter_field bytes ∷ [],
  value version_field bytes,
  value address_field bytes,
)

abbrev pub identity_view : Identity → ℕ × List ℕ × ℕ × ℕ
identity_view x = (x.serial, x.maker, x.version, x.address)

abbrev pub measuring_of : List ℕ → model.Place × ℕ × ℕ × ℕ
measuring_of bytes = (
  place_of (value place_field bytes),
  value pressure_field bytes,
  value sensor_field bytes,
  value litres_field bytes,
)

abbrev pub measuring_view : Measuring → model.Place × ℕ × ℕ × ℕ
measuring_view x = (place_view x.place, x.pressure_kpa, sensor_ohm x.sensor, x.per_pulse)

abbrev pub billing_of : List ℕ → ℕ × ℕ × ℕ × ℕ
billing_of bytes = (
  value energy_decimals_field bytes,
  value volume_decimals_field bytes,
  value set_month_field bytes,
  value opening_day_field bytes,
)

abbrev pub billing_view : Billing → ℕ × ℕ × ℕ × ℕ
billing_view x = (x.energy_decimals, x.volume_decimals, x.set_month, x.opening_day.number)

abbrev pub calibration_of : List ℕ → Option (Element × Element)
calibration_of bytes = both (constants_of 28 bytes) (constants_of 40 bytes)

-- ---- a configuration's one spelling

abbrev pub place_code : model.Place → ℕ
place_code model.Flow = 0
place_code model.Return = 1

unfoldable pub identity_bytes : Configuration → List ℕ
identity_bytes c = 1 ∷ (to_le_bytes w32 c.serial ++ (c.maker ++ c.version ∷ c.address ∷ []))

unfoldable pub measuring_bytes : Configuration → List ℕ
measuring_bytes c =
    place_code c.place ∷ (to_le_bytes w16 c.pressure_kpa ++ (to_le_bytes w16 c.sensor_ohm ++ to_le_bytes w16 c.litres_per_pulse))

unfoldable pub billing_bytes : Configuration → List ℕ
billing_bytes c = c.energy_decimals ∷ c.volume_decimals ∷ c.set_month ∷ 0 ∷ to_le_bytes w16 c.opening_day

-- R0, A and B of a sensor, and two zeros
unfoldable pub constants_bytes : Element → List ℕ
constants_bytes e = to_le_bytes w32 e.r0_uohm ++ (to_le_bytes w32 e.a_e10 ++ (to_le_bytes w16 e.b_e10 ++ 0 ∷ 0 ∷ []))

-- zeros where the sensors are not calibrated
unfoldable pub calibration_bytes : Option (Element × Element) → List ℕ
calibration_bytes None = replicate 28 0
calibration_bytes (Some c) = 1 ∷ 0 ∷ 0 ∷ 0 ∷ (constants_bytes c.0 ++ constants_bytes c.1)

-- bytes 1 to 23, and bytes 1 to 255
unfoldable pub settings_bytes : Configuration → List ℕ
settings_bytes c = identity_bytes c ++ (measuring_bytes c ++ billing_bytes c)

unfoldable pub header_bytes : Configuration → List ℕ
header_bytes c = identity_bytes c ++ (measuring_bytes c ++ (billing_bytes c ++ (calibration_bytes c.calibration ++ replicate 204 0)))
