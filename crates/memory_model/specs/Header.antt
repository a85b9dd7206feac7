-- The header: the first 256 bytes of a memory, of which byte 0 is the mark.
use Rattle.std.specs.Prelude.{ℕ, ◌+◌, ◌*◌, ◌%◌, ◌==◌, nat_le, Bool, if◌then◌else◌, List, [], ◌∷◌, ◌++◌, Option, None, Some, Result}
use Rattle.parts_model.specs.Place.{Place, Flow, Return}
use Rattle.calendar_model.specs.Calendar.{is_day}
use Rattle.platinum_model.specs.Element.{Element}
use Rattle.platinum_model.specs.Calibration.{fits_r0, fits_a, fits_b}
use Rattle.config_model.specs.Configuration.{Configuration, both}
use Rattle.parts_model.specs.Ranges.{is_address, is_capital, is_decimals, is_pressure, is_pulse, is_sensor, is_serial, is_set_month}
use Rattle.memory_model.specs.Fields.{Field, any, field, field_among, value, zero_byte, zero_bytes, first_broken, unless_broken}

abbrev pub header_size : ℕ
header_size = 256

-- the format is any odd number
abbrev pub format_field : Field
format_field = field 1 1 (λ n. n % 2 == 1)

abbrev pub serial_field : Field
serial_field = field 2 4 is_serial

abbrev pub first_letter_field : Field
first_letter_field = field 6 1 is_capital

abbrev pub second_letter_field : Field
second_letter_field = field 7 1 is_capital

abbrev pub third_letter_field : Field
third_letter_field = field 8 1 is_capital

abbrev pub version_field : Field
version_field = field 9 1 any

abbrev pub address_field : Field
address_field = field 10 1 is_address

-- 0 in the flow, 1 in the return
abbrev pub place_field : Field
place_field = field 11 1 (λ n. nat_le n 1)

abbrev pub pressure_field : Field
pressure_field = field 12 2 is_pressure

abbrev pub sensor_field : Field
sensor_field = field 14 2 is_sensor

abbrev pub litres_field : Field
litres_field = field 16 2 is_pulse

abbrev pub energy_decimals_field : Field
energy_decimals_field = field 18 1 is_decimals

abbrev pub volume_decimals_field : Field
volume_decimals_field = field 19 1 is_decimals

abbrev pub set_month_field : Field
set_month_field = field 20 1 is_set_month

abbrev pub opening_day_field : Field
opening_day_field = field 22 2 is_day

-- ---- the constants of calibrated sensors

-- 1 where the sensors are calibrated
abbrev pub calibrated_field : Field
calibrated_field = field 24 1 (λ n. nat_le n 1)

abbrev pub are_calibrated : List ℕ → Bool
are_calibrated bytes = value calibrated_field bytes == 1

-- a constant that keeps its rule, or 0 where the sensors are not calibrated
abbrev pub constant_field : (at size : ℕ) → (ℕ → List ℕ → Bool) → Field
constant_field at size rule = field_among at size (λ n bytes. if are_calibrated bytes then rule n bytes else n == 0)

abbrev pub r0_field : ℕ → Field
r0_field at = constant_field at 4 (λ n bytes. fits_r0 (1000000 * value sensor_field bytes) n)

abbrev pub a_field : ℕ → Field
a_field at = constant_field at 4 (λ n bytes. fits_a n)

abbrev pub b_field : ℕ → Field
b_field at = constant_field at 2 (λ n bytes. fits_b n)

-- R0, A and B of a sensor, in the 12 bytes from an offset on
abbrev pub constants_fields : ℕ → List Field
constants_fields at = r0_field at ∷ a_field (at + 4) ∷ b_field (at + 8) ∷ zero_byte (at + 10) ∷ zero_byte (at + 11) ∷ []

unfoldable pub constants_of : ℕ → List ℕ → Option Element
constants_of at bytes =
    if are_calibrated bytes then Some (record { r0_uohm = value (r0_field at) bytes; a_e10 = value (a_field (at + 4)) bytes; b_e10 = value (b_field (at + 8)) bytes }) else None

-- ---- all of it, in the order in which the fields are checked

abbrev pub identity_fields : List Field
identity_fields =
    format_field
    ∷ serial_field
    ∷ first_letter_field
    ∷ second_letter_field
    ∷ third_letter_field
    ∷ version_field
    ∷ address_field
    ∷ []

abbrev pub measuring_fields : List Field
measuring_fields = place_field ∷ pressure_field ∷ sensor_field ∷ litres_field ∷ []

abbrev pub billing_fields : List Field
billing_fields = energy_decimals_field ∷ volume_decimals_field ∷ set_month_field ∷ zero_byte 21 ∷ opening_day_field ∷ []

abbrev pub calibrated_fields : List Field
calibrated_fields = calibrated_field ∷ zero_byte 25 ∷ zero_byte 26 ∷ zero_byte 27 ∷ []

abbrev pub calibration_fields : List Field
calibration_fields = calibrated_fields ++ (constants_fields 28 ++ constants_fields 40)

unfoldable pub header_fields : List Field
header_fields = identity_fields ++ (measuring_fields ++ (billing_fields ++ (calibration_fields ++ zero_bytes 52 204)))

abbrev pub place_of : ℕ → Place
place_of n = if n == 0 then Flow else Return

unfoldable pub configuration_of : List ℕ → Configuration
configuration_of bytes = record {
  serial = value serial_field bytes;
  maker = value first_letter_field bytes ∷ value second_letter_field bytes ∷ value third_letter_field bytes ∷ [];
  version = value version_field bytes;
  address = value address_field bytes;
  place = place_of (value place_field bytes);
  pressure_kpa = value pressure_field bytes;
  sensor_ohm = value sensor_field bytes;
  litres_per_pulse = value litres_field bytes;
  energy_decimals = value energy_decimals_field bytes;
  volume_decimals = value volume_decimals_field bytes;
  set_month = value set_month_field bytes;
  opening_day = value opening_day_field bytes;
  calibration = both (constants_of 28 bytes) (constants_of 40 bytes);
}

-- the configuration that the header's 256 bytes give, or the offset of the first field that breaks its rule
unfoldable pub header_in : List ℕ → Result Configuration ℕ
header_in bytes = unless_broken (first_broken header_fields bytes) (configuration_of bytes)
