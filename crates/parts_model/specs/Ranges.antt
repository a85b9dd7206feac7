-- The range of each part of a configuration.
use Rattle.std.specs.Prelude.{ℕ, ◌==◌, ◌||◌, ◌&&◌, nat_le, Bool}
use Rattle.std.specs.Int.{is_in_range}

-- eight digits
abbrev pub max_serial : ℕ
max_serial = 99999999

abbrev pub is_serial : ℕ → Bool
is_serial serial = nat_le serial max_serial

-- A to Z
abbrev pub is_capital : ℕ → Bool
is_capital letter = nat_le 65 letter && nat_le letter 90

-- a byte
abbrev pub max_version : ℕ
max_version = 255

abbrev pub is_version : ℕ → Bool
is_version version = nat_le version max_version

-- the last primary address on the M-Bus (EN 13757-2)
abbrev pub max_address : ℕ
max_address = 250

abbrev pub is_address : ℕ → Bool
is_address address = nat_le address max_address

-- in kPa
abbrev pub min_pressure_kpa : ℕ
min_pressure_kpa = 1100

abbrev pub max_pressure_kpa : ℕ
max_pressure_kpa = 4000

abbrev pub is_pressure : ℕ → Bool
is_pressure kpa = is_in_range min_pressure_kpa max_pressure_kpa kpa

abbrev pub is_sensor : ℕ → Bool
is_sensor ohm = (ohm == 100) || (ohm == 500) || (ohm == 1000)

abbrev pub is_pulse : ℕ → Bool
is_pulse litres = (litres == 1) || (litres == 10) || (litres == 100) || (litres == 1000)

abbrev pub max_decimals : ℕ
max_decimals = 3

abbrev pub is_decimals : ℕ → Bool
is_decimals decimals = nat_le decimals max_decimals

-- the months of a year
abbrev pub last_month : ℕ
last_month = 12

abbrev pub is_set_month : ℕ → Bool
is_set_month month = is_in_range 1 last_month month
