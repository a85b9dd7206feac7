-- What the telegrams and data messages that a meter writes say: the displays, temperatures, days and entries that they were
-- written from.
use Rattle.std.specs.Prelude.{ℕ, zero, suc, ◌+◌, ◌*◌, nat_lt, ℤ, pos, ◌-ℤ◌, List, [], ◌∷◌, ◌++◌, length, take, drop, reverse, Option, None, Some, ◌≤◌}
use Rattle.std.specs.List.{All}
use Rattle.std.specs.Option.{option_to_list}
use Rattle.platinum_model.specs.Element.{Element}
use Rattle.calendar_model.specs.Calendar.{last_day}
use Rattle.calendar_model.specs.Entries.{MonthEntry}
use Rattle.display_model.specs.Display.{shown_digits, energy_unit, volume_unit}
use Rattle.config_model.specs.Configuration.{Configuration, flow_element, return_element}
use Rattle.metering_model.specs.Records.{Register, MeterRecord}
use Rattle.telegram_model.specs.Values.{thousandths}
use Rattle.telegram_model.specs.Telegram.{temp_of, newest}
use Rattle.reading_model.specs.Fields.{Kind, Energy, Volume, FlowTemp, ReturnTemp, Difference, Date, Reading, Telegram, Number, Shown, Message}

-- the digits of the energy shown
abbrev pub energy_digits : Configuration → Register → ℕ
energy_digits c r = shown_digits r.energy_mj (energy_unit c.energy_decimals)

-- the digits of the volume shown
abbrev pub volume_digits : Configuration → Register → ℕ
volume_digits c r = shown_digits (pos (r.pulses * c.litres_per_pulse)) (volume_unit c.volume_decimals)

-- ---- telegrams

-- the energy shown: its last digit counts 10^3 Wh less the decimals
abbrev pub energy_reading : Configuration → ℕ → Register → Reading
energy_reading c storage r = record {
  storage = storage;
  kind = Energy;
  value = pos (energy_digits c r);
  exp = pos 3 -ℤ pos c.energy_decimals;
}

-- the volume shown: its last digit counts 1 m³ less the decimals
abbrev pub volume_reading : Configuration → ℕ → Register → Reading
volume_reading c storage r = record {
  storage = storage;
  kind = Volume;
  value = pos (volume_digits c r);
  exp = pos 0 -ℤ pos c.volume_decimals;
}

abbrev pub date_reading : ℕ → ℕ → Reading
date_reading storage day = record { storage = storage; kind = Date; value = pos day; exp = pos 0 }

-- a temperature, of microdegrees, in thousandths of a degree
abbrev pub temp_reading : Kind → ℤ → Reading
temp_reading kind microdegrees =
    record { storage = 0; kind = kind; value = thousandths microdegrees; exp = pos 0 -ℤ pos 3 }

abbrev pub one_temp_reading : Kind → Option ℕ → List Reading
one_temp_reading kind None = []
one_temp_reading kind (Some t) = temp_reading kind (pos t) ∷ []

abbrev pub difference_reading : Option ℕ → Option ℕ → List Reading
difference_reading None ret = []
difference_reading (Some flow) None = []
difference_reading (Some flow) (Some ret) = temp_reading Difference (pos flow -ℤ pos ret) ∷ []

abbrev pub temp_readings : Option ℕ → Option ℕ → List Reading
temp_readings flow ret = one_temp_reading FlowTemp flow ++ one_temp_reading ReturnTemp ret ++ difference_reading flow ret

-- the temperatures of the samples in force, where they are in range
abbrev pub sample_readings : (flow ret : Element) → Option (ℕ × ℕ) → List Reading
sample_readings flow ret None = []
sample_readings flow ret (Some s) = temp_readings (temp_of flow s.0) (temp_of ret s.1)

-- an entry: its day, its energy and its volume
abbrev pub entry_readings : Configuration → ℕ → MonthEntry Register → List Reading
entry_readings c storage e = date_reading storage e.day ∷ energy_reading c storage e.register ∷ volume_reading c storage e.register ∷ []

abbrev pub set_day_readings : Configuration → Option (MonthEntry Register) → List Reading
set_day_readings c None = []
set_day_readings c (Some e) = entry_readings c 1 e

abbrev pub readings_from : Configuration → ℕ → List (MonthEntry Register) → List Reading
readings_from c storage [] = []
readings_from c storage (e ∷ es) = entry_readings c storage e ++ readings_from c (storage + 1) es

abbrev pub first_readings : Configuration → MeterRecord → List Reading
first_readings c m =
    energy_reading c 0 m.register
    ∷ volume_reading c 0 m.register
    ∷ sample_readings (flow_element c) (return_element c) m.samples ++ date_reading 0 m.day ∷ [] ++ set_day_readings c m.set_day

-- those of telegram 0, and of telegram k with its eight month entries at most, from the newest on
abbrev pub readings_of : Configuration → MeterRecord → ℕ → List Reading
readings_of c m zero = first_readings c m
readings_of c m (suc k) = readings_from c (8 * k + 2) (take 8 (drop (8 * k) (newest m)))

-- what telegram k of a record says, and whether month entries are left for a further one
abbrev pub telegram_said : Configuration → MeterRecord → (k access : ℕ) → Telegram
telegram_said c m k access = record {
  address = c.address;
  serial = c.serial;
  maker = c.maker;
  version = c.version;
  place = c.place;
  access = access;
  status = 0;
  records = readings_of c m k;
  more = nat_lt (8 * k) (length (newest m));
}

-- ---- data messages

abbrev pub energy_number : Configuration → Register → Number
energy_number c r = record { digits = energy_digits c r; decimals = c.energy_decimals }

abbrev pub volume_number : Configuration → Register → Number
volume_number c r = record { digits = volume_digits c r; decimals = c.volume_decimals }

-- entries with marks from this one on
abbrev pub shown_from : Configuration → ℕ → List (MonthEntry Register) → List Shown
shown_from c mark [] = []
shown_from c mark (e ∷ es) =
    record { mark = mark; day = e.day; energy = energy_number c e.register; volume = volume_number c e.register } ∷ shown_from c (mark + 1) es

-- what the data message of a record says: the entry of the set day with mark 1, and those of the months, newest first
abbrev pub message_said : Configuration → MeterRecord → Message
message_said c m = record {
  serial = c.serial;
  energy = energy_number c m.register;
  volume = volume_number c m.register;
  day = m.day;
  entries = shown_from c 1 (option_to_list m.set_day) ++ shown_from c 2 (reverse m.months);
}

-- ---- records of these years

abbrev pub IsInCentury : MonthEntry Register → Type 0
IsInCentury e = e.day ≤ last_day

-- the days of a record and of its entries are from 2000-01-01 to 2099-12-31
pub record HasDays (m : MeterRecord) : Type 0 where
  pub day : m.day ≤ last_day
  pub set_day : All IsInCentury (option_to_list m.set_day)
  pub months : All IsInCentury m.months
