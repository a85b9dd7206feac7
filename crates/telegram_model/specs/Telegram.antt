-- The telegrams of a reading.
use Rattle.std.specs.Prelude.{ℕ, zero, suc, ◌+◌, ◌-◌, ◌*◌, ◌/◌, cond, if◌then◌else◌, nat_lt, nat_le, pos, ◌-ℤ◌, ℤ, List, [], ◌∷◌, ◌++◌, length, take, drop, reverse, Option, None, Some}
use Rattle.std.specs.Int.{w16, to_le_bytes}
use Rattle.std.specs.List.{fold}
use Rattle.parts_model.specs.Place.{Place, Flow, Return}
use Rattle.platinum_model.specs.Element.{Element}
use Rattle.calendar_model.specs.Entries.{MonthEntry}
use Rattle.display_model.specs.Display.{shown_digits, energy_unit, volume_unit}
use Rattle.config_model.specs.Configuration.{Configuration, flow_element, return_element}
use Rattle.metering_model.specs.Counting.{is_in_range, whole_temp}
use Rattle.metering_model.specs.Limits.{max_months}
use Rattle.metering_model.specs.Records.{Register, MeterRecord}
use Rattle.frame_model.specs.Frames.{Frame, Ack, Short, Long}
use Rattle.telegram_model.specs.Values.{information, decimal_bytes, integer_bytes, thousandths, date_bytes}

-- ---- the header

-- three letters as one number, five bits a letter, with A = 1
abbrev pub maker_code : List ℕ → ℕ
maker_code letters = fold (λ code letter. 32 * code + (letter - 64)) 0 letters

-- heat, with the flow sensor in the return or in the flow
abbrev pub medium : Place → ℕ
medium Return = 4
medium Flow = 12

-- the serial number, the maker, the version, the medium, the access number, the status 0 and the signature 0 in two bytes
unfoldable pub header : Configuration → ℕ → List ℕ
header c access =
    decimal_bytes c.serial ++ to_le_bytes w16 (maker_code c.maker) ++ c.version ∷ medium c.place ∷ access ∷ 0 ∷ 0 ∷ 0 ∷ []

-- ---- data records: information field, unit, value. Kinds: 02 a date, 04 a whole number, 0C eight digits

-- the energy shown, in kWh: unit 06 less the decimals
unfoldable pub energy_record : Configuration → ℕ → Register → List ℕ
energy_record c storage r =
    information 12 storage ++ (6 - c.energy_decimals) ∷ decimal_bytes (shown_digits r.energy_mj (energy_unit c.energy_decimals))

-- the volume shown, in cubic metres: unit 16 (hexadecimal) less the decimals
unfoldable pub volume_record : Configuration → ℕ → Register → List ℕ
volume_record c storage r =
    information 12 storage ++ (22 - c.volume_decimals) ∷ decimal_bytes (shown_digits (pos (r.pulses * c.litres_per_pulse)) (volume_unit c.volume_decimals))

-- a day: unit 6C
unfoldable pub date_record : ℕ → ℕ → List ℕ
date_record storage day = information 2 storage ++ 108 ∷ date_bytes day

-- a temperature or a difference of two, in thousandths of a degree
abbrev pub temp_record : ℕ → ℤ → List ℕ
temp_record unit microdegrees = information 4 0 ++ unit ∷ integer_bytes (thousandths microdegrees)

-- a temperature where it is known
abbrev pub one_temp : ℕ → Option ℕ → List ℕ
one_temp unit None = []
one_temp unit (Some t) = temp_record unit (pos t)

-- how much warmer the flow is, where both are known: unit 60
abbrev pub difference : Option ℕ → Option ℕ → List ℕ
difference None ret = []
difference (Some flow) None = []
difference (Some flow) (Some ret) = temp_record 96 (pos flow -ℤ pos ret)

-- the temperature in the flow, unit 58, that in the return, unit 5C, and their difference
unfoldable pub temp_records : Option ℕ → Option ℕ → List ℕ
temp_records flow ret = one_temp 88 flow ++ one_temp 92 ret ++ difference flow ret

-- the whole temperature of a sample, in microdegrees, where it is in range
abbrev pub temp_of : Element → ℕ → Option ℕ
temp_of e sample = cond (is_in_range e sample) (Some (whole_temp e sample)) None

-- the temperatures of the samples in force
abbrev pub sample_records : (flow ret : Element) → Option (ℕ × ℕ) → List ℕ
sample_records flow ret None = []
sample_records flow ret (Some s) = temp_records (temp_of flow s.0) (temp_of ret s.1)

-- the day of an entry, and what its register showed
unfoldable pub entry_records : Configuration → ℕ → MonthEntry Register → List ℕ
entry_records c storage e =
    date_record storage e.day ++ energy_record c storage e.register ++ volume_record c storage e.register

-- the entry of the set day, with storage number 1
abbrev pub set_day_records : Configuration → Option (MonthEntry Register) → List ℕ
set_day_records c None = []
set_day_records c (Some e) = entry_records c 1 e

-- entries with storage numbers from this one on
abbrev pub records_from : Configuration → ℕ → List (MonthEntry Register) → List ℕ
records_from c storage [] = []
records_from c storage (e ∷ es) = entry_records c storage e ++ records_from c (storage + 1) es

-- ---- telegrams

-- the newest 24 month entries, from the newest on
abbrev pub newest : MeterRecord → List (MonthEntry Register)
newest m = take max_months (reverse m.months)

-- what the meter shows, its temperatures, its day and the entry of its set day
unfoldable pub first_records : Configuration → MeterRecord → List ℕ
first_records c m =
    energy_record c 0 m.register
    ++ volume_record c 0 m.register
    ++ sample_records (flow_element c) (return_element c) m.samples
    ++ date_record 0 m.day
    ++ set_day_records c m.set_day

-- telegram 0 has these; telegram k from 1 on has eight month entries at most, numbers 8 (k - 1) to 8 k - 1 from the newest on
abbrev pub records_of : Configuration → MeterRecord → ℕ → List ℕ
records_of c m zero = first_records c m
records_of c m (suc k) = records_from c (8 * k + 2) (take 8 (drop (8 * k) (newest m)))

-- the mark 1F that a further telegram follows, where month entries are left
abbrev pub mark_of : MeterRecord → ℕ → List ℕ
mark_of m k = if nat_lt (8 * k) (length (newest m)) then 31 ∷ [] else []

-- Telegram k of a record and an access number. There is one more than the month entries divided by 8, rounded up.
-- Control field 08, the meter's address, control information 72.
unfoldable pub telegram : Configuration → MeterRecord → (k access : ℕ) → Option Frame
telegram c m k access =
    if nat_le k ((length (newest m) + 7) / 8)
    then Some (Long 8 c.address 114 (header c access ++ records_of c m k ++ mark_of m k))
    else None

-- how many bytes the body of a frame has
abbrev pub body_length : Frame → ℕ
body_length Ack = 0
body_length (Short c a) = 0
body_length (Long c a ci body) = length body
