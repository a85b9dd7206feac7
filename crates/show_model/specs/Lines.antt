-- The lines that show what a memory holds.
use Rattle.std.specs.Prelude.{◌≡◌, ℕ, ◌*◌, ℤ, pos, List, [], ◌∷◌, ◌++◌, codes, Option, None, Some}
use Rattle.std.specs.Fmt.{decimal}
use Rattle.calendar_model.specs.Entries.{MonthEntry}
use Rattle.calendar_model.specs.Texts.{IsDayText}
use Rattle.config_model.specs.Configuration.{Configuration}
use Rattle.display_model.specs.Display.{energy_unit, volume_unit, shown_digits, eight_digits, pointed}
use Rattle.metering_model.specs.Records.{MeterRecord, Register}
use Rattle.answer_model.specs.Texts.{register_shown}

-- what a display of eight digits shows of a register, in units of its last digit, with so many decimals
abbrev pub display_text : (decimals unit : ℕ) → ℤ → List ℕ
display_text decimals unit register = pointed decimals (eight_digits (shown_digits register unit))

-- the volume in litres, shown in cubic metres
abbrev pub volume_display : Configuration → Register → List ℕ
volume_display c r = display_text c.volume_decimals (volume_unit c.volume_decimals) (pos (r.pulses * c.litres_per_pulse))

-- the energy in millijoules, shown in kWh
abbrev pub energy_display : Configuration → Register → List ℕ
energy_display c r = display_text c.energy_decimals (energy_unit c.energy_decimals) r.energy_mj

-- ---- the lines

-- `serial SERIAL`, in eight digits
abbrev pub serial_line : Configuration → List ℕ
serial_line c = codes "serial " ++ eight_digits c.serial ++ codes "\n"

-- `day YYYY-MM-DD`: the day in force
abbrev pub IsDayLine : MeterRecord → List ℕ → Type 0
IsDayLine r line = (day : List ℕ) × IsDayText r.day day × (line ≡ codes "day " ++ day ++ codes "\n")

-- `seq K`: the number of events
abbrev pub seq_line : MeterRecord → List ℕ
seq_line r = codes "seq " ++ decimal r.seq ++ codes "\n"

-- `volume TEXT m3`
abbrev pub volume_line : Configuration → MeterRecord → List ℕ
volume_line c r = codes "volume " ++ volume_display c r.register ++ codes " m3\n"

-- `energy TEXT kWh`
abbrev pub energy_line : Configuration → MeterRecord → List ℕ
energy_line c r = codes "energy " ++ energy_display c r.register ++ codes " kWh\n"

-- `register VOL E B`: litres, and the energy and its bound in millijoules
abbrev pub register_line : Configuration → MeterRecord → List ℕ
register_line c r = codes "register " ++ register_shown c.litres_per_pulse r.register ++ codes "\n"

-- `faulty N`: the pulses counted while a sample was out of range
abbrev pub faulty_line : MeterRecord → List ℕ
faulty_line r = codes "faulty " ++ decimal r.faulty ++ codes "\n"

-- `NAME YYYY-MM-DD VOL E B`: the day of an entry, and the register on it
abbrev pub IsEntryLine : List ℕ → Configuration → MonthEntry Register → List ℕ → Type 0
IsEntryLine name c e line =
    (day : List ℕ) × IsDayText e.day day × (line ≡ name ++ codes " " ++ day ++ codes " " ++ register_shown c.litres_per_pulse e.register ++ codes "\n")

-- the line of the set day, `set -` where none is kept
abbrev pub IsSetLine : Configuration → Option (MonthEntry Register) → List ℕ → Type 0
IsSetLine c None line = line ≡ codes "set -\n"
IsSetLine c (Some e) line = IsEntryLine (codes "set") c e line

-- one line for each month entry, in their order
abbrev pub AreMonthLines : Configuration → List (MonthEntry Register) → List (List ℕ) → Type 0
AreMonthLines c [] lines = lines ≡ []
AreMonthLines c (e ∷ es) [] = ⊥
AreMonthLines c (e ∷ es) (line ∷ lines) = IsEntryLine (codes "month") c e line × AreMonthLines c es lines

-- the lines before those of the month entries
pub record AreStateLines (c : Configuration) (r : MeterRecord) (lines : List (List ℕ)) : Type 0 where
  pub day : List ℕ
  pub set : List ℕ
  pub day_is : IsDayLine r day
  pub set_is : IsSetLine c r.set_day set
  pub are : lines ≡ serial_line c ∷ day ∷ seq_line r ∷ volume_line c r ∷ energy_line c r ∷ register_line c r ∷ faulty_line r ∷ set ∷ []

-- the lines of a configuration and a record; the month entries are the oldest first
pub record AreShowLines (c : Configuration) (r : MeterRecord) (lines : List (List ℕ)) : Type 0 where
  pub state : List (List ℕ)
  pub months : List (List ℕ)
  pub state_is : AreStateLines c r state
  pub months_are : AreMonthLines c r.months months
  pub are : lines ≡ state ++ months
