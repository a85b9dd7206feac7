-- What a meter says at its optical head, after IEC 62056-21.
use Rattle.std.specs.Prelude.{◌≡◌, ℕ, ◌+◌, bit_xor, List, [], ◌∷◌, ◌++◌, reverse, codes}
use Rattle.std.specs.List.{fold}
use Rattle.std.specs.Option.{option_to_list}
use Rattle.calendar_model.specs.Entries.{MonthEntry}
use Rattle.calendar_model.specs.Texts.{IsDayText, two_digits}
use Rattle.display_model.specs.Display.{eight_digits}
use Rattle.metering_model.specs.Records.{Register, MeterRecord}
use Rattle.config_model.specs.Configuration.{Configuration}
use Rattle.show_model.specs.Lines.{energy_display, volume_display}

-- the identification: the maker's letters and the name of the meter's kind
abbrev pub identification : Configuration → List ℕ
identification c = codes "/" ++ c.maker ++ codes "5HEAT\r\n"

-- the energy as the display shows it, in brackets, at the end of a line
abbrev pub energy_value : Configuration → Register → List ℕ
energy_value c r = codes "(" ++ energy_display c r ++ codes "*kWh)\r\n"

-- the volume as the display shows it, in brackets, at the end of a line
abbrev pub volume_value : Configuration → Register → List ℕ
volume_value c r = codes "(" ++ volume_display c r ++ codes "*m3)\r\n"

-- the line of the serial number
abbrev pub serial_line : Configuration → List ℕ
serial_line c = codes "9.21(" ++ eight_digits c.serial ++ codes ")\r\n"

-- the line of a day
abbrev pub day_line : (day : List ℕ) → List ℕ
day_line day = codes "9.36(" ++ day ++ codes ")\r\n"

-- the lines of the serial number, of a register and of a day
abbrev pub first_lines : Configuration → Register → (day : List ℕ) → List ℕ
first_lines c r day =
    serial_line c ++ codes "6.8" ++ energy_value c r ++ codes "6.26" ++ volume_value c r ++ day_line day

-- the mark of an entry and its day
abbrev pub marked : (mark : ℕ) → (day : List ℕ) → List ℕ
marked mark day = codes "*" ++ two_digits mark ++ codes "(" ++ day ++ codes ")"

-- the two lines of an entry
abbrev pub entry_lines : Configuration → Register → (mark : ℕ) → (day : List ℕ) → List ℕ
entry_lines c r mark day =
    codes "6.8" ++ marked mark day ++ energy_value c r ++ codes "6.26" ++ marked mark day ++ volume_value c r

-- the lines of entries, the first with this mark and each with one more than the one before it
abbrev pub AreEntryLines : Configuration → (mark : ℕ) → List (MonthEntry Register) → List ℕ → Type 0
AreEntryLines c mark [] text = text ≡ []
AreEntryLines c mark (e ∷ es) text =
    (day rest : List ℕ) × IsDayText e.day day × AreEntryLines c (mark + 1) es rest × (text ≡ entry_lines c e.register mark day ++ rest)

-- the block of a record: its registers, the set day entry marked 01 where there is one, and the month entries, newest
-- first, marked from 02 on
pub record IsBlock (c : Configuration) (r : MeterRecord) (block : List ℕ) : Type 0 where
  pub day : List ℕ
  pub set_day : List ℕ
  pub months : List ℕ
  pub day_text : IsDayText r.day day
  pub set_day_lines : AreEntryLines c 1 (option_to_list r.set_day) set_day
  pub month_lines : AreEntryLines c 2 (reverse r.months) months
  pub is : block ≡ first_lines c r.register day ++ set_day ++ months

-- the block check character: the exclusive or of the bytes
abbrev pub check_character : List ℕ → ℕ
check_character bytes = fold bit_xor 0 bytes

-- a block with what stands behind it, up to ETX: the bytes that are checked
abbrev pub checked : List ℕ → List ℕ
checked block = block ++ codes "!\r\n" ++ 3 ∷ []

-- the data message of a record: STX, the block up to ETX, and the check character
pub record IsDataMessage (c : Configuration) (r : MeterRecord) (message : List ℕ) : Type 0 where
  pub block : List ℕ
  pub lines : IsBlock c r block
  pub is : message ≡ 2 ∷ checked block ++ check_character (checked block) ∷ []
