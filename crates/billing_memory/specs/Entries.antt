-- A meter's entries, in the words of the definitions.
use Rattle.std.specs.Prelude.{ℕ, List, map, Option}
use Rattle.std.specs.Option.{option_map}
use Rattle.metering_model.specs.Records as records
use Rattle.calendar_model.specs.Entries.{MonthEntry}
use Rattle.energy_register.specs.Register.{register_view}
use Rattle.billing_memory.specs.declared.entry.Entry.{Entry}

abbrev pub entry_view : Entry → MonthEntry records.Register
entry_view e = record { day = e.day.number; register = register_view e.register }

abbrev pub entries_view : List Entry → List (MonthEntry records.Register)
entries_view es = map entry_view es

abbrev pub set_day_view : Option Entry → Option (MonthEntry records.Register)
set_day_view e = option_map entry_view e

-- the pulses that entries show
abbrev pub pulses_of : List (MonthEntry records.Register) → List ℕ
pulses_of entries = map (λ e. e.register.pulses) entries
