-- A slot of 1,280 bytes, which holds a record. Offsets are within the slot.
use Rattle.std.specs.Prelude.{ℕ, zero, suc, ◌+◌, ◌*◌, ◌==◌, ◌&&◌, ◌||◌, Bool, true, nat_le, nat_lt, if◌then◌else◌, List, [], ◌∷◌, ◌++◌, map, length, Option, None, Some, Result}
use Rattle.std.specs.List.{range_with_len}
use Rattle.calendar_model.specs.Calendar.{is_day, is_first_day, months_to}
use Rattle.calendar_model.specs.Entries.{MonthEntry}
use Rattle.metering_model.specs.Limits.{is_bound_of, is_energy_of, max_events, max_months, max_pulses}
use Rattle.metering_model.specs.Records.{MeterRecord, Register}
use Rattle.memory_model.specs.Fields.{Field, any, field, field_among, value, blank, part, signed, are_zero, keep_all, first_broken, unless_broken}

abbrev pub slot_size : ℕ
slot_size = 1280

-- ---- an entry of 48 bytes, with offsets within it

abbrev pub entry_size : ℕ
entry_size = 48

abbrev pub entry_day_field : Field
entry_day_field = field 0 2 (λ n. is_day n && is_first_day n)

abbrev pub entry_pulses_field : Field
entry_pulses_field = field 8 8 any

abbrev pub entry_energy_field : Field
entry_energy_field = field_among 16 16 (λ n entry. is_energy_of (value entry_pulses_field entry) (signed n))

abbrev pub entry_bound_field : Field
entry_bound_field = field_among 32 16 (λ n entry. is_bound_of (value entry_pulses_field entry) n)

abbrev pub entry_fields : List Field
entry_fields = entry_day_field ∷ blank 2 6 ∷ entry_pulses_field ∷ entry_energy_field ∷ entry_bound_field ∷ []

-- an entry that keeps its fields' rules, in a record with so many pulses
unfoldable pub is_entry : ℕ → List ℕ → Bool
is_entry record_pulses entry = keep_all entry_fields entry && nat_le (value entry_pulses_field entry) record_pulses

unfoldable pub entry_of : List ℕ → MonthEntry Register
entry_of entry = record {
  day = value entry_day_field entry;
  register = record {
    pulses = value entry_pulses_field entry;
    energy_mj = signed (value entry_energy_field entry);
    bound_mj = value entry_bound_field entry;
  };
}

-- ---- the record

abbrev pub seq_field : Field
seq_field = field 0 8 (λ n. nat_le n max_events)

abbrev pub day_field : Field
day_field = field 8 2 is_day

-- 1 where samples are in force
abbrev pub samples_field : Field
samples_field = field 10 1 (λ n. nat_le n 1)

abbrev pub month_count_field : Field
month_count_field = field 11 1 (λ n. nat_le n max_months)

-- 1 where an entry of the set day is kept
abbrev pub set_day_kept_field : Field
set_day_kept_field = field 12 1 (λ n. nat_le n 1)

abbrev pub flow_sample_field : Field
flow_sample_field = field_among 16 4 (λ n bytes. (value samples_field bytes == 1) || (n == 0))

abbrev pub return_sample_field : Field
return_sample_field = field_among 20 4 (λ n bytes. (value samples_field bytes == 1) || (n == 0))

abbrev pub faulty_field : Field
faulty_field = field 24 8 (λ n. nat_le n max_pulses)

abbrev pub pulses_field : Field
pulses_field = field_among 32 8 (λ n bytes. nat_le n max_pulses && nat_le (value faulty_field bytes) n)

abbrev pub energy_field : Field
energy_field = field_among 40 16 (λ n bytes. is_energy_of (value pulses_field bytes) (signed n))

abbrev pub bound_field : Field
bound_field = field_among 56 16 (λ n bytes. is_bound_of (value pulses_field bytes) n)

-- the entry of the set day, whose day is not after the record's, or zeros where none is kept
unfoldable pub set_day_keeps : List ℕ → Bool
set_day_keeps bytes =
    if value set_day_kept_field bytes == 1 then is_entry (value pulses_field bytes) (part 72 entry_size bytes) && nat_le (entry_of (part 72 entry_size bytes)).day (value day_field bytes)
    else are_zero (part 72 entry_size bytes)

abbrev pub set_day_field : Field
set_day_field = record { at = 72; size = entry_size; keeps = set_day_keeps }

-- ---- the 24 month entries, oldest first

abbrev pub month_place : ℕ → ℕ
month_place k = 120 + entry_size * k

abbrev pub month_part : ℕ → List ℕ → List ℕ
month_part k bytes = part (month_place k) entry_size bytes

abbrev pub month_entry : ℕ → List ℕ → MonthEntry Register
month_entry k bytes = entry_of (month_part k bytes)

-- how many months have begun by a day; for a first day, it tells the month
abbrev pub months_begun : ℕ → ℕ
months_begun day = length (months_to day)

-- the later entry has the first day of the month that follows that of the earlier one, and no fewer pulses
unfoldable pub follows : (earlier later : MonthEntry Register) → Bool
follows earlier later =
    (months_begun later.day == months_begun earlier.day + 1) && nat_le earlier.register.pulses later.register.pulses

-- each entry but the first follows the one before it
unfoldable pub goes_on : ℕ → List ℕ → Bool
goes_on zero bytes = true
goes_on (suc before) bytes = follows (month_entry before bytes) (month_entry (suc before) bytes)

-- and the last has the first day of the month of the record's day
unfoldable pub ends_right : ℕ → List ℕ → Bool
ends_right k bytes =
    if k + 1 == value month_count_field bytes then months_begun (month_entry k bytes).day == months_begun (value day_field bytes) else true

-- an entry, as many as the record counts, or zeros
unfoldable pub month_keeps : ℕ → List ℕ → Bool
month_keeps k bytes =
    if nat_lt k (value month_count_field bytes) then is_entry (value pulses_field bytes) (month_part k bytes) && goes_on k bytes && ends_right k bytes
    else are_zero (month_part k bytes)

abbrev pub month_field : ℕ → Field
month_field k = record { at = month_place k; size = entry_size; keeps = month_keeps k }

unfoldable pub month_fields : (from count : ℕ) → List Field
month_fields from count = map month_field (range_with_len from count)

-- ---- all of it

-- in the order in which they are checked
unfoldable pub record_fields : List Field
record_fields =
    seq_field
    ∷ day_field
    ∷ samples_field
    ∷ month_count_field
    ∷ set_day_kept_field
    ∷ blank 13 3
    ∷ flow_sample_field
    ∷ return_sample_field
    ∷ faulty_field
    ∷ pulses_field
    ∷ energy_field
    ∷ bound_field
    ∷ set_day_field
    ∷ month_fields 0 max_months
    ++ blank 1272 8
    ∷ []

unfoldable pub samples_of : List ℕ → Option (ℕ × ℕ)
samples_of bytes =
    if value samples_field bytes == 1 then Some (value flow_sample_field bytes, value return_sample_field bytes) else None

unfoldable pub set_day_of : List ℕ → Option (MonthEntry Register)
set_day_of bytes = if value set_day_kept_field bytes == 1 then Some (entry_of (part 72 entry_size bytes)) else None

unfoldable pub months_of : List ℕ → List (MonthEntry Register)
months_of bytes = map (λ k. month_entry k bytes) (range_with_len 0 (value month_count_field bytes))

unfoldable pub record_of : List ℕ → MeterRecord
record_of bytes = record {
  seq = value seq_field bytes;
  day = value day_field bytes;
  samples = samples_of bytes;
  faulty = value faulty_field bytes;
  register = record {
    pulses = value pulses_field bytes;
    energy_mj = signed (value energy_field bytes);
    bound_mj = value bound_field bytes;
  };
  months = months_of bytes;
  set_day = set_day_of bytes;
}

-- the record that a slot's 1,280 bytes give, or the offset of the first field that breaks its rule
unfoldable pub record_in : List ℕ → Result MeterRecord ℕ
record_in bytes = unless_broken (first_broken record_fields bytes) (record_of bytes)
