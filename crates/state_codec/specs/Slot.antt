-- The parts of a slot.
use Rattle.std.specs.Prelude.{◌≡◌, ℕ, ◌*◌, ◌-◌, ◌&&◌, Bool, true, false, ℤ, List, [], ◌∷◌, ◌++◌, map, length, replicate, Option, None, Some, Result, Ok, Err}
use Rattle.std.specs.List.{flat_map, range_with_len}
use Rattle.std.specs.Int.{w16, w32, w64, w128, to_le_bytes, cast_unsigned}
use Rattle.calendar_model.specs.Entries.{MonthEntry, last_or}
use Rattle.metering_model.specs.Limits.{is_bound_of, is_energy_of, max_months}
use Rattle.metering_model.specs.Records as records
use Rattle.energy_register.specs.Register.{register_view}
use Rattle.energy_register.specs.declared.Register.{Register}
use Rattle.billing_memory.specs.Entries.{entry_view}
use Rattle.billing_memory.specs.declared.entry.Entry.{Entry}
use Rattle.memory_model.specs.Fields.{Field, value, blank, signed, first_broken}
use Rattle.memory_model.specs.Slot.{entry_size, seq_field, day_field, samples_field, month_count_field, set_day_kept_field, flow_sample_field, return_sample_field, faulty_field, pulses_field, energy_field, bound_field, set_day_field, is_entry, entry_of, month_entry, month_keeps, month_fields, follows}
use Rattle.state_codec.specs.declared.foreign.Foreign.{Foreign}
use Rattle.state_codec.specs.declared.slot_parts.Head.{Head}
use Rattle.state_codec.specs.declared.slot_parts.Sums.{Sums}

-- ---- what is read

abbrev pub head_fields : List Field
head_fields = seq_field ∷ day_field ∷ samples_field ∷ month_count_field ∷ set_day_kept_field ∷ blank 13 3 ∷ []

abbrev pub head_of : List ℕ → ℕ × ℕ
head_of bytes = (value seq_field bytes, value day_field bytes)

abbrev pub head_view : Head → ℕ × ℕ
head_view x = (x.seq, x.day.number)

abbrev pub sample_fields : List Field
sample_fields = flow_sample_field ∷ return_sample_field ∷ []

abbrev pub sum_fields : List Field
sum_fields = faulty_field ∷ pulses_field ∷ energy_field ∷ bound_field ∷ []

abbrev pub sums_of : List ℕ → ℕ × records.Register
sums_of bytes = (
  value faulty_field bytes,
  record {
    pulses = value pulses_field bytes;
    energy_mj = signed (value energy_field bytes);
    bound_mj = value bound_field bytes;
  },
)

abbrev pub sums_view : Sums → ℕ × records.Register
sums_view x = (x.faulty, register_view x.register)

abbrev pub set_day_fields : List Field
set_day_fields = set_day_field ∷ []

-- the limits of a register's energy and bound
abbrev pub is_within : ℕ → ℤ → ℕ → Bool
is_within pulses energy bound = is_energy_of pulses energy && is_bound_of pulses bound

abbrev pub ReadsRegister : ℕ → ℤ → ℕ → Option Register → Type 0
ReadsRegister pulses energy bound (Some r) =
    (is_within pulses energy bound ≡ true) × (register_view r ≡ record { pulses = pulses; energy_mj = energy; bound_mj = bound })
ReadsRegister pulses energy bound None = is_within pulses energy bound ≡ false

abbrev pub ReadsEntry : ℕ → List ℕ → Option Entry → Type 0
ReadsEntry record_pulses bytes (Some e) = (is_entry record_pulses bytes ≡ true) × (entry_view e ≡ entry_of bytes)
ReadsEntry record_pulses bytes None = is_entry record_pulses bytes ≡ false

-- an entry may follow others
abbrev pub goes_on_after : List (MonthEntry records.Register) → MonthEntry records.Register → Bool
goes_on_after [] entry = true
goes_on_after (e ∷ es) entry = follows (last_or e es) entry

abbrev pub ReadsMonth : ℕ → List ℕ → Option Entry → Type 0
ReadsMonth k bytes (Some e) = (month_keeps k bytes ≡ true) × (entry_view e ≡ month_entry k bytes)
ReadsMonth k bytes None = month_keeps k bytes ≡ false

-- the first so many month entries
abbrev pub entries_to : ℕ → List ℕ → List (MonthEntry records.Register)
entries_to count bytes = map (λ k. month_entry k bytes) (range_with_len 0 count)

-- the first `count` month entries are right, and these; or one of them breaks its rule
abbrev pub ReadsMonths : {Months : Type 0} → (Months → List (MonthEntry records.Register)) → ℕ → List ℕ → Result Months Foreign → Type 0
ReadsMonths view count bytes (Ok months) =
    (first_broken (month_fields 0 max_months) bytes ≡ first_broken (month_fields count (max_months - count)) bytes) × (view months ≡ entries_to count bytes)
ReadsMonths view count bytes (Err f) = first_broken (month_fields 0 max_months) bytes ≡ Some f.at

-- ---- a record's one spelling

unfoldable pub zeros : ℕ → List ℕ
zeros n = replicate n 0

unfoldable pub entry_bytes : MonthEntry records.Register → List ℕ
entry_bytes e =
    to_le_bytes w16 e.day
    ++ (replicate 6 0 ++ (to_le_bytes w64 e.register.pulses ++ (to_le_bytes w128 (cast_unsigned w128 e.register.energy_mj) ++ to_le_bytes w128 e.register.bound_mj)))

abbrev pub flag_of : {Item : Type 0} → Option Item → ℕ
flag_of None = 0
flag_of (Some x) = 1

abbrev pub flow_of : Option (ℕ × ℕ) → ℕ
flow_of None = 0
flow_of (Some samples) = samples.0

abbrev pub return_of : Option (ℕ × ℕ) → ℕ
return_of None = 0
return_of (Some samples) = samples.1

unfoldable pub head_bytes : records.MeterRecord → List ℕ
head_bytes r =
    to_le_bytes w64 r.seq
    ++ (to_le_bytes w16 r.day ++ (flag_of r.samples ∷ length r.months ∷ flag_of r.set_day ∷ 0 ∷ 0 ∷ 0 ∷ []))

unfoldable pub sum_bytes : records.MeterRecord → List ℕ
sum_bytes r =
    to_le_bytes w32 (flow_of r.samples)
    ++ (to_le_bytes w32 (return_of r.samples)
    ++ (to_le_bytes w64 r.faulty
    ++ (to_le_bytes w64 r.register.pulses ++ (to_le_bytes w128 (cast_unsigned w128 r.register.energy_mj) ++ to_le_bytes w128 r.register.bound_mj))))

unfoldable pub set_day_bytes : Option (MonthEntry records.Register) → List ℕ
set_day_bytes None = zeros entry_size
set_day_bytes (Some e) = entry_bytes e

unfoldable pub record_bytes : records.MeterRecord → List ℕ
record_bytes r =
    head_bytes r ++ (sum_bytes r ++ (set_day_bytes r.set_day ++ (flat_map entry_bytes r.months ++ zeros (1160 - entry_size * length r.months))))
