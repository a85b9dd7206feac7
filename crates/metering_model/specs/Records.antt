-- The record that stands for an opening record and the events kept since.
use Rattle.std.specs.Prelude.{◌≡◌, ℕ, ◌+◌, ◌*◌, ◌==◌, ℤ, pos, ◌+ℤ◌, List, [], ◌∷◌, ◌++◌, length, map, filter, filter_map, flat_map, sum_by, Option, None, Some, IsTrue}
use Rattle.calendar_model.specs.Calendar.{months_passed, month_of_year}
use Rattle.calendar_model.specs.Entries.{MonthEntry, entry_of, last_or, latest, never_falls}
use Rattle.metering_model.specs.Events.{Event, Sample, Pulse, Date, Kept, Placed, placed, pulses_of, samples_of, day_of}
use Rattle.metering_model.specs.Settings.{Settings}
use Rattle.metering_model.specs.Counting.{Counted, counted_by, faulty_by}

-- counted pulses, their energy, and the bound of its error, in millijoules
pub record Register : Type 0 where
  pub pulses : ℕ
  pub energy_mj : ℤ
  pub bound_mj : ℕ

-- the number of events that a meter has kept, the day and the samples in force, its faulty pulses, its register, and
-- the entries of first days of months and of the set day
pub record MeterRecord : Type 0 where
  pub seq : ℕ
  pub day : ℕ
  pub samples : Option (ℕ × ℕ)
  pub faulty : ℕ
  pub register : Register
  pub months : List (MonthEntry Register)
  pub set_day : Option (MonthEntry Register)

abbrev pub pulses_in : List Kept → ℕ
pulses_in ks = sum_by (λ k. pulses_of k.event) ks

abbrev pub bound_in : List Kept → ℕ
bound_in ks = sum_by (λ k. k.bound_mj) ks

abbrev pub energy_in : List Kept → ℤ
energy_in [] = pos 0
energy_in (k ∷ ks) = k.energy_mj +ℤ energy_in ks

-- an opening register and the sums over the events kept since
abbrev pub register_after : Register → List Kept → Register
register_after o ks = record {
  pulses = o.pulses + pulses_in ks;
  energy_mj = o.energy_mj +ℤ energy_in ks;
  bound_mj = o.bound_mj + bound_in ks;
}

-- the last samples of the events, or those before them
abbrev pub samples_after : Option (ℕ × ℕ) → List Kept → Option (ℕ × ℕ)
samples_after o ks = last_or o (filter_map (λ k. samples_of k.event) ks)

abbrev pub days_in : List Kept → List ℕ
days_in ks = filter_map (λ k. day_of k.event) ks

-- the last day of the events, or the one before them
abbrev pub day_after : ℕ → List Kept → ℕ
day_after o ks = last_or o (days_in ks)

-- what an event counts, at the samples in force in its place
abbrev pub counted_at : Settings → MeterRecord → Placed → Option Counted
counted_at c o e = counted_by c (samples_after o.samples e.before) e.kept.event

abbrev pub faulty_at : Settings → MeterRecord → Placed → ℕ
faulty_at c o e = faulty_by c (samples_after o.samples e.before) (pulses_of e.kept.event)

-- the months whose first day an event passes
abbrev pub months_by : (in_force : ℕ) → Event → List ℕ
months_by in_force (Sample flow ret) = []
months_by in_force (Pulse n) = []
months_by in_force (Date day) = months_passed in_force day

abbrev pub months_at : MeterRecord → Placed → List ℕ
months_at o e = months_by (day_after o.day e.before) e.kept.event

-- their entries, with the register that stands for the events before
abbrev pub entries_at : MeterRecord → Placed → List (MonthEntry Register)
entries_at o e = map (entry_of (register_after o.register e.before)) (months_at o e)

-- of these entries those of the set month
abbrev pub set_entries_at : Settings → MeterRecord → Placed → List (Option (MonthEntry Register))
set_entries_at c o e =
    map (λ month. Some (entry_of (register_after o.register e.before) month)) (filter (λ month. month_of_year month == c.set_month) (months_at o e))

-- the record that stands for the opening record o and the events kept since
abbrev pub record_after : Settings → MeterRecord → List Kept → MeterRecord
record_after c o ks = record {
  seq = o.seq + length ks;
  day = day_after o.day ks;
  samples = samples_after o.samples ks;
  faulty = o.faulty + sum_by (faulty_at c o) (placed ks);
  register = register_after o.register ks;
  months = latest c.kept_months (o.months ++ flat_map (entries_at o) (placed ks));
  set_day = last_or o.set_day (flat_map (set_entries_at c o) (placed ks));
}

-- the days of the events do not fall, and r is the record that stands for o and the events
pub record StandsFor (c : Settings) (o : MeterRecord) (ks : List Kept) (r : MeterRecord) : Type 0 where
  pub in_order : IsTrue (never_falls (o.day ∷ days_in ks))
  pub is : r ≡ record_after c o ks

abbrev pub zero_register : Register
zero_register = record { pulses = 0; energy_mj = pos 0; bound_mj = 0 }

-- a record that has counted nothing, on a day
abbrev pub opening_record : ℕ → MeterRecord
opening_record day = record {
  seq = 0;
  day = day;
  samples = None;
  faulty = 0;
  register = zero_register;
  months = [];
  set_day = None;
}

-- the volume that a register shows, in litres
abbrev pub litres_of : Settings → Register → ℕ
litres_of c r = r.pulses * c.litres_per_pulse
