-- What events do to a record, in the words of the definitions.
use Rattle.std.proofs.Common.{◌≡◌, ℕ, ◌+◌, ◌<◌, ◌≤◌, refl, sym, ap, ◌∙◌, arith, pos, true, false, [], ◌∷◌, ◌++◌, length, Option, None, Some, ◌⊎◌, inl, inr}
use Rattle.std.proofs.lemmas.Bool.{le-ltb, ne_eqb, cases_lt}
use Rattle.std.proofs.lemmas.List.{length-map}
use Rattle.metering_model.specs.Events.{Event, Sample, Pulse, Date}
use Rattle.metering_model.specs.Settings.{Settings}
use Rattle.metering_model.specs.Counting.{counted_by}
use Rattle.metering_model.specs.Records as records
use Rattle.metering_model.specs.Records.{StandsFor}
use Rattle.integral_model.specs.Integral.{AddsBy, FitsClosely, TakesEvent}
use Rattle.metering_model.proofs.Steps.{stands-pulses, stands-date}
use Rattle.integral_model.proofs.Joined.{takes}
use Rattle.answer_model.specs.Faults.{event_fault, kind_fault}
use Rattle.calendar_model.specs.Entries.{latest, passed_entries, set_entry}
use Rattle.energy_register.specs.declared.Register.{Register}
use Rattle.energy_register.specs.declared.Step.{Step}
use Rattle.energy_register.specs.Register.{Grows, register_view}
use Rattle.billing_memory.specs.declared.day.Day.{Day}
use Rattle.billing_memory.specs.declared.meter_record.MeterRecord.{MeterRecord}
use Rattle.billing_memory.specs.Entries.{entry_view, entries_view, set_day_view}
use Rattle.billing_memory.specs.Counts.{KeepsCounts}
use Rattle.billing_memory.specs.Records.{record_view}
use Rattle.pulse_integrator.specs.Adds.{IsStep}

-- a record keeps no more months than the definitions
pub few_months : (m : MeterRecord) (c : Settings) → c.kept_months ≡ 24 → length (record_view m).months ≤ c.kept_months
few_months m c same = omega (arith, same, m.months_kept, length-map m.months.items entry_view)

-- a record that is not full judges an event by its kind
pub fault_by_kind : (r : records.MeterRecord) (event : Event) → r.seq < 1000000000000000000 → event_fault r event ≡ kind_fault r event
fault_by_kind r event room = rw (ne_eqb r.seq 1000000000000000000 (λ e. absurd (omega arith))) refl

pub no_pulse_fault : (r : records.MeterRecord) (n : ℕ) → r.seq < 1000000000000000000 → r.register.pulses + n ≤ 1000000000000000 → event_fault r (Pulse n) ≡ None
no_pulse_fault r n room few = fault_by_kind r (Pulse n) room ∙ rw (le-ltb 1000000000000000 (r.register.pulses + n) few) refl

pub no_date_fault : (r : records.MeterRecord) (day : ℕ) → r.seq < 1000000000000000000 → r.day ≤ day → event_fault r (Date day) ≡ None
no_date_fault r day room later = fault_by_kind r (Date day) room ∙ rw (le-ltb day r.day later) refl

-- pulses are taken with their step
pub pulses_taken : (c : Settings) (m : MeterRecord) (n : ℕ) (s : Step) (register : Register) → c.kept_months ≡ 24 → m.seq < 1000000000000000000
    → m.register.pulses + n ≤ 1000000000000000 → IsStep c m.samples n s → Grows m.register s n register
    → (event_fault (record_view m) (Pulse n) ≡ None) × TakesEvent c (record_view m) (Pulse n) (record {
      seq = m.seq + 1;
      day = m.day.number;
      samples = m.samples;
      faulty = m.faulty + s.faulty;
      register = register_view register;
      months = entries_view m.months.items;
      set_day = set_day_view m.set_day;
    })
pulses_taken c m n s register keep room few step grown = (
  no_pulse_fault (record_view m) n room few,
  takes c (record_view m) _ (Pulse n) s.e_mj s.b_mj step.fits
      (rw (step.faulty, grown.pulses, grown.energy, grown.bound) (stands-pulses c (record_view m) n s.e_mj s.b_mj (few_months m c keep))),
)

-- a date is taken by a move to its day
pub date_taken : (c : Settings) (m new : MeterRecord) (day : Day) → c.kept_months ≡ 24 → m.seq < 1000000000000000000 → m.day.number ≤ day.number
    → entries_view new.months.items ≡ latest 24 (entries_view m.months.items ++ passed_entries (register_view m.register) m.day.number day.number)
    → set_day_view new.set_day ≡ set_entry (register_view m.register) c.set_month m.day.number day.number (set_day_view m.set_day)
    → new.day ≡ day → KeepsCounts m new
    → (event_fault (record_view m) (Date day.number) ≡ None) × TakesEvent c (record_view m) (Date day.number) (record {
      seq = new.seq + 1;
      day = new.day.number;
      samples = new.samples;
      faulty = new.faulty;
      register = register_view new.register;
      months = entries_view new.months.items;
      set_day = set_day_view new.set_day;
    })
date_taken c m new day keep room later months set_day moved kept = (
  no_date_fault (record_view m) day.number room later,
  takes c (record_view m) _ (Date day.number) (pos 0) 0 (no_date c m.samples day.number)
      (rw (same_months, set_day, moved, kept.seq, kept.samples, kept.faulty, kept.register) (stands-date c (record_view m) day.number later)),
)
  where
    same_months : entries_view new.months.items ≡ latest c.kept_months (entries_view m.months.items ++ passed_entries (register_view m.register) m.day.number day.number)
    same_months = months ∙ ap (λ n. latest n (entries_view m.months.items ++ passed_entries (register_view m.register) m.day.number day.number)) (sym keep)

    no_date : (c : Settings) (samples : Option (ℕ × ℕ)) (day : ℕ) → AddsBy (FitsClosely c) (counted_by c samples (Date day)) (pos 0) 0
    no_date c None day = (refl, refl)
    no_date c (Some s) day = (refl, refl)

-- samples are taken
pub samples_taken : (c : Settings) (m : MeterRecord) (new : records.MeterRecord) (rf rr : ℕ) → m.seq < 1000000000000000000
    → StandsFor c (record_view m) (record { event = Sample rf rr; energy_mj = pos 0; bound_mj = 0 } ∷ []) new
    → (event_fault (record_view m) (Sample rf rr) ≡ None) × TakesEvent c (record_view m) (Sample rf rr) new
samples_taken c m new rf rr room stands = (
  fault_by_kind (record_view m) (Sample rf rr) room,
  takes c (record_view m) new (Sample rf rr) (pos 0) 0 (no_samples c m.samples rf rr) stands,
)
  where
    no_samples : (c : Settings) (samples : Option (ℕ × ℕ)) (rf rr : ℕ) → AddsBy (FitsClosely c) (counted_by c samples (Sample rf rr)) (pos 0) 0
    no_samples c None rf rr = (refl, refl)
    no_samples c (Some s) rf rr = (refl, refl)

-- what is not below is above
pub not_back : (day in_force : ℕ) → (day < in_force → false ≡ true) → in_force ≤ day
not_back day in_force h = by (cases_lt day in_force) where
  clash : false ≡ true → ⊥
  clash e = absurd cc

  by : (day < in_force) ⊎ (in_force ≤ day) → in_force ≤ day
  by (inl back) = absurd (clash (h back))
  by (inr later) = later

pub has_room : (seq : ℕ) → seq ≤ 1000000000000000000 → (seq ≡ 1000000000000000000 → ⊥) → seq < 1000000000000000000
has_room seq most free = by (cases_lt seq 1000000000000000000) where
  by : (seq < 1000000000000000000) ⊎ (1000000000000000000 ≤ seq) → seq < 1000000000000000000
  by (inl room) = room
  by (inr full) = absurd (free (omega arith))
