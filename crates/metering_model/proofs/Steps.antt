-- What one event does to a record.
use Rattle.std.proofs.Common.{◌≡◌, ℕ, ◌+◌, ◌-◌, ◌≤◌, ◌==◌, refl, sym, ap, arith, ℤ, pos, ◌+ℤ◌, Bool, true, false, cond, ◌&&◌, List, [], ◌∷◌, ◌++◌, append-nil, length, map, filter, drop, Option, None, Some}
use Rattle.std.proofs.lemmas.Int.{ints}
use Rattle.std.proofs.lemmas.Bool.{le-leb}
use Rattle.calendar_model.specs.Calendar.{months_passed, month_of_year}
use Rattle.calendar_model.specs.Entries.{MonthEntry, entry_of, latest, last_or, passed_entries, set_entry}
use Rattle.metering_model.specs.Events.{Event, Sample, Pulse, Date}
use Rattle.metering_model.specs.Settings.{Settings}
use Rattle.metering_model.specs.Counting.{counted_by, faulty_by, is_in_range}
use Rattle.metering_model.specs.Records.{MeterRecord, Register, StandsFor, register_after}

-- a record whose months are those that are kept is the one that stands for itself
latest-whole : {A : Type 0} (keep : ℕ) (xs : List A) → length xs ≤ keep → latest keep (xs ++ []) ≡ xs
latest-whole keep xs h = let none : length xs - keep ≡ 0 = omega arith in rw (append-nil xs) (ap (λ n. drop n xs) none)

no_faulty : (c : Settings) (samples : Option (ℕ × ℕ)) → faulty_by c samples 0 ≡ 0
no_faulty c None = refl
no_faulty c (Some s) = either (is_in_range c.flow s.0 && is_in_range c.ret s.1) where
  either : (b : Bool) → ◌≡◌ {A = ℕ} (cond b 0 0) 0
  either true = refl
  either false = refl

same_counts : (seq day : ℕ) (samples : Option (ℕ × ℕ)) (set_day : Option (MonthEntry Register)) (f f' p p' b b' : ℕ) (e e' : ℤ) (months months' : List (MonthEntry Register))
    → f ≡ f' → p ≡ p' → e ≡ e' → b ≡ b' → months ≡ months'
    → ◌≡◌ {A = MeterRecord}
    (record { seq = seq; day = day; samples = samples; faulty = f; register = record { pulses = p; energy_mj = e; bound_mj = b }; months = months; set_day = set_day })
    (record { seq = seq; day = day; samples = samples; faulty = f'; register = record { pulses = p'; energy_mj = e'; bound_mj = b' }; months = months'; set_day = set_day })
same_counts seq day samples set_day f f' p p' b b' e e' months months' hf hp he hb hm = rw (hf, hp, he, hb, hm) refl

pub stands-pulses : (c : Settings) (r : MeterRecord) (n : ℕ) (e : ℤ) (b : ℕ) → length r.months ≤ c.kept_months
    → StandsFor c r (record { event = Pulse n; energy_mj = e; bound_mj = b } ∷ [])
    (record {
      seq = r.seq + 1;
      day = r.day;
      samples = r.samples;
      faulty = r.faulty + faulty_by c r.samples n;
      register = record { pulses = r.register.pulses + n; energy_mj = r.register.energy_mj +ℤ e; bound_mj = r.register.bound_mj + b };
      months = r.months;
      set_day = r.set_day;
    })
stands-pulses c r n e b few = record {
  in_order = refl;
  is = same_counts _ _ _ _ _ _ _ _ _ _ _ _ _ _ (omega arith) (omega arith) (omega (arith, ints)) (omega arith) (sym (latest-whole c.kept_months r.months few));
}

-- a record that moves on to a day
abbrev pub on_day : Settings → MeterRecord → ℕ → MeterRecord
on_day c r day = record {
  seq = r.seq + 1;
  day = day;
  samples = r.samples;
  faulty = r.faulty;
  register = r.register;
  months = latest c.kept_months (r.months ++ passed_entries r.register r.day day);
  set_day = set_entry r.register c.set_month r.day day r.set_day;
}

pub stands-date : (c : Settings) (r : MeterRecord) (day : ℕ) → r.day ≤ day
    → StandsFor c r (record { event = Date day; energy_mj = pos 0; bound_mj = 0 } ∷ [])
    (on_day c r day)
stands-date c r day later = record {
  in_order = rw (le-leb r.day day later) refl;
  is = dated (register_after r.register []) (r.faulty + (0 + faulty_by c r.samples 0)) (register_none r.register) (omega (arith, no_faulty c r.samples));
}
  where
    register_none : (x : Register) → register_after x [] ≡ x
    register_none x =
        let p : x.pulses + 0 ≡ x.pulses = omega arith in
        let e : x.energy_mj +ℤ pos 0 ≡ x.energy_mj = omega (arith, ints) in
        let b : x.bound_mj + 0 ≡ x.bound_mj = omega arith in
        rw (p, e, b) refl

    dated : (reg : Register) (f : ℕ) → reg ≡ r.register → f ≡ r.faulty
        → ◌≡◌ {A = MeterRecord}
        (on_day c r day)
        (record {
          seq = r.seq + 1;
          day = day;
          samples = r.samples;
          faulty = f;
          register = reg;
          months = latest c.kept_months (r.months ++ (map (entry_of reg) (months_passed r.day day) ++ []));
          set_day = last_or r.set_day (map (λ month. Some (entry_of reg month)) (filter (λ month. month_of_year month == c.set_month) (months_passed r.day day)) ++ []);
        })
    dated reg f h k = rw (h, k, append-nil (map (entry_of r.register) (months_passed r.day day)), append-nil (map (λ month. Some (entry_of r.register month)) (filter (λ month. month_of_year month == c.set_month) (months_passed r.day day)))) refl
