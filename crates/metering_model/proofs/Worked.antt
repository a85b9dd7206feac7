-- Records that stand for a few events, worked by hand.
use Rattle.std.proofs.Common.{◌≡◌, ℕ, true, false, List, [], ◌∷◌, ◌++◌, replicate, ℤ, pos, negsuc, Some, None, refl}
use Rattle.platinum_model.specs.Element.{resistance}
use Rattle.platinum_model.proofs.Samples.{IsWholeTemp-unique}
use Rattle.platinum_model.proofs.Worked.{pt500, in_range, whole_temp_at_50, counts_10, counts_180, counts, is_small}
use Rattle.parts_model.specs.Place.{Return}
use Rattle.calendar_model.specs.Entries.{MonthEntry}
use Rattle.calendar_model.proofs.Worked.{february, march, next_january, passed_two, passed_year, passed_same}
use Rattle.metering_model.specs.Events.{Event, Sample, Pulse, Date, Kept}
use Rattle.metering_model.specs.Settings.{Settings}
use Rattle.metering_model.specs.Counting as counting
use Rattle.metering_model.specs.Counting.{Counted, counted_by, faulty_by, is_in_range, whole_temp}
use Rattle.metering_model.specs.Records.{Register, StandsFor, record_after, opening_record, zero_register}
use Rattle.metering_model.proofs.Counting.{counts-true, counts-false, whole_temp-is}

-- the flow sensor in the return, 1,600 kPa, Pt500 sensors, 10 litres a pulse, the set day in January, 24 months
abbrev pub settings : Settings
settings = record {
  place = Return;
  pressure_kpa = 1600;
  flow = pt500;
  ret = pt500;
  litres_per_pulse = 10;
  set_month = 1;
  kept_months = 24;
}

abbrev pub kept : Event → ℤ → ℕ → Kept
kept event energy_mj bound_mj = record { event = event; energy_mj = energy_mj; bound_mj = bound_mj }

-- an event that adds no energy
abbrev pub plain : Event → Kept
plain event = kept event (pos 0) 0

-- ---- what counts

whole_temp_of_sample : whole_temp pt500 596985625 ≡ 50000000
whole_temp_of_sample = IsWholeTemp-unique pt500 596985625 _ _ (whole_temp-is pt500 596985625 in_range) whole_temp_at_50

-- 60 and 50 °C count; 50.01 and 50 °C do, and 50.009999 and 50 °C do not
pub counts_60 : counting.counts settings 616209500 596985625 ≡ true
counts_60 = counts-true settings 616209500 596985625 counts_10

counts_apart : counting.counts settings 597004878 596985625 ≡ true
counts_apart = counts-true settings 597004878 596985625 counts

counts_close : counting.counts settings 597004877 596985625 ≡ false
counts_close = counts-false settings 597004877 596985625 is_small

counts_ends : counting.counts settings 842391499 500000001 ≡ true
counts_ends = counts-true settings 842391499 500000001 counts_180

-- 3 pulses are 30 litres
counted : counted_by settings (Some (616209500, 596985625)) (Pulse 3) ≡ Some (record { flow = 616209500; ret = 596985625; litres = 30 })
counted = rw counts_60 refl

counted_close : counted_by settings (Some (597004877, 596985625)) (Pulse 3) ≡ None
counted_close = rw counts_close refl

counted_without_samples : counted_by settings None (Pulse 3) ≡ None
counted_without_samples = refl

counted_of_samples : counted_by settings (Some (616209500, 596985625)) (Sample 1 2) ≡ None
counted_of_samples = refl

-- pulses are faulty while a sample is out of range, and not where there is none
faulty : faulty_by settings (Some (842391500, 0)) 2 ≡ 2
unfolding is_in_range resistance
faulty = refl

faulty_return : faulty_by settings (Some (842391499, 500000000)) 2 ≡ 2
unfolding is_in_range resistance
faulty_return = refl

not_faulty : faulty_by settings (Some (842391499, 500000001)) 2 ≡ 0
unfolding is_in_range resistance
not_faulty = refl

not_faulty_close : faulty_by settings (Some (597004877, 596985625)) 2 ≡ 0
unfolding is_in_range resistance
not_faulty_close = refl

not_faulty_without : faulty_by settings None 2 ≡ 0
not_faulty_without = refl

-- ---- records

-- after 3 pulses without samples
after_pulses : record_after settings (opening_record 8780) (plain (Pulse 3) ∷ []) ≡ record (opening_record 8780) { seq = 1; register = record { pulses = 3; energy_mj = pos 0; bound_mj = 0 } }
after_pulses = refl

-- the last samples are in force; the pulses before them are not faulty, and those after them are
after_samples : record_after settings (opening_record 8780) (plain (Pulse 1) ∷ plain (Sample 616209500 596985625) ∷ plain (Sample 842391500 0) ∷ plain (Pulse 2) ∷ [])
    ≡ record (opening_record 8780) { seq = 4; samples = Some (842391500, 0); faulty = 2; register = record { pulses = 3; energy_mj = pos 0; bound_mj = 0 } }
unfolding is_in_range resistance
after_samples = refl

-- energies add, of either sign, to those of the record before
after_energies : record_after
    settings
    (record (opening_record 8780) { seq = 6; samples = Some (616209500, 596985625); register = record { pulses = 4; energy_mj = negsuc 9; bound_mj = 5 } })
    (kept (Pulse 1) (pos 413038181) 12000 ∷ kept (Pulse 1) (negsuc 99) 12000 ∷ [])
    ≡ record (opening_record 8780) { seq = 8; samples = Some (616209500, 596985625); register = record { pulses = 6; energy_mj = pos 413038071; bound_mj = 24005 } }
unfolding is_in_range resistance
after_energies = refl

-- an entry of a month has the register before the date that passes its first day
abbrev one_pulse : Register
one_pulse = record { pulses = 1; energy_mj = pos 0; bound_mj = 0 }

after_two_months : record_after settings (opening_record 8780) (plain (Pulse 1) ∷ plain (Date 8829) ∷ plain (Pulse 1) ∷ [])
    ≡ record (opening_record 8780) {
      seq = 3;
      day = 8829;
      register = record { pulses = 2; energy_mj = pos 0; bound_mj = 0 };
      months = record { day = 8797; register = one_pulse } ∷ record { day = 8826; register = one_pulse } ∷ [];
    }
after_two_months = rw (passed_two, february, march) refl

-- over the end of a year: 10 litres are counted on 2024-12-31, and stand in the entries of 2025-01-01
after_new_year : record_after settings (opening_record 9131) (plain (Pulse 1) ∷ plain (Date 9132) ∷ [])
    ≡ record (opening_record 9131) {
      seq = 2;
      day = 9132;
      register = one_pulse;
      months = record { day = 9132; register = one_pulse } ∷ [];
      set_day = Some (record { day = 9132; register = one_pulse });
    }
after_new_year = rw (passed_year, next_january) refl

stands_for_new_year : StandsFor settings (opening_record 9131) (plain (Pulse 1) ∷ plain (Date 9132) ∷ []) (record_after settings (opening_record 9131) (plain (Pulse 1) ∷ plain (Date 9132) ∷ []))
stands_for_new_year = record { in_order = refl; is = refl }

-- a set day that is kept stays where its month is not passed
abbrev before : MonthEntry Register
before = record { day = 8766; register = zero_register }

set_day_stays : record_after settings (record (opening_record 8797) { set_day = Some before }) (plain (Date 8797) ∷ []) ≡ record (opening_record 8797) { seq = 1; set_day = Some before }
set_day_stays = rw passed_same refl

-- of 24 months and one more the oldest goes
abbrev oldest : MonthEntry Register
oldest = record { day = 8401; register = zero_register }

latest_24 : record_after settings (record (opening_record 9131) { months = oldest ∷ replicate 23 before }) (plain (Date 9132) ∷ [])
    ≡ record (opening_record 9131) {
      seq = 1;
      day = 9132;
      months = replicate 23 before ++ record { day = 9132; register = zero_register } ∷ [];
      set_day = Some (record { day = 9132; register = zero_register });
    }
latest_24 = rw (passed_year, next_january) refl
