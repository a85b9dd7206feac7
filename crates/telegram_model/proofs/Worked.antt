-- Telegrams of a meter with the serial number 12345678, worked by hand.
use Rattle.std.proofs.Common.{◌≡◌, ℕ, List, [], ◌∷◌, pos, None, Some, ap, refl}
use Rattle.std.specs.Option.{option_map}
use Rattle.config_model.specs.Standard.{standard}
use Rattle.metering_model.specs.Records.{Register, MeterRecord}
use Rattle.frame_model.specs.Frames.{frame_bytes}
use Rattle.telegram_model.specs.Values.{information, decimal_bytes, integer_bytes, type_g}
use Rattle.telegram_model.proofs.Dates.{january, february}
use Rattle.telegram_model.specs.Telegram.{telegram, header, energy_record, volume_record, date_record, temp_records, entry_records, set_day_records, records_of, first_records}

-- three pulses, with no samples in force
abbrev pub register : Register
register = record { pulses = 3; energy_mj = pos 0; bound_mj = 0 }

-- the record on 2024-01-15 ..
abbrev pub before : MeterRecord
before = record {
  seq = 1;
  day = 8780;
  samples = None;
  faulty = 0;
  register = register;
  months = [];
  set_day = None;
}

-- .. and on 2024-02-01
abbrev after : MeterRecord
after = record {
  seq = 2;
  day = 8797;
  samples = None;
  faulty = 0;
  register = register;
  months = record { day = 8797; register = register } ∷ [];
  set_day = None;
}

on_15 : date_record 0 8780 ≡ 2 ∷ 108 ∷ 15 ∷ 49 ∷ []
unfolding date_record
on_15 = ap (λ (l : List ℕ). 2 ∷ 108 ∷ l) january

on_1 : date_record 0 8797 ≡ 2 ∷ 108 ∷ 1 ∷ 50 ∷ []
unfolding date_record
on_1 = ap (λ (l : List ℕ). 2 ∷ 108 ∷ l) february

of_month : date_record 2 8797 ≡ 130 ∷ 1 ∷ 108 ∷ 1 ∷ 50 ∷ []
unfolding date_record
of_month = ap (λ (l : List ℕ). 130 ∷ 1 ∷ 108 ∷ l) february

pub without_months : option_map frame_bytes (telegram standard before 0 0) ≡ Some (104 ∷ 31 ∷ 31 ∷ 104 ∷ 8 ∷ 1 ∷ 114 ∷ 120 ∷ 86 ∷ 52 ∷ 18 ∷ 67 ∷ 4 ∷ 1 ∷ 4 ∷ 0 ∷ 0 ∷ 0 ∷ 0 ∷ 12 ∷ 6 ∷ 0 ∷ 0 ∷ 0 ∷ 0 ∷ 12 ∷ 20 ∷ 3 ∷ 0 ∷ 0 ∷ 0 ∷ 2 ∷ 108 ∷ 15 ∷ 49 ∷ 190 ∷ 22 ∷ [])
unfolding telegram header energy_record volume_record entry_records first_records decimal_bytes
without_months = rw on_15 refl

with_months : option_map frame_bytes (telegram standard after 0 0) ≡ Some (104 ∷ 32 ∷ 32 ∷ 104 ∷ 8 ∷ 1 ∷ 114 ∷ 120 ∷ 86 ∷ 52 ∷ 18 ∷ 67 ∷ 4 ∷ 1 ∷ 4 ∷ 0 ∷ 0 ∷ 0 ∷ 0 ∷ 12 ∷ 6 ∷ 0 ∷ 0 ∷ 0 ∷ 0 ∷ 12 ∷ 20 ∷ 3 ∷ 0 ∷ 0 ∷ 0 ∷ 2 ∷ 108 ∷ 1 ∷ 50 ∷ 31 ∷ 208 ∷ 22 ∷ [])
unfolding telegram header energy_record volume_record entry_records first_records decimal_bytes
with_months = rw on_1 refl

months : option_map frame_bytes (telegram standard after 1 1) ≡ Some (104 ∷ 34 ∷ 34 ∷ 104 ∷ 8 ∷ 1 ∷ 114 ∷ 120 ∷ 86 ∷ 52 ∷ 18 ∷ 67 ∷ 4 ∷ 1 ∷ 4 ∷ 1 ∷ 0 ∷ 0 ∷ 0 ∷ 130 ∷ 1 ∷ 108 ∷ 1 ∷ 50 ∷ 140 ∷ 1 ∷ 6 ∷ 0 ∷ 0 ∷ 0 ∷ 0 ∷ 140 ∷ 1 ∷ 20 ∷ 3 ∷ 0 ∷ 0 ∷ 0 ∷ 53 ∷ 22 ∷ [])
unfolding telegram header energy_record volume_record entry_records first_records decimal_bytes
months = rw of_month refl

on_set_day : date_record 1 8797 ≡ 66 ∷ 108 ∷ 1 ∷ 50 ∷ []
unfolding date_record
on_set_day = ap (λ (l : List ℕ). 66 ∷ 108 ∷ l) february

-- the entry of a set day
kept_day : set_day_records standard (Some (record { day = 8797; register = register })) ≡ 66 ∷ 108 ∷ 1 ∷ 50 ∷ 76 ∷ 6 ∷ 0 ∷ 0 ∷ 0 ∷ 0 ∷ 76 ∷ 20 ∷ 3 ∷ 0 ∷ 0 ∷ 0 ∷ []
unfolding energy_record volume_record entry_records decimal_bytes
kept_day = rw on_set_day refl

of_next_month : date_record 3 8797 ≡ 194 ∷ 1 ∷ 108 ∷ 1 ∷ 50 ∷ []
unfolding date_record
of_next_month = ap (λ (l : List ℕ). 194 ∷ 1 ∷ 108 ∷ l) february

-- two month entries: the newest, which is the last in the record, comes first
two_months : records_of
    standard
    (record {
      seq = 2;
      day = 8797;
      samples = None;
      faulty = 0;
      register = register;
      months = record { day = 8797; register = record { pulses = 1; energy_mj = pos 0; bound_mj = 0 } } ∷ record { day = 8797; register = register } ∷ [];
      set_day = None;
    })
    1
    ≡ 130 ∷ 1 ∷ 108 ∷ 1 ∷ 50 ∷ 140 ∷ 1 ∷ 6 ∷ 0 ∷ 0 ∷ 0 ∷ 0 ∷ 140 ∷ 1 ∷ 20 ∷ 3 ∷ 0 ∷ 0 ∷ 0 ∷ 194 ∷ 1 ∷ 108 ∷ 1 ∷ 50 ∷ 204 ∷ 1 ∷ 6 ∷ 0 ∷ 0 ∷ 0 ∷ 0 ∷ 204 ∷ 1 ∷ 20 ∷ 1 ∷ 0 ∷ 0 ∷ 0 ∷ []
unfolding energy_record volume_record entry_records decimal_bytes
two_months = rw (of_month, of_next_month) refl

-- there is no third telegram, and no second without month entries
no_third : telegram standard after 2 0 ≡ None
unfolding telegram
no_third = refl

no_second : telegram standard before 1 0 ≡ None
unfolding telegram
no_second = refl

-- 60 and 50 °C, and 10 between them; a difference below 0 is rounded down
warm : temp_records (Some 60000000) (Some 50000000) ≡ 4 ∷ 88 ∷ 96 ∷ 234 ∷ 0 ∷ 0 ∷ 4 ∷ 92 ∷ 80 ∷ 195 ∷ 0 ∷ 0 ∷ 4 ∷ 96 ∷ 16 ∷ 39 ∷ 0 ∷ 0 ∷ []
unfolding temp_records integer_bytes
warm = refl

cold : temp_records (Some 0) (Some 1) ≡ 4 ∷ 88 ∷ 0 ∷ 0 ∷ 0 ∷ 0 ∷ 4 ∷ 92 ∷ 0 ∷ 0 ∷ 0 ∷ 0 ∷ 4 ∷ 96 ∷ 255 ∷ 255 ∷ 255 ∷ 255 ∷ []
unfolding temp_records integer_bytes
cold = refl

flow_alone : temp_records (Some 1999) None ≡ 4 ∷ 88 ∷ 1 ∷ 0 ∷ 0 ∷ 0 ∷ []
unfolding temp_records integer_bytes
flow_alone = refl

-- 2024-12-31
last_day : type_g 24 12 31 ≡ 31 ∷ 60 ∷ []
last_day = refl

-- the set day, the newest month entry and the oldest of 24
set_day : information 2 1 ≡ 66 ∷ []
set_day = refl

first_month : information 12 2 ≡ 140 ∷ 1 ∷ []
first_month = refl

last_month : information 12 25 ≡ 204 ∷ 12 ∷ []
last_month = refl
