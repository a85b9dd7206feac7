-- The lines of a new meter of the standard configuration, and those of one with months and a set day, worked by hand.
use Rattle.std.proofs.Common.{◌≡◌, ℕ, List, [], ◌∷◌, ◌++◌, pos, negsuc, Some, None, refl, codes}
use Rattle.std.specs.Fmt.{digits}
use Rattle.calendar_model.proofs.Worked.{written_january_15, written_february_1, written_march_1, written_april_1, written_new_year}
use Rattle.config_model.specs.Configuration.{Configuration}
use Rattle.config_model.specs.Standard.{standard}
use Rattle.metering_model.specs.Records.{MeterRecord, Register, opening_record}
use Rattle.show_model.specs.Lines.{AreShowLines, volume_line, energy_line}

-- ---- a new meter

abbrev opening_lines : List (List ℕ)
opening_lines =
    codes "serial 12345678\n" ∷ codes "day 2024-01-15\n" ∷ codes "seq 0\n" ∷ codes "volume 000000.00 m3\n" ∷ codes "energy 00000000 kWh\n" ∷ codes "register 0 0 0\n" ∷ codes "faulty 0\n" ∷ codes "set -\n" ∷ []

opening : AreShowLines standard (opening_record 8780) opening_lines
unfolding digits
opening = record {
  state = opening_lines;
  months = [];
  state_is = record {
    day = codes "day 2024-01-15\n";
    set = codes "set -\n";
    day_is = (codes "2024-01-15", written_january_15, refl);
    set_is = refl;
    are = refl;
  };
  months_are = refl;
  are = refl;
}

-- ---- a meter with 3 pulses, one of them faulty, on 2024-04-01: three months have passed

abbrev three_pulses : Register
three_pulses = record { pulses = 3; energy_mj = pos 0; bound_mj = 0 }

abbrev in_april : MeterRecord
in_april = record {
  seq = 2;
  day = 8857;
  samples = None;
  faulty = 1;
  register = three_pulses;
  months = record { day = 8797; register = three_pulses } ∷ record { day = 8826; register = three_pulses } ∷ record { day = 8857; register = three_pulses } ∷ [];
  set_day = None;
}

abbrev april_state : List (List ℕ)
april_state =
    codes "serial 12345678\n" ∷ codes "day 2024-04-01\n" ∷ codes "seq 2\n" ∷ codes "volume 000000.03 m3\n" ∷ codes "energy 00000000 kWh\n" ∷ codes "register 30 0 0\n" ∷ codes "faulty 1\n" ∷ codes "set -\n" ∷ []

abbrev april_months : List (List ℕ)
april_months = codes "month 2024-02-01 30 0 0\n" ∷ codes "month 2024-03-01 30 0 0\n" ∷ codes "month 2024-04-01 30 0 0\n" ∷ []

april : AreShowLines standard in_april (april_state ++ april_months)
unfolding digits
april = record {
  state = april_state;
  months = april_months;
  state_is = record {
    day = codes "day 2024-04-01\n";
    set = codes "set -\n";
    day_is = (codes "2024-04-01", written_april_1, refl);
    set_is = refl;
    are = refl;
  };
  months_are = ((codes "2024-02-01", written_february_1, refl), ((codes "2024-03-01", written_march_1, refl), ((codes "2024-04-01", written_april_1, refl), refl)));
  are = refl;
}

-- ---- a meter with a set day, on that day: 1 pulse, -7 mJ and the bound 12 mJ

abbrev below_0 : Register
below_0 = record { pulses = 1; energy_mj = negsuc 6; bound_mj = 12 }

abbrev new_year : MeterRecord
new_year = record {
  seq = 3;
  day = 9132;
  samples = None;
  faulty = 0;
  register = below_0;
  months = record { day = 9132; register = below_0 } ∷ [];
  set_day = Some (record { day = 9132; register = below_0 });
}

abbrev new_year_state : List (List ℕ)
new_year_state =
    codes "serial 12345678\n" ∷ codes "day 2025-01-01\n" ∷ codes "seq 3\n" ∷ codes "volume 000000.01 m3\n" ∷ codes "energy 99999999 kWh\n" ∷ codes "register 10 -7 12\n" ∷ codes "faulty 0\n" ∷ codes "set 2025-01-01 10 -7 12\n" ∷ []

abbrev new_year_months : List (List ℕ)
new_year_months = codes "month 2025-01-01 10 -7 12\n" ∷ []

set_day : AreShowLines standard new_year (new_year_state ++ new_year_months)
unfolding digits
set_day = record {
  state = new_year_state;
  months = new_year_months;
  state_is = record {
    day = codes "day 2025-01-01\n";
    set = codes "set 2025-01-01 10 -7 12\n";
    day_is = (codes "2025-01-01", written_new_year, refl);
    set_is = (codes "2025-01-01", written_new_year, refl);
    are = refl;
  };
  months_are = ((codes "2025-01-01", written_new_year, refl), refl);
  are = refl;
}

-- ---- displays with other decimals: 1,234,567 litres, and 123.456 kWh with 0.000999 kWh more

abbrev shown : (decimals : ℕ) → Configuration
shown decimals = record standard { energy_decimals = decimals; volume_decimals = decimals; litres_per_pulse = 1 }

abbrev used : MeterRecord
used = record (opening_record 8780) { register = record { pulses = 1234567; energy_mj = pos 444445196400; bound_mj = 0 } }

whole_units : (volume_line (shown 0) used ≡ codes "volume 00001234 m3\n") × (energy_line (shown 0) used ≡ codes "energy 00000123 kWh\n")
whole_units = (refl, refl)

one_decimal : (volume_line (shown 1) used ≡ codes "volume 0001234.5 m3\n") × (energy_line (shown 1) used ≡ codes "energy 0000123.4 kWh\n")
one_decimal = (refl, refl)

three_decimals : (volume_line (shown 3) used ≡ codes "volume 01234.567 m3\n") × (energy_line (shown 3) used ≡ codes "energy 00123.456 kWh\n")
three_decimals = (refl, refl)
