-- The limits of a record.
use Rattle.std.specs.Prelude.{ℕ, ◌*◌, ℤ, Bool, nat_abs, nat_le}

-- the most events that a meter keeps
abbrev pub max_events : ℕ
max_events = 1000000000000000000

-- the most pulses that a register counts
abbrev pub max_pulses : ℕ
max_pulses = 1000000000000000

-- the most energy of a pulse, either way, in millijoules
abbrev pub max_energy_per_pulse : ℕ
max_energy_per_pulse = 2000000000000

-- the greatest bound of its error, in millijoules: that of 1,000 litres
abbrev pub max_bound_per_pulse : ℕ
max_bound_per_pulse = 2000000

abbrev pub is_energy_of : (pulses : ℕ) → (energy_mj : ℤ) → Bool
is_energy_of pulses energy_mj = nat_le (nat_abs energy_mj) (max_energy_per_pulse * pulses)

abbrev pub is_bound_of : (pulses bound_mj : ℕ) → Bool
is_bound_of pulses bound_mj = nat_le bound_mj (max_bound_per_pulse * pulses)

-- the most entries that a record keeps of first days of months
abbrev pub max_months : ℕ
max_months = 24
