-- A register, and the steps that it takes.
use Rattle.std.specs.Prelude.{◌≡◌, ℕ, ◌+◌, ◌*◌, ◌≤◌, ◌+ℤ◌, nat_abs}
use Rattle.metering_model.specs.Limits.{max_bound_per_pulse, max_energy_per_pulse, max_pulses}
use Rattle.metering_model.specs.Records as records
use Rattle.energy_register.specs.declared.Register.{Register}
use Rattle.energy_register.specs.declared.Step.{Step}

-- n pulses can have this step
pub record FitsPulses (s : Step) (n : ℕ) : Type 0 where
  pub some : 1 ≤ n
  pub pulses : n ≤ max_pulses
  pub energy : nat_abs s.e_mj ≤ max_energy_per_pulse * n
  pub bound : s.b_mj ≤ max_bound_per_pulse * n

-- new is old with n more pulses and their step
pub record Grows (old : Register) (s : Step) (n : ℕ) (new : Register) : Type 0 where
  pub pulses : new.pulses ≡ old.pulses + n
  pub energy : new.energy_mj ≡ old.energy_mj +ℤ s.e_mj
  pub bound : new.bound_mj ≡ old.bound_mj + s.b_mj

-- a register, in the words of the definitions
abbrev pub register_view : Register → records.Register
register_view r = record { pulses = r.pulses; energy_mj = r.energy_mj; bound_mj = r.bound_mj }
