-- What pulses raise.
use Rattle.std.specs.Prelude.{◌≡◌, ℕ, ◌+◌, ◌*◌, pos, ◌+ℤ◌, ◌*ℤ◌}
use Rattle.billing_memory.specs.declared.meter_record.MeterRecord.{MeterRecord}
use Rattle.energy_register.specs.declared.Step.{Step}

-- the energy, its bound and the faulty pulses are raised by n times what one pulse adds
pub record Raises (n : ℕ) (unit : Step) (old new : MeterRecord) : Type 0 where
  pub energy : new.register.energy_mj ≡ old.register.energy_mj +ℤ pos n *ℤ unit.e_mj
  pub bound : new.register.bound_mj ≡ old.register.bound_mj + n * unit.b_mj
  pub faulty : new.faulty ≡ old.faulty + n * unit.faulty
