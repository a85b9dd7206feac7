-- What a move to another day leaves.
use Rattle.std.specs.Prelude.{◌≡◌}
use Rattle.billing_memory.specs.declared.meter_record.MeterRecord.{MeterRecord}

-- all but the day and the entries is as it was
pub record KeepsCounts (old new : MeterRecord) : Type 0 where
  pub seq : new.seq ≡ old.seq
  pub samples : new.samples ≡ old.samples
  pub faulty : new.faulty ≡ old.faulty
  pub register : new.register ≡ old.register
