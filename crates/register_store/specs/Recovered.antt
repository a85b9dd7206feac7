-- What is recovered from a memory.
use Rattle.std.specs.Prelude.{◌≡◌, ℕ, List, Result, Ok, Err}
use Rattle.meter_config.specs.declared.config.Config.{Config}
use Rattle.meter_config.specs.Views.{config_view}
use Rattle.billing_memory.specs.declared.meter_record.MeterRecord.{MeterRecord}
use Rattle.billing_memory.specs.Records.{record_view}
use Rattle.memory_model.specs.Stored as model
use Rattle.memory_model.specs.Stored.{Stored, Unformatted, Foreign, Holds, stored}
use Rattle.register_store.specs.declared.side.Side.{Side}
use Rattle.register_store.specs.declared.side.Side.TheVariants as sides
use Rattle.register_store.specs.declared.unreadable.Unreadable.{Unreadable}
use Rattle.register_store.specs.declared.unreadable.Unreadable.TheVariants as reasons

abbrev pub side_view : Side → model.Side
side_view sides.A = model.A
side_view sides.B = model.B

-- what the memory stands for, unless it failed
abbrev pub RecoverGives : Result (Config × MeterRecord × Side) Unreadable → List ℕ → Type 0
RecoverGives (Ok x) memory = stored memory ≡ Holds (config_view x.0) (record_view x.1) (side_view x.2)
RecoverGives (Err (reasons.Unformatted byte)) memory = stored memory ≡ Unformatted byte
RecoverGives (Err (reasons.Foreign at)) memory = stored memory ≡ Foreign at
RecoverGives (Err reasons.Memory) memory = Unit {0}
