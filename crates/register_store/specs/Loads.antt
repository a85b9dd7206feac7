-- What the parts of a memory are read as.
use Rattle.std.specs.Prelude.{◌≡◌, ◌≢◌, ℕ, ◌+◌, List, slice_index, Result, Ok, Err}
use Rattle.config_model.specs.Configuration.{Configuration}
use Rattle.memory_model.specs.Fields.{part}
use Rattle.memory_model.specs.Header.{header_in, header_size}
use Rattle.memory_model.specs.Slot.{record_in, slot_size}
use Rattle.memory_model.specs.Stored.{Side, mark, slot_at}
use Rattle.meter_config.specs.declared.config.Config.{Config}
use Rattle.meter_config.specs.Views.{config_view}
use Rattle.billing_memory.specs.declared.meter_record.MeterRecord.{MeterRecord}
use Rattle.billing_memory.specs.Records.{record_view}
use Rattle.state_codec.specs.declared.foreign.Foreign.{Foreign}
use Rattle.register_store.specs.declared.unreadable.Unreadable.{Unreadable}
use Rattle.register_store.specs.declared.unreadable.Unreadable.TheVariants as reasons

-- the memory begins with the mark, and its header reads so
pub record HeaderIs (memory : List ℕ) (read : Result Configuration ℕ) : Type 0 where
  pub marked : slice_index memory 0 ≡ mark
  pub reads : header_in (part 0 header_size memory) ≡ read

-- what the header reads, unless the memory failed
abbrev pub HeaderGives : Result Config Unreadable → List ℕ → Type 0
HeaderGives (Ok c) memory = HeaderIs memory (Ok (config_view c))
HeaderGives (Err (reasons.Unformatted byte)) memory = (slice_index memory 0 ≢ mark) × (slice_index memory 0 ≡ byte)
HeaderGives (Err (reasons.Foreign at)) memory = HeaderIs memory (Err at)
HeaderGives (Err reasons.Memory) memory = Unit {0}

-- what the slot of a side reads; a fault has its offset in the memory
abbrev pub SlotGives : Side → Result MeterRecord Foreign → List ℕ → Type 0
SlotGives side (Ok r) memory = record_in (part (slot_at side) slot_size memory) ≡ Ok (record_view r)
SlotGives side (Err foreign) memory = (at : ℕ) × (record_in (part (slot_at side) slot_size memory) ≡ Err at) × (foreign.at ≡ slot_at side + at)
