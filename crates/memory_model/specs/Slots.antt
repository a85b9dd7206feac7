-- What a look at both slots of a memory shows, whichever of them holds the record in force.
use Rattle.std.specs.Prelude.{ℕ, ◌+◌, ◌==◌, List, slice_index, if◌then◌else◌, Result, Ok, Err}
use Rattle.config_model.specs.Configuration.{Configuration}
use Rattle.metering_model.specs.Records.{MeterRecord}
use Rattle.memory_model.specs.Fields.{part}
use Rattle.memory_model.specs.Header.{header_in, header_size}
use Rattle.memory_model.specs.Slot.{record_in, slot_size}
use Rattle.memory_model.specs.Stored.{Side, A, B, chosen, mark, slot_at}

-- nothing, as the first byte is not the mark; a field of the header that breaks its rule, with its offset; or the side that
-- the gate chooses and, of each slot, the number of events of its record, or the offset in the memory of its first field that
-- breaks its rule
pub data Look : Type 0 where
  Unformatted : (byte : ℕ) → Look
  Foreign : (at : ℕ) → Look
  Slots : (gate : Side) (a b : Result ℕ ℕ) → Look

abbrev pub events_or_place : Side → Result MeterRecord ℕ → Result ℕ ℕ
events_or_place side (Ok r) = Ok r.seq
events_or_place side (Err at) = Err (slot_at side + at)

-- what stands in the slot of a side
abbrev pub events_on : Side → List ℕ → Result ℕ ℕ
events_on side memory = events_or_place side (record_in (part (slot_at side) slot_size memory))

abbrev pub slots_or_place : Result Configuration ℕ → Side → (a b : Result ℕ ℕ) → Look
slots_or_place (Ok c) gate a b = Slots gate a b
slots_or_place (Err at) gate a b = Foreign at

-- what the first byte, the header, the gate and both slots show
abbrev pub look_from : ℕ → Result Configuration ℕ → Side → (a b : Result ℕ ℕ) → Look
look_from first header gate a b = if first == mark then slots_or_place header gate a b else Unformatted first

abbrev pub look : List ℕ → Look
look memory =
    look_from (slice_index memory 0) (header_in (part 0 header_size memory)) (chosen memory) (events_on A memory) (events_on B memory)
