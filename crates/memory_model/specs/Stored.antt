-- What a memory of 16,384 bytes stands for.
use Rattle.std.specs.Prelude.{ℕ, ◌+◌, ◌%◌, ◌==◌, List, slice_index, if◌then◌else◌, Result, Ok, Err}
use Rattle.config_model.specs.Configuration.{Configuration}
use Rattle.metering_model.specs.Records.{MeterRecord}
use Rattle.memory_model.specs.Fields.{part}
use Rattle.memory_model.specs.Header.{header_in, header_size}
use Rattle.memory_model.specs.Slot.{record_in, slot_size}

-- of the two slots the one that holds the record in force
pub data Side : Type 0 where
  A : Side
  B : Side

-- nothing, as the first byte is not the mark; a field that breaks its rule, with its offset in the memory; or a
-- configuration and a record
pub data Stored : Type 0 where
  Unformatted : (byte : ℕ) → Stored
  Foreign : (at : ℕ) → Stored
  Holds : (config : Configuration) (held : MeterRecord) (side : Side) → Stored

abbrev pub mark : ℕ
mark = 165

abbrev pub slot_at : Side → ℕ
slot_at A = 512
slot_at B = 2048

-- the lowest bit of the gate, byte 256, chooses the side
abbrev pub side_of : ℕ → Side
side_of gate = if gate % 2 == 0 then A else B

abbrev pub chosen : List ℕ → Side
chosen memory = side_of (slice_index memory 256)

abbrev pub with_record : Configuration → Side → Result MeterRecord ℕ → Stored
with_record c side (Ok r) = Holds c r side
with_record c side (Err at) = Foreign (slot_at side + at)

abbrev pub with_header : Result Configuration ℕ → Side → Result MeterRecord ℕ → Stored
with_header (Ok c) side slot = with_record c side slot
with_header (Err at) side slot = Foreign at

-- what the first byte, the header and the slot of a side stand for
abbrev pub stored_from : ℕ → Result Configuration ℕ → Side → Result MeterRecord ℕ → Stored
stored_from first header side slot = if first == mark then with_header header side slot else Unformatted first

abbrev pub stored_on : Side → List ℕ → Stored
stored_on side memory =
    stored_from (slice_index memory 0) (header_in (part 0 header_size memory)) side (record_in (part (slot_at side) slot_size memory))

abbrev pub stored : List ℕ → Stored
stored memory = stored_on (chosen memory) memory
