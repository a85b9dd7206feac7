-- What a memory holds during a format and after it.
use Rattle.std.specs.Prelude.{◌≡◌, ◌≢◌, ◌⊎◌, ℕ, List, ◌∷◌, take, length, slice_index, Ok}
use Rattle.config_model.specs.Configuration.{Configuration}
use Rattle.metering_model.specs.Records.{MeterRecord}
use Rattle.memory_model.specs.Fields.{part}
use Rattle.memory_model.specs.Header.{header_in}
use Rattle.memory_model.specs.Slot.{record_in, slot_size}
use Rattle.memory_model.specs.Stored.{Holds, A, mark, stored}

-- the configuration, with the record in slot A
abbrev pub HoldsInA : Configuration → MeterRecord → List ℕ → Type 0
HoldsInA c r image = stored image ≡ Holds c r A

-- unformatted, or that
abbrev pub UnformattedOr : Configuration → MeterRecord → List ℕ → Type 0
UnformattedOr c r image = (slice_index image 0 ≢ mark) ⊎ HoldsInA c r image

-- the bytes 1 to 1,791 of a memory with the configuration, and the record in slot A
pub record Spells (c : Configuration) (r : MeterRecord) (bytes : List ℕ) : Type 0 where
  pub size : length bytes ≡ 1791
  pub header : header_in (mark ∷ take 255 bytes) ≡ Ok c
  pub gate : slice_index bytes 255 ≡ 0
  pub slot : record_in (part 511 slot_size bytes) ≡ Ok r
