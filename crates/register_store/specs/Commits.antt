-- What a memory holds while a meter's record is replaced, and after it.
use Rattle.std.specs.Prelude.{◌≡◌, ◌⊎◌, ℕ, true, List, Ok}
use Rattle.config_model.specs.Configuration.{Configuration}
use Rattle.metering_model.specs.Records.{MeterRecord}
use Rattle.memory_model.specs.Fields.{part}
use Rattle.memory_model.specs.Slot.{record_in, slot_size}
use Rattle.memory_model.specs.Stored.{Side, A, B, Stored, Holds, slot_at, stored}
use Rattle.trace_model.specs.Trace.{Trace, Cut, ◌▷◌}

-- the slot that a side isn't
abbrev pub other : Side → Side
other A = B
other B = A

-- the byte that is stored as the gate where a side is to be chosen
abbrev pub gate_of : Side → ℕ
gate_of A = 0
gate_of B = 1

-- a configuration and a record, with this side
pub record StandsOn (side : Side) (memory : List ℕ) : Type 0 where
  pub config : Configuration
  pub held : MeterRecord
  pub is : stored memory ≡ Holds config held side

-- the bytes stand for this
abbrev pub StandsFor : Stored → List ℕ → Type 0
StandsFor what image = stored image ≡ what

-- the configuration, with the old record on this side or the new one on the other
abbrev pub HoldsEither : Configuration → Side → (old new : MeterRecord) → List ℕ → Type 0
HoldsEither c side old new image = StandsFor (Holds c old side) image ⊎ StandsFor (Holds c new (other side)) image

-- the slot of a side holds this record, whichever side the gate chooses
abbrev pub SlotHolds : Side → MeterRecord → List ℕ → Type 0
SlotHolds side r memory = record_in (part (slot_at side) slot_size memory) ≡ Ok r

-- the configuration with the old record on this side, and the new one in the other slot
pub record HoldsBoth (c : Configuration) (side : Side) (old new : MeterRecord) (memory : List ℕ) : Type 0 where
  pub in_force : StandsFor (Holds c old side) memory
  pub filled : SlotHolds (other side) new memory

-- the last entry is a cut by the memory's call, and its image is what is read now and has Q
pub record EndsCut (Q : List ℕ → Type 0) (t : Trace) (reads : List ℕ) : Type 0 where
  pub before : Trace
  pub last : t ≡ before ▷ Cut true reads
  pub image : Q reads
