-- What a look at both slots gives.
use Rattle.std.specs.Prelude.{◌≡◌, ℕ, Bool, List, if◌then◌else◌, Result, Ok, Err}
use Rattle.memory_model.specs.Stored.{Side, A, B}
use Rattle.memory_model.specs.Slots as model
use Rattle.memory_model.specs.Slots.{look}
use Rattle.state_codec.specs.declared.foreign.Foreign.{Foreign}
use Rattle.register_store.specs.declared.looking.Slots.{Slots}
use Rattle.register_store.specs.declared.unreadable.Unreadable.{Unreadable}
use Rattle.register_store.specs.declared.unreadable.Unreadable.TheVariants as reasons

-- the side that the gate chooses by its lowest bit
abbrev pub gate_view : (odd : Bool) → Side
gate_view odd = if odd then B else A

-- the number of events in a slot, or the offset in the memory of its first field that breaks its rule
abbrev pub slot_view : Result ℕ Foreign → Result ℕ ℕ
slot_view (Ok events) = Ok events
slot_view (Err foreign) = Err foreign.at

-- what both slots show, unless the memory failed
abbrev pub LookGives : Result Slots Unreadable → List ℕ → Type 0
LookGives (Ok slots) memory = look memory ≡ model.Slots (gate_view slots.odd) (slot_view slots.a) (slot_view slots.b)
LookGives (Err (reasons.Unformatted byte)) memory = look memory ≡ model.Unformatted byte
LookGives (Err (reasons.Foreign at)) memory = look memory ≡ model.Foreign at
LookGives (Err reasons.Memory) memory = Unit {0}
