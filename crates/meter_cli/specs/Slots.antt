-- What `slots` leaves.
use Rattle.std.specs.Prelude.{◌≡◌, ℕ, List, [], ◌∷◌, ◌++◌, codes, Result, Ok, Err}
use Rattle.std.specs.Fmt.{decimal}
use Rattle.memory_model.specs.Stored.{Side, A, B}
use Rattle.memory_model.specs.Slots.{Look, Unformatted, Foreign, Slots, look}
use Rattle.trace_model.specs.Trace.{Trace}
use Rattle.meter_cli.specs.Show.{LookLeaves}
use Rattle.meter_cli.specs.declared.status.Status.{Status}

-- the side that the gate chooses
abbrev pub gate_text : Side → List ℕ
gate_text A = codes "gate a\n"
gate_text B = codes "gate b\n"

-- the number of events in a slot, or the offset in the memory of its first field that breaks its rule
abbrev pub slot_text : (name : List ℕ) → Result ℕ ℕ → List ℕ
slot_text name (Ok events) = name ++ codes " " ++ decimal events ++ codes "\n"
slot_text name (Err at) = name ++ codes " foreign " ++ decimal at ++ codes "\n"

-- the three lines
abbrev pub slots_lines : Side → (a b : Result ℕ ℕ) → List (List ℕ)
slots_lines gate a b = gate_text gate ∷ slot_text (codes "a") a ∷ slot_text (codes "b") b ∷ []

abbrev pub AreSlotLines : Look → List (List ℕ) → Type 0
AreSlotLines (Unformatted byte) lines = ⊥
AreSlotLines (Foreign at) lines = ⊥
AreSlotLines (Slots gate a b) lines = lines ≡ slots_lines gate a b

-- what `slots` leaves, where the memory read this
abbrev pub SlotsLeaves : (memory : List ℕ) (old new : Trace) → Status → Type 0
SlotsLeaves memory = LookLeaves (AreSlotLines (look memory)) (λ byte. look memory ≡ Unformatted byte) (λ at. look memory ≡ Foreign at)
