-- What `read` answers to bytes, and what it leaves.
use Rattle.std.specs.Prelude.{◌≡◌, ◌⊎◌, ℕ, List, Result, Ok, Err}
use Rattle.trace_model.specs.Trace.{Trace}
use Rattle.meter_cli.specs.Puts.{PutsLines}
use Rattle.meter_cli.specs.declared.status.Status.{Status}
use Rattle.meter_cli.specs.declared.status.Status.TheVariants.{Done, Read, Write, BadReadout}

-- what is answered to bytes that say this, or break a rule at a place, where nothing fails
abbrev pub read_status : {Fields : Type 0} → Result Fields ℕ → Status
read_status (Ok fields) = Done
read_status (Err at) = BadReadout at

-- what is answered where something may fail: a read, or for bytes that say something a put
abbrev pub ReadAnswers : {Fields : Type 0} → Result Fields ℕ → Status → Type 0
ReadAnswers (Ok fields) status = (status ≡ Done) ⊎ (status ≡ Write) ⊎ (status ≡ Read)
ReadAnswers (Err at) status = (status ≡ BadReadout at) ⊎ (status ≡ Read)

-- what bytes leave that were read: the lines of what they say, and nothing where they break a rule
abbrev pub SaidLeaves : {Fields : Type 0} → (AreLines : Fields → List (List ℕ) → Type 0) → Result Fields ℕ → (old new : Trace) → Status → Type 0
SaidLeaves AreLines (Ok fields) old new status = (lines : List (List ℕ)) × AreLines fields lines × PutsLines lines old new status
SaidLeaves AreLines (Err at) old new status = (status ≡ BadReadout at) × (new ≡ old)

-- what `read` leaves
abbrev pub ReadLeaves : {Fields : Type 0} → (AreLines : Fields → List (List ℕ) → Type 0) → Result Fields ℕ → (old new : Trace) → Status → Type 0
ReadLeaves AreLines said old new status = ((status ≡ Read) × (new ≡ old)) ⊎ SaidLeaves AreLines said old new status
