-- What `show` leaves.
use Rattle.std.specs.Prelude.{◌≡◌, ℕ, List}
use Rattle.config_model.specs.Configuration.{Configuration}
use Rattle.metering_model.specs.Records.{MeterRecord}
use Rattle.memory_model.specs.Stored.{Side, Holds, stored}
use Rattle.memory_model.specs.Stored as model
use Rattle.trace_model.specs.Trace.{Trace}
use Rattle.show_model.specs.Lines.{AreShowLines}
use Rattle.meter_cli.specs.Puts.{PutsLines}
use Rattle.meter_cli.specs.declared.status.Status.{Status}
use Rattle.meter_cli.specs.declared.status.Status.TheVariants.{Done, Usage, Config, Line, Memory, Read, Write, Unformatted, Foreign, Formatted, OutOfMemory, Cut, NotRising, BadReadout}

-- these lines were put
pub record ArePut (Are : List (List ℕ) → Type 0) (old new : Trace) (status : Status) : Type 0 where
  pub lines : List (List ℕ)
  pub are : Are lines
  pub puts : PutsLines lines old new status

-- what each status leaves of a command that puts lines of what the memory reads, or finds it unformatted or foreign
abbrev pub LookLeaves : (Are : List (List ℕ) → Type 0) (IsUnformatted IsForeign : ℕ → Type 0) (old new : Trace) → Status → Type 0
LookLeaves Are IsUnformatted IsForeign old new Done = ArePut Are old new Done
LookLeaves Are IsUnformatted IsForeign old new (Usage word) = ⊥
LookLeaves Are IsUnformatted IsForeign old new (Config fault) = ⊥
LookLeaves Are IsUnformatted IsForeign old new (Line n kind) = ⊥
LookLeaves Are IsUnformatted IsForeign old new Memory = new ≡ old
LookLeaves Are IsUnformatted IsForeign old new Read = ⊥
LookLeaves Are IsUnformatted IsForeign old new Write = ArePut Are old new Write
LookLeaves Are IsUnformatted IsForeign old new (Unformatted byte) = IsUnformatted byte × (new ≡ old)
LookLeaves Are IsUnformatted IsForeign old new (Foreign at) = IsForeign at × (new ≡ old)
LookLeaves Are IsUnformatted IsForeign old new Formatted = ⊥
LookLeaves Are IsUnformatted IsForeign old new OutOfMemory = ⊥
LookLeaves Are IsUnformatted IsForeign old new Cut = ⊥
LookLeaves Are IsUnformatted IsForeign old new (NotRising segment) = ⊥
LookLeaves Are IsUnformatted IsForeign old new (BadReadout at) = ⊥

-- the lines of the configuration and the record that the memory holds
pub record AreMemoryLines (memory : List ℕ) (lines : List (List ℕ)) : Type 0 where
  pub c : Configuration
  pub r : MeterRecord
  pub side : Side
  pub held : stored memory ≡ Holds c r side
  pub are : AreShowLines c r lines

-- what `show` leaves, where the memory read this
abbrev pub ShowLeaves : (memory : List ℕ) (old new : Trace) → Status → Type 0
ShowLeaves memory = LookLeaves (AreMemoryLines memory) (λ byte. stored memory ≡ model.Unformatted byte) (λ at. stored memory ≡ model.Foreign at)
