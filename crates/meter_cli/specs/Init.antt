-- What `init` answers to a text, and what it leaves.
use Rattle.std.specs.Prelude.{◌≡◌, ◌≢◌, ℕ, List, [], ◌++◌, codes, slice_index, Result, IsOk}
use Rattle.config_model.specs.Configuration.{Configuration}
use Rattle.accept_model.specs.Accepted.{Fault}
use Rattle.display_model.specs.Display.{eight_digits}
use Rattle.metering_model.specs.Records.{MeterRecord, opening_record}
use Rattle.memory_model.specs.Stored.{mark}
use Rattle.trace_model.specs.Trace.{Trace}
use Rattle.trace_model.specs.Moments.{Leaves}
use Rattle.meter_config.specs.Faults.{Refuses}
use Rattle.register_store.specs.Formatted.{HoldsInA}
use Rattle.register_store.specs.Works.{Works}
use Rattle.meter_cli.specs.Puts.{PutsLine}
use Rattle.meter_cli.specs.declared.status.Status.{Status}
use Rattle.meter_cli.specs.declared.status.Status.TheVariants.{Done, Usage, Config, Line, Memory, Read, Write, Unformatted, Foreign, Formatted, OutOfMemory, Cut, NotRising, BadReadout}

-- `init SERIAL`, in eight digits
abbrev pub init_line : Configuration → List ℕ
init_line c = codes "init " ++ eight_digits c.serial ++ codes "\n"

-- the record that has counted nothing, on the configuration's day
abbrev pub first_record : Configuration → MeterRecord
first_record c = opening_record c.opening_day

-- the text is accepted, and was read to its end
abbrev pub Accepts : Result Configuration Fault → (left : List ℕ) → Type 0
Accepts said left = IsOk said × (left ≡ [])

-- What each status says of the text: at Config it is refused with that fault. Read and OutOfMemory say nothing.
abbrev pub InitAnswers : Result Configuration Fault → (left : List ℕ) → Status → Type 0
InitAnswers said left Done = Accepts said left
InitAnswers said left (Usage word) = ⊥
InitAnswers said left (Config fault) = Refuses fault said
InitAnswers said left (Line n kind) = ⊥
InitAnswers said left Memory = Accepts said left
InitAnswers said left Read = Unit {0}
InitAnswers said left Write = Accepts said left
InitAnswers said left (Unformatted byte) = ⊥
InitAnswers said left (Foreign at) = ⊥
InitAnswers said left Formatted = Accepts said left
InitAnswers said left OutOfMemory = Unit {0}
InitAnswers said left Cut = Accepts said left
InitAnswers said left (NotRising segment) = ⊥
InitAnswers said left (BadReadout at) = ⊥

-- The memory, whose first byte was not the mark, was formatted by at most two stores and two syncs. Then its line was put.
-- Each image that is possible now holds the configuration and its first record.
pub record Formats (is_told : Configuration → Type 0) (memory : List ℕ) (old new : Trace) (status : Status) : Type 0 where
  pub c : Configuration
  pub told : is_told c
  pub unformatted : slice_index memory 0 ≢ mark
  pub formatted : Trace
  pub works : Works 2 0 old formatted
  pub puts : PutsLine (init_line c) formatted new status
  pub holds : Leaves (HoldsInA c (first_record c)) new

-- What each status leaves, where the memory read this and the configuration is one that was told. Formatted comes where the
-- first byte is the mark. At Memory and Cut there are at most two stores and two syncs, and one cut at Cut alone.
abbrev pub InitLeaves : (is_told : Configuration → Type 0) (memory : List ℕ) (old new : Trace) → Status → Type 0
InitLeaves is_told memory old new Done = Formats is_told memory old new Done
InitLeaves is_told memory old new (Usage word) = ⊥
InitLeaves is_told memory old new (Config fault) = new ≡ old
InitLeaves is_told memory old new (Line n kind) = ⊥
InitLeaves is_told memory old new Memory = Works 2 0 old new
InitLeaves is_told memory old new Read = new ≡ old
InitLeaves is_told memory old new Write = Formats is_told memory old new Write
InitLeaves is_told memory old new (Unformatted byte) = ⊥
InitLeaves is_told memory old new (Foreign at) = ⊥
InitLeaves is_told memory old new Formatted = (slice_index memory 0 ≡ mark) × (new ≡ old)
InitLeaves is_told memory old new OutOfMemory = new ≡ old
InitLeaves is_told memory old new Cut = (slice_index memory 0 ≢ mark) × Works 2 1 old new
InitLeaves is_told memory old new (NotRising segment) = ⊥
InitLeaves is_told memory old new (BadReadout at) = ⊥
