-- What a run leaves, where the source tells its bytes and the board its trace.
use Rattle.std.specs.Prelude.{◌≡◌, ◌≤◌, ◌⊎◌, ℕ, List}
use Rattle.std.specs.List.{count_by}
use Rattle.metering_model.specs.Records.{MeterRecord}
use Rattle.script_model.specs.Lines.{lines_of}
use Rattle.trace_model.specs.Trace.{Trace, IsFresh}
use Rattle.trace_model.specs.Output.{open_segment}
use Rattle.trace_model.specs.Moments.{IsPrefix, Leaves}
use Rattle.config_model.specs.Configuration.{Configuration}
use Rattle.memory_model.specs.Stored as model
use Rattle.memory_model.specs.Stored.{Stored, Holds}
use Rattle.pairing_model.specs.Setup.{on_memory}
use Rattle.recovery_model.specs.Right.{HeldBefore, HoldsKept, IsRight}
use Rattle.register_store.specs.Works.{is_store, is_sync}
use Rattle.run_engine.specs.declared.Ended.{Ended}
use Rattle.run_engine.specs.declared.Ended.TheVariants.{Done, Line, Memory, Read, Write, Unformatted, Foreign}
use Rattle.run_engine.specs.Outcome.{Outcome}

-- since the last output line there were at most two stores, and at most two syncs, missed ones counted
pub record IsFrugal (moment : Trace) : Type 0 where
  pub stores : count_by is_store (open_segment moment) ≤ 2
  pub syncs : count_by is_sync (open_segment moment) ≤ 2

-- at a moment: the memory is right, whatever it may hold; no output line went out before the memory held it; and no event
-- takes more than two stores and two syncs
pub record IsSound (c : Configuration) (o : MeterRecord) (lines : List (List ℕ)) (moment : Trace) : Type 0 where
  pub right : Leaves (IsRight c o lines moment) moment
  pub held_before : HeldBefore c o lines moment
  pub frugal : IsFrugal moment

-- where each line was answered up to the end or a refused line, the memory holds all that was kept
abbrev pub EndsHeld : Configuration → MeterRecord → List (List ℕ) → Trace → Ended → Type 0
EndsHeld c o lines trace Done = Leaves (HoldsKept c o lines trace) trace
EndsHeld c o lines trace (Line n kind) = Leaves (HoldsKept c o lines trace) trace
EndsHeld c o lines trace Memory = Unit {0}
EndsHeld c o lines trace Write = Unit {0}
EndsHeld c o lines trace Read = Leaves (HoldsKept c o lines trace) trace
EndsHeld c o lines trace (Unformatted byte) = ⊥
EndsHeld c o lines trace (Foreign at) = ⊥

-- a run over a memory that held the configuration c and the record o
pub record OutcomeOnMemory (c : Configuration) (o : MeterRecord) (script : List ℕ) (trace : Trace) (ended : Ended) : Type 0 where
  pub ran : Outcome (on_memory c) o script trace ended
  pub sound : (p : Trace) → IsPrefix p trace → IsSound c o (lines_of script) p
  pub held : EndsHeld c o (lines_of script) trace ended

-- a run, by what the memory stood for at its start
abbrev pub OutcomeByMemory : Stored → List ℕ → Trace → Ended → Type 0
OutcomeByMemory (model.Unformatted byte) script trace ended = ((ended ≡ Unformatted byte) ⊎ (ended ≡ Memory)) × IsFresh trace
OutcomeByMemory (model.Foreign at) script trace ended = ((ended ≡ Foreign at) ⊎ (ended ≡ Memory)) × IsFresh trace
OutcomeByMemory (Holds c o side) script trace ended = OutcomeOnMemory c o script trace ended
