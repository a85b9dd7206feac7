-- How far a script is answered.
use Rattle.std.specs.Prelude.{◌≡◌, ℕ, ◌+◌, List, [], Result, MatchResult, length}
use Rattle.metering_model.specs.Records.{MeterRecord, StandsFor}
use Rattle.integral_model.specs.Integral.{AllFitClosely}
use Rattle.script_model.specs.Lines.{after_lines, lines_of}
use Rattle.trace_model.specs.Trace.{Trace}
use Rattle.trace_model.specs.Images.{IsImage, NothingPending}
use Rattle.trace_model.specs.Moments.{IsPrefix}
use Rattle.trace_model.specs.Output.{open_segment, output_lines}
use Rattle.config_model.specs.Configuration.{Configuration}
use Rattle.memory_model.specs.Stored.{Side, Holds}
use Rattle.pairing_model.specs.Setup.{Setup, on_memory, settings_in}
use Rattle.pairing_model.specs.Journal.{Journal, at_start}
use Rattle.pairing_model.specs.Pairing.{Pairs}
use Rattle.billing_memory.specs.Records.{record_view}
use Rattle.meter_config.specs.Views.{config_view}
use Rattle.optical_readout.specs.Heard.{Heard}
use Rattle.mbus_records.specs.State.{IsAfter}
use Rattle.register_store.specs.Commits as commits
use Rattle.register_store.specs.Recovered.{side_view}
use Rattle.run_engine.specs.declared.Ended.{Ended}
use Rattle.run_engine.specs.declared.station.Station.{Station}
use Rattle.run_engine.specs.OutcomeOnMemory.{IsSound, OutcomeOnMemory}

-- A point of a run: the script, the bytes that are left of it, how many lines have their answers, the journal, the record
-- in force, and what happened to the board.
pub record Point : Type 0 where
  pub script : List ℕ
  pub rest : List ℕ
  pub answered : ℕ
  pub journal : Journal
  pub in_force : MeterRecord
  pub trace : Trace

abbrev pub point_of : (script rest : List ℕ) → ℕ → Journal → MeterRecord → Trace → Point
point_of script rest n j r t = record { script = script; rest = rest; answered = n; journal = j; in_force = r; trace = t }

-- before the first line
abbrev pub first_point : (script : List ℕ) → MeterRecord → Trace → Point
first_point script o t = point_of script script 0 at_start o t

-- behind the next line
abbrev pub next_point : Point → (after : List ℕ) → Journal → MeterRecord → Trace → Point
next_point at after j r t = point_of at.script after (at.answered + 1) j r t

-- a run from the record o has come to this point, and nothing happened since the last answer
pub record Progress (s : Setup) (o : MeterRecord) (at : Point) : Type 0 where
  pub pairs : Pairs s o 0 at_start (lines_of at.script) (output_lines at.trace) at.journal
  pub fits : AllFitClosely (settings_in s) o at.journal.kept
  pub count : length (output_lines at.trace) ≡ at.answered
  pub nothing : open_segment at.trace ≡ []
  pub behind : after_lines at.answered at.script ≡ at.rest
  pub in_force : StandsFor (settings_in s) o at.journal.kept at.in_force

-- and some journal has come of it
abbrev pub SomeProgress : Setup → MeterRecord → (script rest : List ℕ) → ℕ → MeterRecord → Trace → Type 0
SomeProgress s o script rest n r t = (j : Journal) × Progress s o (point_of script rest n j r t)

-- and the memory holds the record on this side, and nothing is pending; so far all was sound
pub record ProgressOnMemory (c : Configuration) (o : MeterRecord) (at : Point) (side : Side) (reads : List ℕ) : Type 0 where
  pub progress : Progress (on_memory c) o at
  pub settled : NothingPending at.trace
  pub possible : IsImage at.trace reads
  pub holds : commits.StandsFor (Holds c at.in_force side) reads
  pub sound : (p : Trace) → IsPrefix p at.trace → IsSound c o (lines_of at.script) p

-- where the record in force is the station's
abbrev pub station_point : (script rest : List ℕ) → ℕ → Journal → Station → Trace → Point
station_point script rest n j station t = point_of script rest n j (record_view station.meter.record) t

-- the record in force and the configuration are the station's, and its readouts have heard what the journal tells
pub record Readiness (c : Configuration) (o : MeterRecord) (script rest : List ℕ) (n : ℕ) (station : Station) (reads : List ℕ) (t : Trace) : Type 0 where
  pub config : c ≡ config_view station.meter.config
  pub journal : Journal
  pub progress : ProgressOnMemory c o (station_point script rest n journal station t) (side_view station.side) reads
  pub head : Heard c journal.last_message station.optical
  pub bus : IsAfter c journal.frames station.slave

-- the station is ready for the next line, or the run is over, by the end that the error stands for
abbrev pub NextOrOutcome : Configuration → MeterRecord → (script rest : List ℕ) → ℕ → Station → (reads : List ℕ) → Trace → {T E : Type 0} → (E → Ended) → Result T E → Type 0
NextOrOutcome c o script rest n station reads t ended result = MatchResult result (λ _. Readiness c o script rest n station reads t) (λ e. OutcomeOnMemory c o script t (ended e))
