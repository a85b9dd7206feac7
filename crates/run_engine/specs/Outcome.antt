-- What the lines of a script leave, where the source tells its bytes and the board its trace.
use Rattle.std.specs.Prelude.{◌≡◌, ◌≢◌, ℕ, ◌+◌, ◌⊎◌, true, List, [], ◌∷◌, ◌++◌, length, take, None, Some, Ok, slice_get}
use Rattle.metering_model.specs.Events.{Kept}
use Rattle.metering_model.specs.Records.{MeterRecord, record_after}
use Rattle.integral_model.specs.Integral.{AllFitClosely}
use Rattle.script_model.specs.Lines.{after_lines, lines_of}
use Rattle.script_model.specs.Grammar as grammar
use Rattle.script_model.specs.Grammar.{Metering, Power, Opt, Mbus, line_of}
use Rattle.trace_model.specs.Trace.{Entry, Put, Trace}
use Rattle.trace_model.specs.Output.{OutputLine, output_lines, open_segment}
use Rattle.trace_model.specs.Moments.{IsPrefix}
use Rattle.answer_model.specs.Faults.{Fault, fault_of, is_open}
use Rattle.pairing_model.specs.Setup.{Setup, settings_in}
use Rattle.pairing_model.specs.Journal.{Journal, at_start}
use Rattle.pairing_model.specs.Pairing.{Answers, IsCutWork, IsPowerFailure, IsWork, Pairs}
use Rattle.event_script.specs.declared.LineFault.{LineFault}
use Rattle.event_script.specs.Views.{fault_view}
use Rattle.run_engine.specs.declared.Ended.{Ended}
use Rattle.run_engine.specs.declared.Ended.TheVariants.{Done, Line, Memory, Read, Write, Unformatted, Foreign}

-- the line after the n first is refused for this reason, which the record in force decides
pub record IsRefused (s : Setup) (o : MeterRecord) (lines : List (List ℕ)) (kept : List Kept) (n : ℕ) (fault : Fault) : Type 0 where
  pub line : List ℕ
  pub place : slice_get lines n ≡ Some line
  pub why : fault_of s.command (record_after (settings_in s) o kept) n line ≡ Some fault

-- what happened for a line where the memory failed: for an event it worked, and maybe the power failed, after which the
-- record could not be recovered; so it is for a power failure of its own; to order a cut failed at once; for a readout the
-- memory is not asked
abbrev pub FailsIn : grammar.Line → List Entry → Type 0
FailsIn (Metering event) rest = IsWork rest ⊎ IsCutWork rest
FailsIn Power rest = (rest ≡ []) ⊎ IsPowerFailure rest
FailsIn (grammar.Cut n keep fill) rest = rest ≡ []
FailsIn (Opt message) rest = ⊥
FailsIn (Mbus bytes) rest = ⊥

-- the memory failed for the line after the n first, which is not refused
pub record StopsInLine (s : Setup) (o : MeterRecord) (lines : List (List ℕ)) (kept : List Kept) (n : ℕ) (rest : List Entry) : Type 0 where
  pub line : List ℕ
  pub place : slice_get lines n ≡ Some line
  pub taken : fault_of s.command (record_after (settings_in s) o kept) n line ≡ None
  pub said : grammar.Line
  pub says : line_of line ≡ Ok said
  pub fails : FailsIn said rest

-- all happened for the line after the n first but its answer, of which nothing went out, or a front
pub record StopsInAnswer (s : Setup) (o : MeterRecord) (lines : List (List ℕ)) (journal : Journal) (n : ℕ) (rest : List Entry) : Type 0 where
  pub line : List ℕ
  pub place : slice_get lines n ≡ Some line
  pub segment : List Entry
  pub text : List ℕ
  pub new : Journal
  pub answer : Answers s o n journal line (record { segment = segment; text = text }) new
  pub went : (rest ≡ segment) ⊎ ((count : ℕ) × (rest ≡ segment ++ Put (take count text) ∷ []))

-- Done: each line has its output line. Line: the next line is refused, and nothing happened for it. Memory: it failed at
-- first, or for the next line. Write: the last answer went out, or the next one failed. Read: nothing happened since. The
-- memory is never found unformatted or foreign, not after a power failure either.
abbrev pub EndsAt : Setup → MeterRecord → List (List ℕ) → List OutputLine → List Entry → Journal → Ended → Type 0
EndsAt s o lines outputs rest j Done = (length outputs ≡ length lines) × (rest ≡ [])
EndsAt s o lines outputs rest j (Line n kind) = (n ≡ length outputs + 1) × IsRefused s o lines j.kept (length outputs) (fault_view kind) × (rest ≡ [])
EndsAt s o lines outputs rest j Memory = ((outputs ≡ []) × (rest ≡ [])) ⊎ StopsInLine s o lines j.kept (length outputs) rest
EndsAt s o lines outputs rest j Write = ((outputs ≢ []) × (rest ≡ [])) ⊎ StopsInAnswer s o lines j (length outputs) rest
EndsAt s o lines outputs rest j Read = rest ≡ []
EndsAt s o lines outputs rest j (Unformatted byte) = ⊥
EndsAt s o lines outputs rest j (Foreign at) = ⊥

-- at a moment, the output lines pair with the first lines of the script, and the events that they keep fit closely
pub record Metered (s : Setup) (o : MeterRecord) (script : List ℕ) (moment : Trace) : Type 0 where
  pub journal : Journal
  pub pairs : Pairs s o 0 at_start (lines_of script) (output_lines moment) journal
  pub fits : AllFitClosely (settings_in s) o journal.kept

-- The output lines pair with the first lines of the script, from the opening record o, and the events that they keep fit
-- closely. So it was at each moment.
pub record Outcome (s : Setup) (o : MeterRecord) (script : List ℕ) (trace : Trace) (ended : Ended) : Type 0 where
  pub journal : Journal
  pub pairs : Pairs s o 0 at_start (lines_of script) (output_lines trace) journal
  pub fits : AllFitClosely (settings_in s) o journal.kept
  pub ends : EndsAt s o (lines_of script) (output_lines trace) (open_segment trace) journal ended
  pub moments : (p : Trace) → IsPrefix p trace → Metered s o script p

-- each line was answered, or one was refused
abbrev pub IsDoneOrRefused : Ended → Type 0
IsDoneOrRefused ended = (ended ≡ Done) ⊎ ((n : ℕ) × (kind : LineFault) × (ended ≡ Line n kind))

-- Where a read failed: behind the lines that were answered stands what of the next one was delivered, which leaves it open
-- what that line says and why it is refused, and then what the source has left.
pub record StopsAtRead (script left : List ℕ) (n : ℕ) : Type 0 where
  pub front : List ℕ
  pub behind : after_lines n script ≡ front ++ left
  pub undecided : is_open n front ≡ true
