-- What the memory of a meter must hold at each moment of a run, whatever the power does.
use Rattle.std.specs.Prelude.{◌≡◌, ◌⊎◌, ℕ, ◌≤◌, ℤ, List, [], ◌∷◌, ◌++◌, length, None, Some, Ok, IsTrue, slice_get}
use Rattle.metering_model.specs.Events.{Event, Kept}
use Rattle.metering_model.specs.Records.{MeterRecord, StandsFor, record_after}
use Rattle.integral_model.specs.Integral.{AllFitClosely}
use Rattle.script_model.specs.Grammar.{Metering, line_of}
use Rattle.trace_model.specs.Trace.{Trace, Start, ◌▷◌}
use Rattle.trace_model.specs.Output.{bytes_put, is_output_line, output_lines}
use Rattle.trace_model.specs.Moments.{Leaves}
use Rattle.config_model.specs.Configuration.{Configuration}
use Rattle.memory_model.specs.Stored.{Side, Holds, stored}
use Rattle.answer_model.specs.Faults.{fault_of}
use Rattle.answer_model.specs.Texts.{armed_text}
use Rattle.pairing_model.specs.Settings.{settings_for}
use Rattle.pairing_model.specs.Setup.{Setup, on_memory, settings_in}
use Rattle.pairing_model.specs.Journal.{Journal, at_start}
use Rattle.pairing_model.specs.Pairing.{Pairs}
use Rattle.recovery_model.specs.Shown.{ShowAtMost, number_shown}

-- the line after n lines is a metering event that the record in force takes
pub record NextIsEvent (s : Setup) (o : MeterRecord) (lines : List (List ℕ)) (kept : List Kept) (n : ℕ) (event : Event) : Type 0 where
  pub line : List ℕ
  pub place : slice_get lines n ≡ Some line
  pub says : line_of line ≡ Ok (Metering event)
  pub taken : fault_of s.command (record_after (settings_in s) o kept) n line ≡ None

-- the record stands for the events kept and one more, that of the next line, which is under way
pub record StandsForNext (c : Configuration) (o : MeterRecord) (lines : List (List ℕ)) (kept : List Kept) (n : ℕ) (held : MeterRecord) : Type 0 where
  pub event : Event
  pub next : NextIsEvent (on_memory c) o lines kept n event
  pub energy_mj : ℤ
  pub bound_mj : ℕ
  pub fits : AllFitClosely (settings_for c) o (kept ++ record { event = event; energy_mj = energy_mj; bound_mj = bound_mj } ∷ [])
  pub stands : StandsFor (settings_for c) o (kept ++ record { event = event; energy_mj = energy_mj; bound_mj = bound_mj } ∷ []) held

-- The memory is right at a moment of a run over these lines: it holds the configuration and a record, which stands for the
-- opening record o and the events kept so far, or for these and the one that is under way. The output lines pair with the
-- first lines, the events that they keep fit closely, and none shows more events than the record has.
pub record IsRight (c : Configuration) (o : MeterRecord) (lines : List (List ℕ)) (moment : Trace) (image : List ℕ) : Type 0 where
  pub journal : Journal
  pub pairs : Pairs (on_memory c) o 0 at_start lines (output_lines moment) journal
  pub fits : AllFitClosely (settings_for c) o journal.kept
  pub held : MeterRecord
  pub side : Side
  pub holds : stored image ≡ Holds c held side
  pub stands : StandsFor (settings_for c) o journal.kept held ⊎ StandsForNext c o lines journal.kept (length (output_lines moment)) held
  pub opening : o.seq ≤ held.seq
  pub acknowledged : ShowAtMost held.seq (output_lines moment)

-- the memory holds the configuration, and the record that stands for all events that the output lines keep
pub record HoldsKept (c : Configuration) (o : MeterRecord) (lines : List (List ℕ)) (moment : Trace) (image : List ℕ) : Type 0 where
  pub journal : Journal
  pub pairs : Pairs (on_memory c) o 0 at_start lines (output_lines moment) journal
  pub held : MeterRecord
  pub side : Side
  pub holds : stored image ≡ Holds c held side
  pub stands : StandsFor (settings_for c) o journal.kept held

-- and the output line shows its events, where it shows a number of events at all
pub record HoldsShown (c : Configuration) (o : MeterRecord) (lines : List (List ℕ)) (moment : Trace) (text : List ℕ) (image : List ℕ) : Type 0 where
  pub all : HoldsKept c o lines moment image
  pub shows : (number_shown text ≡ Some all.held.seq) ⊎ (text ≡ armed_text)

-- where the last that happened is an output line, each image before it held already what the line shows
abbrev pub HeldBefore : Configuration → MeterRecord → List (List ℕ) → Trace → Type 0
HeldBefore c o lines (Start base) = Unit {0}
HeldBefore c o lines (t ▷ e) = IsTrue (is_output_line e) → Leaves (HoldsShown c o lines (t ▷ e) (bytes_put e)) t
