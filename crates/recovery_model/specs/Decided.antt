-- Script and output lines decide the journal.
use Rattle.std.specs.Prelude.{◌≡◌, ℕ, ◌<◌, List, length}
use Rattle.std.specs.List.{AllByRecursion}
use Rattle.metering_model.specs.Records.{MeterRecord}
use Rattle.script_model.specs.Lines.{words_of}
use Rattle.trace_model.specs.Output.{OutputLine}
use Rattle.pairing_model.specs.Setup.{Setup}
use Rattle.pairing_model.specs.Journal.{Journal, at_start}
use Rattle.pairing_model.specs.Pairing.{Pairs}

-- A line of five words shows a record, and each of its words has fewer than 64 bytes. (Of a number of more than 64 digits the
-- last 64 are written, and these don't tell the number.)
abbrev pub IsShort : List ℕ → Type 0
IsShort text = length (words_of text) ≡ 5 → AllByRecursion (λ word. length word < 64) (words_of text)

-- where the same output lines pair with the same lines of a script for two journals, the journals are the same
abbrev pub LinesDecide : Setup → MeterRecord → List (List ℕ) → List OutputLine → Type 0
LinesDecide s o lines outputs =
    (j k : Journal) → AllByRecursion (λ a. IsShort a.text) outputs → Pairs s o 0 at_start lines outputs j → Pairs s o 0 at_start lines outputs k → j ≡ k
