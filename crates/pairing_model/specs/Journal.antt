-- What output lines leave: the events that they keep, and what was heard meanwhile.
use Rattle.std.specs.Prelude.{ℕ, List, [], Option, None}
use Rattle.metering_model.specs.Events.{Kept}
use Rattle.metering_model.specs.Records.{MeterRecord, record_after}
use Rattle.slave_model.specs.Heard.{Heard}
use Rattle.pairing_model.specs.Setup.{Setup, settings_in}

-- The events kept, and how many metering events met a power failure. And since the start: the last message at the optical
-- head, where there was one, and the frames on the bus in their order, each with the record in force when it was heard.
pub record Journal : Type 0 where
  pub kept : List Kept
  pub interrupted : ℕ
  pub last_message : Option (List ℕ)
  pub frames : List Heard

-- at a start, when nothing was heard yet
abbrev pub started : List Kept → (interrupted : ℕ) → Journal
started kept interrupted = record { kept = kept; interrupted = interrupted; last_message = None; frames = [] }

-- at the first start
abbrev pub at_start : Journal
at_start = record { kept = []; interrupted = 0; last_message = None; frames = [] }

-- the record that stands for the opening record o and the events kept
abbrev pub in_force : Setup → MeterRecord → Journal → MeterRecord
in_force s o j = record_after (settings_in s) o j.kept
