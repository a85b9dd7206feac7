-- Why a line of a script is refused.
use Rattle.std.specs.Prelude.{ℕ, ◌+◌, ◌==◌, Bool, true, cond, not, ◌&&◌, ◌||◌, nat_lt, nat_le, List, [], ◌∷◌, length, Option, None, Some, Result, Ok, Err}
use Rattle.metering_model.specs.Events.{Event, Sample, Pulse, Date}
use Rattle.metering_model.specs.Limits.{max_events, max_pulses}
use Rattle.metering_model.specs.Records.{MeterRecord}
use Rattle.script_model.specs.Grammar.{Line, Metering, Power, Cut, Opt, Mbus, line_of}

-- the commands that take a script: `dry` has no memory, so no power fails under it, and is not read out
pub data Command : Type 0 where
  Dry : Command
  Run : Command

pub data Fault : Type 0 where
  -- the place of the first wrong, missing or extra word
  Grammar : (at : ℕ) → Fault
  -- the events of the record, which is full
  EventsFull : (seq : ℕ) → Fault
  -- the day in force, which is after the date
  DateBack : (in_force : ℕ) → Fault
  -- the pulses that the register would then have
  PulsesFull : (sum : ℕ) → Fault
  TooLong : Fault
  TooMany : Fault
  -- a readout, a failure of the power or the order of one, which `dry` doesn't have
  NotDry : Fault

abbrev pub max_lines : ℕ
max_lines = 1000000

abbrev pub max_line_len : ℕ
max_line_len = 120

abbrev pub kind_fault : MeterRecord → Event → Option Fault
kind_fault r (Sample flow ret) = None
kind_fault r (Pulse n) = cond (nat_lt max_pulses (r.register.pulses + n)) (Some (PulsesFull (r.register.pulses + n))) None
kind_fault r (Date day) = cond (nat_lt day r.day) (Some (DateBack r.day)) None

-- why the record in force does not take an event
abbrev pub event_fault : MeterRecord → Event → Option Fault
event_fault r event = cond (r.seq == max_events) (Some (EventsFull r.seq)) (kind_fault r event)

-- why a line that is no metering event is refused
abbrev pub dry_fault : Command → Option Fault
dry_fault Dry = Some NotDry
dry_fault Run = None

abbrev pub said_fault : Command → MeterRecord → Result Line ℕ → Option Fault
said_fault command r (Ok (Metering event)) = event_fault r event
said_fault command r (Ok Power) = dry_fault command
said_fault command r (Ok (Cut n keep fill)) = dry_fault command
said_fault command r (Ok (Opt message)) = dry_fault command
said_fault command r (Ok (Mbus bytes)) = dry_fault command
said_fault command r (Err place) = Some (Grammar place)

-- why the line after n lines is refused, where r is the record in force
abbrev pub fault_of : Command → MeterRecord → ℕ → List ℕ → Option Fault
fault_of command r n line = cond (nat_le max_lines n) (Some TooMany) (cond (nat_lt max_line_len (length line)) (Some TooLong) (said_fault command r (line_of line)))

-- no LF (10) is among these bytes
abbrev pub has_no_end : List ℕ → Bool
has_no_end [] = true
has_no_end (c ∷ cs) = not (c == 10) && has_no_end cs

-- These bytes behind n lines leave open what the next line says and why it is refused: they have no line's end, and more of
-- them are needed to make it too long, or one line too many.
abbrev pub is_open : ℕ → List ℕ → Bool
is_open n front = has_no_end front && nat_le (length front) max_line_len && (nat_lt n max_lines || length front == 0)
