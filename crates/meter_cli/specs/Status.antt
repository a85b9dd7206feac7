-- The status of a command: its number, its text, and what `dry` and `run` leave at it.
use Rattle.std.specs.Prelude.{◌≡◌, ◌⊎◌, ℕ, ◌/◌, ◌%◌, List, [], ◌∷◌, ◌++◌, codes}
use Rattle.std.specs.Char.{digit_char}
use Rattle.std.specs.Fmt.{decimal}
use Rattle.calendar_model.specs.Texts.{IsDayText}
use Rattle.trace_model.specs.Trace.{Trace}
use Rattle.accept_model.specs.Keys.{name_of}
use Rattle.meter_config.specs.declared.fault.ConfigFault.{ConfigFault}
use Rattle.meter_config.specs.declared.fault.ConfigFault.TheVariants as fault
use Rattle.register_store.specs.declared.format_fault.FormatFault.{FormatFault}
use Rattle.register_store.specs.declared.format_fault.FormatFault.TheVariants as format
use Rattle.register_store.specs.declared.unreadable.Unreadable.{Unreadable}
use Rattle.register_store.specs.declared.unreadable.Unreadable.TheVariants as reading
use Rattle.event_script.specs.declared.LineFault.{LineFault}
use Rattle.event_script.specs.declared.LineFault.TheVariants.{Grammar, DateBack, PulsesFull, EventsFull, TooLong, TooMany, NotDry}
use Rattle.run_engine.specs.declared.Ended.{Ended}
use Rattle.run_engine.specs.declared.Ended.TheVariants as ended
use Rattle.run_engine.specs.Dry.{dry_opening, dry_setup}
use Rattle.run_engine.specs.Outcome.{Outcome}
use Rattle.run_engine.specs.OutcomeOnMemory.{OutcomeByMemory}
use Rattle.memory_model.specs.Stored.{Stored}
use Rattle.meter_cli.specs.declared.status.Status.{Status}
use Rattle.meter_cli.specs.declared.status.Status.TheVariants.{Done, Usage, Config, Line, Memory, Read, Write, Unformatted, Foreign, Formatted, OutOfMemory, Cut, NotRising, BadReadout}

abbrev pub status_of : Ended → Status
status_of ended.Done = Done
status_of (ended.Line n kind) = Line n kind
status_of ended.Memory = Memory
status_of ended.Read = Read
status_of ended.Write = Write
status_of (ended.Unformatted byte) = Unformatted byte
status_of (ended.Foreign at) = Foreign at

-- the status of a text that gives no configuration
abbrev pub text_status : ConfigFault → Status
text_status fault.TooLong = Config fault.TooLong
text_status fault.Text = Config fault.Text
text_status fault.NotObject = Config fault.NotObject
text_status (fault.Missing key) = Config (fault.Missing key)
text_status (fault.Wrong key) = Config (fault.Wrong key)
text_status (fault.Unknown place) = Config (fault.Unknown place)
text_status fault.OutOfMemory = OutOfMemory

-- the status of a memory that could not be read
abbrev pub unreadable_status : Unreadable → Status
unreadable_status (reading.Unformatted byte) = Unformatted byte
unreadable_status (reading.Foreign at) = Foreign at
unreadable_status reading.Memory = Memory

-- the status of a memory that could not be formatted
abbrev pub format_status : FormatFault → Status
format_status format.Formatted = Formatted
format_status format.Memory = Memory
format_status format.Cut = Cut

-- what `dry` leaves of a script at this status
pub record DryLeaves (script : List ℕ) (trace : Trace) (status : Status) : Type 0 where
  pub ended : Ended
  pub is : status ≡ status_of ended
  pub ran : Outcome dry_setup dry_opening script trace ended

-- what `run` leaves of a script at this status, by what the memory stood for at its start
pub record RunEnds (memory : Stored) (script : List ℕ) (trace : Trace) (status : Status) : Type 0 where
  pub ended : Ended
  pub is : status ≡ status_of ended
  pub leaves : OutcomeByMemory memory script trace ended

-- each line was answered, or one was refused
abbrev pub IsDoneOrLine : Status → Type 0
IsDoneOrLine status = (status ≡ Done) ⊎ ((n : ℕ) × (kind : LineFault) × (status ≡ Line n kind))

abbrev pub code_of : Status → ℕ
code_of Done = 0
code_of (Usage word) = 2
code_of (Config fault) = 3
code_of (Line n kind) = 4
code_of Memory = 5
code_of Read = 6
code_of Write = 7
code_of (Unformatted byte) = 8
code_of (Foreign at) = 9
code_of Formatted = 10
code_of OutOfMemory = 11
code_of Cut = 12
code_of (BadReadout at) = 14
code_of (NotRising segment) = 16

-- what a status line says of a fault, the day in force as `YYYY-MM-DD`
abbrev pub IsFaultText : LineFault → List ℕ → Type 0
IsFaultText (Grammar at) text = text ≡ codes ": word " ++ decimal at
IsFaultText (DateBack in_force) text = (day : List ℕ) × IsDayText in_force.number day × (text ≡ codes ": date before " ++ day)
IsFaultText (PulsesFull sum) text = text ≡ codes ": pulses " ++ decimal sum
IsFaultText (EventsFull seq) text = text ≡ codes ": events " ++ decimal seq
IsFaultText TooLong text = text ≡ codes ": too long"
IsFaultText TooMany text = text ≡ codes ": too many"
IsFaultText NotDry text = text ≡ codes ": not in dry"

-- what a status line says of a text that is refused, with the name of the key of this number
abbrev pub config_text : ConfigFault → List ℕ
config_text fault.TooLong = codes "config: too long"
config_text fault.Text = codes "config: text"
config_text fault.NotObject = codes "config: not an object"
config_text (fault.Missing key) = codes "config: missing " ++ name_of key
config_text (fault.Wrong key) = codes "config: wrong " ++ name_of key
config_text (fault.Unknown place) = codes "config: unknown key " ++ decimal place
config_text fault.OutOfMemory = codes "out of memory"

-- a byte in two hexadecimal digits, with small letters
abbrev pub hex_byte : ℕ → List ℕ
hex_byte byte = digit_char (byte / 16) ∷ digit_char (byte % 16) ∷ []

abbrev pub IsStatusText : Status → List ℕ → Type 0
IsStatusText Done text = text ≡ []
IsStatusText (Usage word) text = text ≡ codes "usage: word " ++ decimal word
IsStatusText (Config fault) text = text ≡ config_text fault
IsStatusText (Line n kind) text = (fault : List ℕ) × IsFaultText kind fault × (text ≡ codes "line " ++ decimal n ++ fault)
IsStatusText Memory text = text ≡ codes "memory fault"
IsStatusText Read text = text ≡ codes "read fault"
IsStatusText Write text = text ≡ codes "write fault"
IsStatusText (Unformatted byte) text = text ≡ codes "not formatted: " ++ hex_byte byte
IsStatusText (Foreign at) text = text ≡ codes "foreign at " ++ decimal at
IsStatusText Formatted text = text ≡ codes "already formatted"
IsStatusText OutOfMemory text = text ≡ codes "out of memory"
IsStatusText Cut text = text ≡ codes "power cut"
IsStatusText (NotRising segment) text = text ≡ codes "not rising at " ++ decimal segment
IsStatusText (BadReadout at) text = text ≡ codes "bad readout at " ++ decimal at
