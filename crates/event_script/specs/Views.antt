-- What the code's types say, in the words of the definitions.
use Rattle.std.specs.Prelude.{◌≡◌, ℕ, ◌≤◌, List, [], length, Option, None, Some, Result, Ok, Err, MatchResult}
use Rattle.metering_model.specs.Limits.{max_pulses}
use Rattle.metering_model.specs.Events as events
use Rattle.script_model.specs.Lines.{words_of}
use Rattle.script_model.specs.Grammar as grammar
use Rattle.answer_model.specs.Faults as faults
use Rattle.event_script.specs.declared.Event.{Event}
use Rattle.event_script.specs.declared.Event.TheVariants.{Sample, Pulse, Date}
use Rattle.event_script.specs.declared.Line.{Line}
use Rattle.event_script.specs.declared.Line.TheVariants.{Metering, Power, Cut, Opt, Mbus}
use Rattle.event_script.specs.declared.Grammar.{Grammar}
use Rattle.event_script.specs.declared.LineFault.{LineFault}
use Rattle.event_script.specs.declared.LineFault.TheVariants as refused

abbrev pub event_view : Event → events.Event
event_view (Sample rf rr) = events.Sample rf rr
event_view (Pulse n) = events.Pulse n
event_view (Date day) = events.Date day.number

-- what a line says, beside which these bytes stand
abbrev pub line_view : Line → List ℕ → grammar.Line
line_view (Metering event) bytes = grammar.Metering (event_view event)
line_view Power bytes = grammar.Power
line_view (Cut n keep fill) bytes = grammar.Cut n keep fill
line_view Opt bytes = grammar.Opt bytes
line_view Mbus bytes = grammar.Mbus bytes

abbrev pub fault_view : LineFault → faults.Fault
fault_view (refused.Grammar at) = faults.Grammar at
fault_view (refused.DateBack in_force) = faults.DateBack in_force.number
fault_view (refused.PulsesFull sum) = faults.PulsesFull sum
fault_view (refused.EventsFull seq) = faults.EventsFull seq
fault_view refused.TooLong = faults.TooLong
fault_view refused.TooMany = faults.TooMany
fault_view refused.NotDry = faults.NotDry

-- what was read is what the definition says, and so is the place of the first wrong word
abbrev pub Reads : Result Line Grammar → List ℕ → Result grammar.Line ℕ → Type 0
Reads result bytes said = MatchResult result (λ line. said ≡ Ok (line_view line bytes)) (λ e. said ≡ Err e.at)

-- a pulse event has 1 to 10^15 pulses
abbrev pub IsEvent : Event → Type 0
IsEvent (Sample rf rr) = Unit {0}
IsEvent (Pulse n) = (1 ≤ n) × (n ≤ max_pulses)
IsEvent (Date day) = Unit {0}

-- a cut is within the first call or a later one, and keeps no more than the memory has
abbrev pub IsInRange : Line → Type 0
IsInRange (Metering event) = IsEvent event
IsInRange Power = Unit {0}
IsInRange (Cut n keep fill) = (1 ≤ n) × (keep ≤ 16384)
IsInRange Opt = Unit {0}
IsInRange Mbus = Unit {0}

-- a message has 1 byte at least
abbrev pub HasMessage : Line → List ℕ → Type 0
HasMessage (Metering event) bytes = Unit {0}
HasMessage Power bytes = Unit {0}
HasMessage (Cut n keep fill) bytes = Unit {0}
HasMessage Opt bytes = 1 ≤ length bytes
HasMessage Mbus bytes = 1 ≤ length bytes

-- the words that are left: none, or those of a text
abbrev pub rest_words : Option (List ℕ) → List (List ℕ)
rest_words None = []
rest_words (Some text) = words_of text
