-- What one line says, and what its event does to a record.
use Rattle.std.specs.Prelude.{◌≡◌, ℕ, List, Some, None, Result, Ok, Err}
use Rattle.metering_model.specs.Events.{Event}
use Rattle.metering_model.specs.Settings.{Settings}
use Rattle.metering_model.specs.Records.{MeterRecord}
use Rattle.integral_model.specs.Integral.{TakesEvent}
use Rattle.script_model.specs.Grammar as grammar
use Rattle.script_model.specs.Grammar.{Metering, line_of}
use Rattle.answer_model.specs.Faults.{Command, Dry, event_fault, fault_of, said_fault}
use Rattle.event_script.specs.declared.LineFault.{LineFault}
use Rattle.event_script.specs.Views.{fault_view}

-- the record takes the event exactly where it is refused for no cause, and else it is refused for the first one
abbrev pub EventVerdict : {T : Type 0} → Settings → MeterRecord → Event → MeterRecord → Result T LineFault → Type 0
EventVerdict c old event new (Ok t) = (event_fault old event ≡ None) × TakesEvent c old event new
EventVerdict c old event new (Err kind) = event_fault old event ≡ Some (fault_view kind)

-- the line after n lines is an event, which the record takes
pub record TakenLine (command : Command) (c : Settings) (n : ℕ) (old : MeterRecord) (line : List ℕ) (new : MeterRecord) : Type 0 where
  pub event : Event
  pub taken : fault_of command old n line ≡ None
  pub says : line_of line ≡ Ok (Metering event)
  pub takes : TakesEvent c old event new

-- without a memory the record takes the event that a line says, or the line is refused for what it says
abbrev pub DryVerdict : {T : Type 0} → Settings → MeterRecord → grammar.Line → MeterRecord → Result T LineFault → Type 0
DryVerdict c old said new (Ok t) = (event : Event) × (said ≡ Metering event) × (event_fault old event ≡ None) × TakesEvent c old event new
DryVerdict c old said new (Err kind) = said_fault Dry old (Ok said) ≡ Some (fault_view kind)
