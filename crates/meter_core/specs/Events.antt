-- What became of an event.
use Rattle.std.specs.Prelude.{◌≡◌, None, Some, Result, Ok, Err}
use Rattle.metering_model.specs.Events.{Event}
use Rattle.metering_model.specs.Settings.{Settings}
use Rattle.metering_model.specs.Records.{MeterRecord}
use Rattle.integral_model.specs.Integral.{TakesEvent}
use Rattle.answer_model.specs.Faults as faults
use Rattle.meter_core.specs.declared.refused.Refused.{Refused}
use Rattle.meter_core.specs.declared.refused.Refused.TheVariants.{EventsFull, DateBack, PulsesFull}

abbrev pub refused_view : Refused → faults.Fault
refused_view (EventsFull seq) = faults.EventsFull seq
refused_view (DateBack in_force) = faults.DateBack in_force.number
refused_view (PulsesFull sum) = faults.PulsesFull sum

-- the event is taken exactly where the definition refuses it for no cause, and else is refused for the first one
abbrev pub Takes : {T : Type 0} → Settings → MeterRecord → Event → MeterRecord → Result T Refused → Type 0
Takes c old event new (Ok t) = (faults.event_fault old event ≡ None) × TakesEvent c old event new
Takes c old event new (Err r) = faults.event_fault old event ≡ Some (refused_view r)
