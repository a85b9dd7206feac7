use Rattle.std.proofs.Common.{◌≡◌, refl, sym, subst}
use Rattle.event_script.specs.Views.{event_view}
use Rattle.meter_config.specs.Views.{settings_of}
use Rattle.billing_memory.specs.Records.{record_view}
use Rattle.answer_model.specs.Faults.{event_fault}
use Rattle.integral_model.specs.Integral.{TakesEvent}
use Rattle.std.proofs.Common.{None}
use Rattle.meter_core.specs.Events.{Takes}
use Rattle.meter_core.proofs.Records.{samples_taken, has_room}
use Rattle.meter_core.proofs.meter.Meter.apply.Goals as goal

pub returns-in-Sample-clause-takes : goal.returns-in-Sample-clause-takes
returns-in-Sample-clause-takes c =
    let old = c.args.self.now in
    let settings = settings_of old.config in
    subst (λ e. (event_fault (record_view old.record) (event_view e) ≡ None) × TakesEvent settings (record_view old.record) (event_view e) (record_view c.take_samples.new.m)) (sym c.in-Sample.is)
    (samples_taken settings old.record (record_view c.take_samples.new.m) c.in-Sample.rf c.in-Sample.rr (has_room old.record.seq old.record.seq_in_range c.if-self-eq-MAX_EVENTS.false) (c.take_samples.ensures.stands settings refl))

pub returns-in-Pulse-clause-takes : goal.returns-in-Pulse-clause-takes
returns-in-Pulse-clause-takes c =
    let old = c.args.self.now in
    let settings = settings_of old.config in
    subst (λ e. Takes settings (record_view old.record) (event_view e) (record_view c.take_pulses.new.m) c.take_pulses.result) (sym c.in-Pulse.is)
    (c.take_pulses.ensures.takes settings refl (sym old.per_pulse) old.in_force)

pub returns-in-Date-clause-takes : goal.returns-in-Date-clause-takes
returns-in-Date-clause-takes c =
    let old = c.args.self.now in
    let settings = settings_of old.config in
    subst (λ e. Takes settings (record_view old.record) (event_view e) (record_view c.take_date.new.m) c.take_date.result) (sym c.in-Date.is)
    (c.take_date.ensures.takes settings refl refl)
