use Rattle.std.proofs.Common.{◌≡◌, ◌+◌, None, refl, subst, sym, ap, ◌∙◌, arith}
use Rattle.metering_model.specs.Events.{Event}
use Rattle.metering_model.specs.Settings.{Settings}
use Rattle.integral_model.specs.Integral.{TakesEvent}
use Rattle.generator_model.specs.Generated.{event_at}
use Rattle.answer_model.specs.Faults.{event_fault}
use Rattle.billing_memory.specs.Records.{record_view}
use Rattle.event_script.specs.Views.{event_view}
use Rattle.meter_config.specs.Views.{settings_of}
use Rattle.meter_cli.proofs.Events.{HasTaken, started, taken, goes_on}
use Rattle.meter_cli.proofs.generated.meter_after.Goals as goal

pub loop-event-init : goal.loop-event-init
loop-event-init c = record {
  taken = subst (λ n. HasTaken c.args.seed n (record_view c.standard_meter-meter.result.record)) (sym c.from_number-script.ensures.given)
      (subst (λ r. HasTaken c.args.seed 0 r) (sym c.standard_meter-meter.ensures.opening) (started c.args.seed));
  settings = c.standard_meter-meter.ensures.settings;
  seed = c.from_number-script.ensures.seed;
  count = c.from_number-script.ensures.count;
}

pub take-requires : goal.take-requires
take-requires c =
    let before = c.loop-event.script in
    let now = c.in-Some.ensures in
    let event : event_view c.in-Some.event ≡ event_at c.args.seed (before.given + 1) = now.event ∙ ap (λ s. event_at s (before.given + 1)) c.loop-event.invariant.seed in
    record {
      event = now.range;
      taken = subst (λ (e : Event). event_fault (record_view c.loop-event.meter.record) e ≡ None) (sym event)
          (taken c.args.seed before.given (record_view c.loop-event.meter.record) c.loop-event.invariant.taken (omega (arith, now.some.0 refl, c.loop-event.invariant.count, c.requires)));
    }

pub loop-event-preserved : goal.loop-event-preserved
loop-event-preserved c =
    let before = c.loop-event.script in
    let r = record_view c.loop-event.meter.record in
    let new = record_view c.take.new.meter.record in
    let now = c.in-Some.ensures in
    let event : event_view c.in-Some.event ≡ event_at c.args.seed (before.given + 1) = now.event ∙ ap (λ s. event_at s (before.given + 1)) c.loop-event.invariant.seed in
    let takes = subst (λ (s : Settings). TakesEvent s r (event_at c.args.seed (before.given + 1)) new) c.loop-event.invariant.settings
    (subst (λ (e : Event). TakesEvent (settings_of c.loop-event.meter.config) r e new) event c.take.ensures.takes) in
    record {
      taken = subst (λ n. HasTaken c.args.seed n new) (omega (arith, now.given, now.some.0 refl)) (goes_on c.args.seed before.given r c.loop-event.invariant.taken new takes);
      settings = ap settings_of c.take.ensures.config ∙ c.loop-event.invariant.settings;
      seed = now.seed ∙ c.loop-event.invariant.seed;
      count = now.count ∙ c.loop-event.invariant.count;
    }
