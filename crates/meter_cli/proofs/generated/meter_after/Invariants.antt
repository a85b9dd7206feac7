use Rattle.std.proofs.Common.{◌≡◌, ◌-◌}
use Rattle.billing_memory.specs.Records.{record_view}
use Rattle.meter_config.specs.Views.{settings_of}
use Rattle.run_engine.specs.Dry.{dry_settings}
use Rattle.meter_cli.proofs.Events.{HasTaken}
use Rattle.meter_cli.proofs.generated.meter_after.Given as goal

-- the events that were given were taken
abbrev pub invariant-loop-event : goal.invariant-loop-event
invariant-loop-event l = record {
  taken : HasTaken l.seed l.script.given (record_view l.meter.record);
  settings : settings_of l.meter.config ≡ dry_settings;
  seed : l.script.seed ≡ l.seed;
  count : l.script.count ≡ l.count;
}

abbrev pub decreases-loop-event : goal.decreases-loop-event
decreases-loop-event l = l.script.count - l.script.given
